use Rattle.std.proofs.Common.{sym, ◌∙◌}
use Rattle.fr_requests.proofs.Items.{word_settles}
use Rattle.fr_requests.specs.Requests.{edit_of_word}
use Rattle.fr_requests.proofs.read.edit.Goals as goal

pub returns : goal.returns
returns c =
    c.edit_by_word.ensures
    ∙ sym (word_settles edit_of_word _ _ _ _ (sym c.in_ok-items_of.ensures) c.in-len1-up.len_at_least c.first-item.is
    (sym c.in_ok-word_in.ensures))

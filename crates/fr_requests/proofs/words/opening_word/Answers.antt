use Rattle.std.proofs.Common.{sym, ◌∙◌}
use Rattle.fr_requests.specs.LineLexemes.{letters}
use Rattle.fr_requests.proofs.FrontTexts.{letters_ascii, letters_plain, opens_with}
use Rattle.fr_requests.proofs.words.opening_word.Goals as goal

pub returns : goal.returns
returns c =
    let word = c.in_ok-word.word in
    opens_with (letters word) _ _ c.in_ok-word.rest.now (letters_plain word) (letters_ascii word)
    c.in_ok-skip_mark.ensures.read
    (sym c.skip_space.ensures ∙ c.in_ok-word.ensures)

use Rattle.std.proofs.Common.{ap, option_map, ℕ}
use Rattle.fr_requests.specs.Requests.{edit_of_word}
use Rattle.fr_graph.specs.declared.edit.Edit.TheVariants.{Add, Cut, Join}
use Rattle.fr_requests.proofs.read.edit_by_word.Goals as goal

pub returns-in-cut : goal.returns-in-cut
unfolding edit_of_word
returns-in-cut c = rw c.in-cut.is (ap (option_map (λ (pair : ℕ × ℕ). Cut pair.0 pair.1)) c.in_ok-u.ensures)

pub returns-in-add : goal.returns-in-add
unfolding edit_of_word
returns-in-add c = rw c.in-add.is (ap (option_map (λ (pair : ℕ × ℕ). Add pair.0 pair.1)) c.in_ok-u.ensures)

pub returns-in-join : goal.returns-in-join
unfolding edit_of_word
returns-in-join c = rw c.in-join.is (ap (option_map (λ (pair : ℕ × ℕ). Join pair.0 pair.1)) c.in_ok-u.ensures)

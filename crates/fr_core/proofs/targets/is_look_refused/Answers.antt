use Rattle.std.proofs.Common.{List, arith, inl, inr, length, ℕ, ⊎_elim, ◌<◌, ◌≡◌}
use Rattle.std.proofs.lemmas.Bool.{cases_lt}
use Rattle.std.proofs.lemmas.Bool.Decides.{nat_tests}
use Rattle.fr_core.specs.Targets.{IsUnlookable}
use Rattle.fr_graph.proofs.Neighbours.{row_alone, row_linked}
use Rattle.fr_graph.specs.Rows.{row}
use Rattle.fr_core.proofs.targets.is_look_refused.Goals as goal

-- a node cannot be looked at only where its row is empty
empty_row : (n : ℕ) (links : List (ℕ × ℕ)) (x : ℕ) → x < n → IsUnlookable n links x → length (row n links x) ≡ 0
empty_row n links x inside (inl past) = absurd (omega arith)
empty_row n links x inside (inr alone) = ⊎_elim (λ some. let w = row_linked n links x some in absurd (alone w.0 w.1))
    (λ none. omega arith) (cases_lt 0 (length (row n links x)))

pub returns-else-x-nodes : goal.returns-else-x-nodes
returns-else-x-nodes c = (
  λ none. inr (row_alone c.args.net.now.nodes c.args.net.now.links c.args.x c.nodes.ensures.faultless.is_net
      (let z : c.degree.result ≡ 0 = grind (arith, nat_tests) in omega (arith, c.degree.ensures))),
  λ refused. (let z = empty_row c.args.net.now.nodes c.args.net.now.links c.args.x
      (omega (arith, c.nodes.ensures.value, c.if-x-nodes.false)) refused in grind (arith, nat_tests)),
)

use Rattle.std.proofs.Common.{◌≡◌, ℕ, drop}
use Rattle.fr_graph.specs.RowLists.{out_links}
use Rattle.fr_graph.proofs.links.first_outward.Given as goal

abbrev pub invariant-loop-place : goal.invariant-loop-place
invariant-loop-place l = (x : ℕ) → out_links x l.row ≡ out_links x (drop l.place l.row)

use Rattle.std.proofs.Common.{All, take, ℕ}
use Rattle.fr_core.specs.CutOff.{HasTurned}
use Rattle.fr_graph.specs.Rows.{row}
use Rattle.fr_core.proofs.cut_off.are_turned_nodes_apart.Given as goal

-- each node so far has neighbours that have turned
abbrev pub invariant-loop-x : goal.invariant-loop-x
invariant-loop-x l = All (λ (x : ℕ). All (HasTurned l.counts) (row l.net.nodes l.net.links x)) (take l.x-index l.turned)

use Rattle.std.proofs.Common.{length, take, ◌*◌, ◌+◌, ◌≡◌}
use Rattle.fr_graph.specs.Heights.{AreStacked}
use Rattle.fr_graph.proofs.heights.set_rising_heights.Given as goal

-- the nodes so far are stacked
abbrev pub invariant-loop-x : goal.invariant-loop-x
invariant-loop-x l = record {
  height : l.height ≡ l.base + l.x-index * l.step;
  one_each : length l.of ≡ length l.fn.of;
  stacked : AreStacked (take l.x-index l.nodes) l.base l.step l.fn.of l.of;
}

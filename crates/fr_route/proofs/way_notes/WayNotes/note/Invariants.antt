use Rattle.std.proofs.Common.{length, ◌-◌}
use Rattle.fr_route.proofs.WayNoting.{IsNoting}
use Rattle.fr_route.specs.States.{state_with}
use Rattle.fr_route.proofs.way_notes.WayNotes.note.Given as goal

abbrev pub invariant-loop-read : goal.invariant-loop-read
invariant-loop-read l =
    IsNoting (state_with l.net l.fn.distances.dest l.turns) l.edits l.fn.distances l.fn.self l.read l.self

abbrev pub decreases-loop-read : goal.decreases-loop-read
decreases-loop-read l = length l.self.affected.nodes - l.read

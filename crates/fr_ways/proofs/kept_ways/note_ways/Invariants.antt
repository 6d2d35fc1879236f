use Rattle.std.proofs.Common.{length, take, ◌≡◌}
use Rattle.fr_ways.specs.Plans.{AreNoted}
use Rattle.fr_ways.proofs.kept_ways.note_ways.Given as goal

abbrev pub invariant-loop-y : goal.invariant-loop-y
invariant-loop-y l = record {
  one_each : length l.noted ≡ length l.fn.noted;
  noted : AreNoted (take l.y-index l.ways) l.noted;
}

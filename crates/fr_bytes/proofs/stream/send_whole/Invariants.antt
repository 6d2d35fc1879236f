use Rattle.std.proofs.Common.{length, take, ◌-◌, ◌≤◌}
use Rattle.fr_bytes.specs.Streams.{Writes}
use Rattle.fr_bytes.proofs.stream.send_whole.Given as goal

abbrev pub invariant-loop-done : goal.invariant-loop-done
invariant-loop-done g l = record {
  in_range : l.done ≤ length l.bytes;
  written : Writes (g.S.Stream.traffic l.fn.stream) (g.S.Stream.traffic l.stream) (take l.done l.bytes);
}

abbrev pub decreases-loop-done : goal.decreases-loop-done
decreases-loop-done g l = length l.bytes - l.done

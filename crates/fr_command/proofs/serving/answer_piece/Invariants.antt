use Rattle.std.proofs.Common.{length, take, ◌-◌, ◌≤◌}
use Rattle.fr_command.specs.InPieces.{Tells}
use Rattle.fr_command.proofs.serving.answer_piece.Given as goal

abbrev pub invariant-loop-done : goal.invariant-loop-done
invariant-loop-done g l = record {
  in_range : l.done ≤ length l.piece;
  tells : Tells l.fn.conversation (take l.done l.piece) l.conversation (g.S.Stream.traffic l.fn.stream)
      (g.S.Stream.traffic l.stream);
}

abbrev pub decreases-loop-done : goal.decreases-loop-done
decreases-loop-done g l = length l.piece - l.done

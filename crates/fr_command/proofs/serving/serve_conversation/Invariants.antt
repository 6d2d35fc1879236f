use Rattle.std.proofs.Common.{◌≡◌, length}
use Rattle.fr_bytes.specs.declared.input.TheConstants.{PIECE}
use Rattle.fr_command.proofs.InTime.{InTime}
use Rattle.fr_command.proofs.Served.{HasServed}
use Rattle.fr_command.proofs.serving.serve_conversation.Given as goal

abbrev pub invariant-reads : goal.invariant-reads
invariant-reads g l = record {
  served : HasServed l.fn.conversation.form (g.S.Stream.traffic l.fn.stream).left (g.S.Stream.traffic l.stream).left
      (g.S.Stream.traffic l.fn.stream).written (g.S.Stream.traffic l.stream).written l.conversation;
  in_time : InTime l.fn.conversation.form (g.S.Stream.traffic l.fn.stream).log (g.S.Stream.traffic l.stream).log
      l.conversation;
  long : length l.piece ≡ PIECE;
}

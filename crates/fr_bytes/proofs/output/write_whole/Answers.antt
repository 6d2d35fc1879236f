use Rattle.std.proofs.Common.{◌+◌, ◌≤◌, length, subst, arith}
use Rattle.std.proofs.lemmas.List.{length-take}
use Rattle.std.proofs.Common.{length-drop}
use Rattle.std.proofs.KnownBytes.{Appends-trans}
use Rattle.std.specs.Io.KnownBytes.{Appends}
use Rattle.fr_bytes.proofs.Pieces.{take-more}
use Rattle.fr_bytes.proofs.output.write_whole.Goals as goal

pub loop-done-preserved : goal.loop-done-preserved
loop-done-preserved g c =
    let in_range : c.loop-done.done + c.in-Ok.count ≤ length c.args.bytes.now =
    omega (arith, simp (length-take, length-drop) at c.in-Ok.ensures.bound) in
    record {
      in_range = in_range;
      written = subst (Appends (g.W.Write.contents c.args.writer.now) (g.W.Write.contents c.write.new.self))
          (take-more c.args.bytes.now c.loop-done.done c.in-Ok.count in_range)
          (Appends-trans _ _ _ _ _ c.loop-done.invariant.written c.in-Ok.ensures.bytes);
    }

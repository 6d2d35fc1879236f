use Rattle.std.proofs.Common.{◌+◌, ◌≤◌, length, subst, arith}
use Rattle.std.proofs.lemmas.List.{length-take}
use Rattle.std.proofs.Common.{length-drop}
use Rattle.fr_bytes.specs.Streams.{Writes}
use Rattle.fr_bytes.proofs.Pieces.{take-more}
use Rattle.fr_bytes.proofs.Traffics.{writes_on}
use Rattle.fr_bytes.proofs.stream.send_whole.Goals as goal

pub loop-done-preserved : goal.loop-done-preserved
loop-done-preserved g c =
    let done = c.loop-done.done in
    let count = c.in_ok-count.count in
    let in_range : done + count ≤ length c.args.bytes.now =
    omega (arith, simp (length-take, length-drop) at c.in_ok-count.ensures.bound) in
    record {
      in_range = in_range;
      written = subst (Writes (g.S.Stream.traffic c.args.stream.now) (g.S.Stream.traffic c.write.new.self))
          (take-more c.args.bytes.now done count in_range)
          (writes_on _ _ _ _ _ c.loop-done.invariant.written c.in_ok-count.ensures.ok);
    }

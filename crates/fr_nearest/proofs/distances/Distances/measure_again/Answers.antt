use Rattle.std.proofs.Common.{ap, arith, length}
use Rattle.fr_nearest.specs.Distances.{Measured}
use Rattle.fr_nearest.proofs.Renewing.{renewed}
use Rattle.fr_nearest.proofs.distances.Distances.measure_again.Goals as goal

pub returns : goal.returns
returns c =
    let was = ap (λ (m : Measured). m.table) c.self.view_is in
    let are = c.measure_all.ensures.distances in
    renewed c.args.net.now c.args.dest c.args.self.now c.self.inside.of was
    (omega (arith, are.one_each, c.requires.one_each, ap length was)) are c.deref-2.ensures.value
    c.note_all_changed.ensures.noted
    (rw c.note_all_changed.ensures.before (rw c.deref.ensures.value at c.reset.ensures).before)

use Rattle.std.proofs.Common.{arith, length, refl, ◌≡◌}
use Rattle.fr_ways.proofs.Planning.{phases_from}
use Rattle.fr_ways.proofs.plan.known_phases.Goals as goal

pub returns : goal.returns
returns c =
    let all : c.loop-x.x ≡ length c.args.new.now =
    omega (arith, c.loop-x.invariant.low, c.loop-x-test.false, c.len-x-end.ensures) in
    let e = c.in_ok-add_emptied.ensures in
    phases_from c.args.old.now c.args.new.now c.loop-x.x c.loop-x.plan _ c.loop-x.invariant.plan all
    (rw c.deref.ensures.value at e.nodes) (rw c.deref.ensures.value at e.lists) refl

use Rattle.std.proofs.Common.{arith, subst, List, ℕ}
use Rattle.std.proofs.lemmas.List.{take_all}
use Rattle.fr_nearest.specs.Changes.{IsTakenOver}
use Rattle.fr_nearest.proofs.NotedNodes.{taken_more, taken_none}
use Rattle.fr_nearest.proofs.distance_changes.copy_and_unmark.Goals as goal

pub loop-x-init : goal.loop-x-init
loop-x-init c =
    taken_none c.args.distances.now c.args.before.now c.args.noted.now c.requires.before_each c.requires.noted_each

pub loop-x-preserved : goal.loop-x-preserved
loop-x-preserved c =
    taken_more c.args.nodes.now c.loop-x.x-index c.loop-x-test.true
    (c.requires.nodes c.loop-x.x-index 0 c.loop-x-test.true) c.loop-x.invariant

pub returns : goal.returns
returns c =
    subst (λ (xs : List ℕ). IsTakenOver c.args.distances.now xs c.args.before.now c.args.noted.now c.loop-x.before
    c.loop-x.noted)
    (take_all c.loop-x.x-index c.args.nodes.now (omega (arith, c.loop-x-test.false))) c.loop-x.invariant

use Rattle.std.proofs.Common.{List, arith, refl, subst, ◌∙◌, ℕ}
use Rattle.std.proofs.lemmas.List.{take_all}
use Rattle.fr_nearest.specs.Update.{ListsTurned}
use Rattle.fr_nearest.proofs.Listing.{turned_more, turned_none}
use Rattle.fr_nearest.proofs.update.list_turned.Goals as goal

pub loop-x-init : goal.loop-x-init
loop-x-init c = record {
  turned = turned_none c.args.net.now c.args.distances.now c.args.event c.args.list.now.items c.requires.listed;
  room = refl;
}

pub loop-x-preserved : goal.loop-x-preserved
loop-x-preserved c =
    let inv = c.loop-x.invariant in
    let near = c.list_turned_node.ensures.listed c.if-not-list_turned_node.false in
    record {
      turned = turned_more c.args.turned.now c.loop-x.x-index c.loop-x-test.true inv.turned near.0 near.1;
      room = c.list_turned_node.ensures.room ∙ inv.room;
    }

pub returns-clause-listed : goal.returns-clause-listed
returns-clause-listed c =
    let net = c.args.net.now in
    let list = c.args.list.now.items in
    λ _. subst (λ (xs : List ℕ). ListsTurned net c.args.distances.now c.args.event xs list c.loop-x.list.items)
    (take_all c.loop-x.x-index c.args.turned.now (omega (arith, c.loop-x-test.false))) c.loop-x.invariant.turned

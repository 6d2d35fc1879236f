use Rattle.std.proofs.Common.{arith, get_or, length, refl, rules, slice_index, ◌∙◌, ◌≡◌}
use Rattle.fr_graph.specs.Rows.{row}
use Rattle.fr_graph.specs.declared.first.First.TheVariants.{Inward, Outward}
use Rattle.fr_nearest.specs.Update.{ListsSome}
use Rattle.fr_nearest.proofs.Entries.{entry_inside}
use Rattle.fr_nearest.proofs.Updating.{affected_all, some_more, some_none, some_other}
use Rattle.fr_nearest.proofs.update.list_affected.Goals as goal
use Rattle.fr_nearest.proofs.update.list_affected.Goals.{else-eq-via-then-eq+else-not-list_if_affected, else-eq-via-else-eq}

pub list_if_affected-requires : goal.list_if_affected-requires
list_if_affected-requires c = record {
  node = entry_inside c.args.net.now c.args.x c.row-row.result.now c.loop-y.y-index c.args.distances.now
      c.row-row.ensures c.loop-y-test.true c.requires.one_each;
  few = omega (arith, c.requires.one_each, c.network_law.ensures.limits.nodes_few);
  listed = rw c.requires.one_each c.loop-y.invariant.listed;
  room = omega (arith, c.requires.one_each, c.requires.room, c.loop-y.invariant.room);
}

pub loop-y-init : goal.loop-y-init
loop-y-init c = record {
  some = some_none c.args.distances.now c.args.old (slice_index c.args.distances.now c.args.x) c.row-row.result.now
      c.args.list.now.items;
  listed = c.requires.listed;
  room = refl;
}

pub loop-y-preserved : goal.loop-y-preserved
loop-y-preserved c =
    let inv = c.loop-y.invariant in
    elim c.else-eq.branch [
      | else-eq-via-then-eq+else-not-list_if_affected w ↦
          let one = w.list_if_affected.ensures.listed w.if-not-list_if_affected.false in
          rw w.list-is record {
            some = some_more inv.some c.loop-y-test.true one;
            listed = rw c.requires.one_each at one.listed;
            room = w.list_if_affected.ensures.room ∙ inv.room;
          }
      | else-eq-via-else-eq w ↦
          let other : ¬ ((get_or c.row-row.result.now c.loop-y.y-index (0, Outward)).1 ≡ Inward) = search rules in
          rw w.list-is record {
            some = some_other inv.some c.loop-y-test.true other;
            listed = inv.listed;
            room = inv.room;
          }
    ]

pub returns-clause-listed : goal.returns-clause-listed
returns-clause-listed c =
    let net = c.args.net.now in
    let inv = c.loop-y.invariant in
    let all : c.loop-y.y-index ≡ length c.row-row.result.now = omega arith in
    let entries = row net.nodes net.links c.args.x in
    let some : ListsSome c.args.distances.now c.args.old (slice_index c.args.distances.now c.args.x) entries (length entries)
    c.args.list.now.items c.loop-y.list.items = rw (all, c.row-row.ensures) at inv.some in
    λ _. affected_all c.network_law.ensures.is_net inv.listed some

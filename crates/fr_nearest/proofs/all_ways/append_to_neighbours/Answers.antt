use Rattle.std.proofs.Common.{arith, get_or, inl, inr, refl, slice_index, sym, ◌<◌, ◌∙◌}
use Rattle.std.proofs.lemmas.Bool.{cases_Bool, false≢true}
use Rattle.fr_graph.proofs.SideRows.{entry_below}
use Rattle.fr_graph.specs.declared.first.First.TheVariants.{Outward}
use Rattle.fr_nearest.proofs.Entries.{entry_inside}
use Rattle.fr_nearest.proofs.Filling.{all_read, filling_as, has_room, none_read, step_other, step_way}
use Rattle.fr_nearest.proofs.all_ways.append_to_neighbours.Goals as goal

pub loop-y-init : goal.loop-y-init
loop-y-init c = λ table starts listing.
    filling_as (none_read c.network_law.ensures.is_net table c.args.order.now starts c.args.at c.requires.left
    c.row-row.result.now c.row-row.ensures) listing.filling

pub append_if-requires-clause-number : goal.append_if-requires-clause-number
append_if-requires-clause-number c =
    let (table, starts, listing) = c.requires.listing in
    entry_inside c.args.net.now (slice_index c.args.order.now c.args.at) c.row-row.result.now c.loop-y.y-index
    c.loop-y.ends c.row-row.ensures c.loop-y-test.true (c.loop-y.invariant table starts listing).one_each

pub append_if-requires-clause-room : goal.append_if-requires-clause-room
append_if-requires-clause-room c =
    let net = c.args.net.now in
    let (table, starts, listing) = c.requires.listing in
    let filling = c.loop-y.invariant table starts listing in
    let y = (get_or c.row-row.result.now c.loop-y.y-index (0, Outward)).0 in
    let low : y < net.nodes = entry_below net.nodes net.links (slice_index c.args.order.now c.args.at)
    c.row-row.result.now c.loop-y.y-index (0, Outward) c.row-row.ensures c.loop-y-test.true in
    let room = has_room c.network_law.ensures.is_net table c.args.order.now starts c.args.at c.requires.left
    c.row-row.result.now c.row-row.ensures c.loop-y.y-index c.loop-y-test.true listing c.loop-y.ends c.loop-y.list
    filling low in
    omega (arith, room, filling.rooms.inside y low)

pub loop-y-preserved : goal.loop-y-preserved
loop-y-preserved c = λ table starts listing.
    let net = c.args.net.now in
    let is_net = c.network_law.ensures.is_net in
    let order = c.args.order.now in
    let at = c.args.at in
    let entries = c.row-row.result.now in
    let place = c.loop-y.y-index in
    let inside = c.loop-y-test.true in
    let filling = c.loop-y.invariant table starts listing in
    let low = entry_below net.nodes net.links (slice_index order at) entries place (0, Outward) c.row-row.ensures
    inside in
    let put = c.append_if.ensures in
    elim (cases_Bool c.points_away-is_way.result) [
      | inl t ↦ rw (put.list, put.other (rw t (λ e. false≢true e)))
          (step_other is_net table order starts at c.requires.left entries c.row-row.ensures place inside listing
          filling low (c.points_away-is_way.ensures.0 t))
      | inr f ↦ rw (put.list, put.there (rw f refl))
          (step_way is_net table order starts at c.requires.left entries c.row-row.ensures place inside listing filling
          low (λ out. false≢true (sym f ∙ c.points_away-is_way.ensures.1 out)))
    ]

pub returns : goal.returns
returns c = record {
  listing = λ table starts listing. record {
    below = listing.below;
    rises = listing.rises;
    filling = filling_as (all_read c.network_law.ensures.is_net table c.args.order.now starts c.args.at c.requires.left
        c.row-row.result.now c.row-row.ensures c.loop-y.y-index (omega (arith, c.loop-y-test.false)))
        (c.loop-y.invariant table starts listing);
  };
}

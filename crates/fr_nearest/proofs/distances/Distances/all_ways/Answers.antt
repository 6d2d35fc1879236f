use Rattle.std.proofs.Common.{List, ap, arith, length, rules, subst, sym, ℕ, ◌+◌, ◌≡◌}
use Rattle.std.specs.Vec.{with_items}
use Rattle.std.proofs.lemmas.List.{with_items_is}
use Rattle.fr_nearest.specs.Order.{AreInOrder, IsListing}
use Rattle.fr_nearest.proofs.Filling.{begin_listing, ways_held}
use Rattle.fr_nearest.proofs.distances.Distances.all_ways.Goals as goal

pub loop-at-init : goal.loop-at-init
loop-at-init c =
    let table = c.args.self.now.table in
    let starts = c.in_ok-starts.starts.items in
    let list = c.in_ok-list.list.items in
    let ends : c.in_ok-ends.ends.items ≡ starts = search rules in
    let long : length list ≡ c.in_ok-starts.room = search rules in
    let in_order : AreInOrder table c.in_ok-order.order.items = rw (sym c.numbers.ensures) c.in_ok-order.ensures in
    rw ends (begin_listing in_order c.requires.measured.one_each (rw long c.in_ok-starts.ensures))

pub loop-at-preserved : goal.loop-at-preserved
loop-at-preserved c =
    let net = c.args.net.now in
    let table = c.args.self.now.table in
    let order = c.in_ok-order.order.items in
    let starts = c.in_ok-starts.starts.items in
    let ends = c.append_to_neighbours.new.ends in
    let list = c.append_to_neighbours.new.list in
    let next = c.loop-at.at + 1 in
    let now : IsListing net table order starts ends list next =
    rw c.deref-in-loop-at.ensures.value at (c.append_to_neighbours.ensures.listing table starts
    (rw (c.deref-in-loop-at.ensures.value, c.deref_mut.ensures.value, c.deref_mut-in-loop-at.ensures.value)
    c.loop-at.invariant)) in
    let ends_are : (with_items c.loop-at.ends ends).items ≡ ends = with_items_is c.loop-at.ends ends
    (omega (arith, c.append_to_neighbours.auto.ends, ap length c.deref_mut.ensures.value, c.loop-at.ends.ok.0)) in
    let list_is : (with_items c.loop-at.list list).items ≡ list = with_items_is c.loop-at.list list
    (omega (
      arith,
      c.append_to_neighbours.auto.list,
      ap length c.deref_mut-in-loop-at.ensures.value,
      c.loop-at.list.ok.0,
    )) in
    subst (λ (es : List ℕ). IsListing net table order starts es (with_items c.loop-at.list list).items next)
    (sym ends_are)
    (subst (λ (xs : List ℕ). IsListing net table order starts ends xs next) (sym list_is) now)

pub returns : goal.returns
returns c =
    let law = c.network_law.ensures in
    let m = c.args.self.now in
    let inv = c.loop-at.invariant in
    let filling = inv.filling in
    let in_order : AreInOrder m.table c.in_ok-order.order.items = rw (sym c.numbers.ensures) c.in_ok-order.ensures in
    record {
      starts = filling.rooms.one_each;
      ends = filling.one_each;
      rise = λ x low. (filling.each x low).rise;
      inside = λ x low. omega (arith, (filling.each x low).fits, filling.rooms.inside x low);
      each = λ x low. ways_held m.dest c.loop-at.at x law.is_net law.limits.nodes_few c.requires.measured in_order
          (omega (arith, c.loop-at-test.false)) inv low;
    }

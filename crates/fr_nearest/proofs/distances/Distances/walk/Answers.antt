use Rattle.std.proofs.Common.{arith, slice_index, ◌<◌, ℕ}
use Rattle.std.proofs.lemmas.List.{length_push}
use Rattle.fr_nearest.specs.Ways.{IsWay}
use Rattle.fr_nearest.proofs.Walking.{goes_home, goes_next, home, next_low, next_nearer, next_some, not_home}
use Rattle.fr_nearest.proofs.distances.Distances.walk.Goals as goal

pub push_reserved-requires-in-Some-first_way : goal.push_reserved-requires-in-Some-first_way
push_reserved-requires-in-Some-first_way c =
    let inv = c.ways.invariant in
    let nearer =
    next_nearer c.args.net.now c.args.self.now c.ways.at c.network_law.ensures.is_net c.requires.measured inv.low
    inv.some
    c.in-Some-first_way.next c.in-Some-first_way.ensures in
    omega (arith, nearer, inv.room, c.ways.walk.ok.0)

pub ways-smaller : goal.ways-smaller
ways-smaller c =
    let inv = c.ways.invariant in
    let nearer =
    next_nearer c.args.net.now c.args.self.now c.ways.at c.network_law.ensures.is_net c.requires.measured inv.low
    inv.some
    c.in-Some-first_way.next c.in-Some-first_way.ensures in
    let less : slice_index c.args.self.now.table c.in-Some-first_way.next
    < slice_index c.args.self.now.table c.ways.at = omega (arith, nearer) in
    less

pub ways-preserved : goal.ways-preserved
ways-preserved c =
    let inv = c.ways.invariant in
    let net = c.args.net.now in
    let m = c.args.self.now in
    let is_net = c.network_law.ensures.is_net in
    let next = c.in-Some-first_way.next in
    let first = c.in-Some-first_way.ensures in
    let push = c.push_reserved-in-Some-first_way.ensures in
    let nearer = next_nearer net m c.ways.at is_net c.requires.measured inv.low inv.some next first in
    record {
      low = next_low net m c.ways.at is_net c.requires.measured inv.low inv.some next first;
      some = next_some net m c.ways.at is_net c.requires.measured inv.low inv.some next first;
      room = rw (push.items, push.capacity) (omega (arith, length_push c.ways.walk.items next, nearer, inv.room));
      goes =
          rw push.items (goes_next next
          (not_home net m c.ways.at is_net c.requires.measured inv.low inv.some next first) first inv.goes);
    }

pub returns : goal.returns
returns c =
    let inv = c.ways.invariant in
    let none : (w : ℕ) → ¬ IsWay c.args.net.now.links c.args.self.now.dest c.ways.at w =
    c.in_default-first_way.ensures in
    goes_home (home c.args.net.now c.args.self.now c.ways.at c.network_law.ensures.is_net c.requires.measured inv.low
    inv.some none) inv.goes

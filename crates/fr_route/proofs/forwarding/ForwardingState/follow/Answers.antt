use Rattle.std.proofs.Common.{◌≡◌, ◌∙◌, List, ap, arith, length, subst, sym, ℕ}
use Rattle.std.proofs.lemmas.List.{with_items_is}
use Rattle.std.specs.Vec.{with_items}
use Rattle.std.specs.declared.alloc.Global.{Global}
use Rattle.std.specs.declared.vec.Vec.{Vec}
use Rattle.fr_graph.specs.Network.{Network}
use Rattle.fr_tables.specs.Pushes.{IsPushOrder}
use Rattle.fr_tables.specs.declared.hop.Hop.{Hop}
use Rattle.fr_route.specs.KeptDistances.{KeepsDistances}
use Rattle.fr_route.specs.Listing.{HasPlaces, IsListing, nodes_told, ways_told}
use Rattle.fr_route.specs.Outcomes.{AreOthers, settled_state}
use Rattle.fr_route.specs.Routes.{AreHops}
use Rattle.fr_route.specs.States.{IsAfterRound, State, state_with}
use Rattle.fr_route.proofs.CutNodes.{after_outcome}
use Rattle.fr_route.proofs.Following.{led_on, ways_after}
use Rattle.fr_route.proofs.ChangedHops.{listing_has}
use Rattle.fr_route.proofs.SettledHops.{settled_in_range, settled_loop_free}
use Rattle.fr_route.proofs.WaysTold.{same_asking}
use Rattle.fr_route.proofs.forwarding.ForwardingState.follow.Goals as goal
use Rattle.fr_route.proofs.forwarding.ForwardingState.follow.Goals.{After-apply_outcome, After-deref}
use Rattle.fr_route.proofs.forwarding.ForwardingState.follow.Goals.{After-put_in_order}

items_put : (v : Vec Hop Global) (hops : List Hop) → length hops ≡ length v.items → (with_items v hops).items ≡ hops
items_put v hops as_many = with_items_is v hops (omega (arith, as_many, v.ok.0))

pub apply_outcome-requires-clause-moved : goal.apply_outcome-requires-clause-moved
apply_outcome-requires-clause-moved c = rw c.deref_mut.ensures.value c.requires.follows.moved_hops

pub apply_outcome-requires-clause-one_each : goal.apply_outcome-requires-clause-one_each
apply_outcome-requires-clause-one_each c = rw c.deref_mut.ensures.value c.requires.follows.one_each

pub renew-requires-clause-node : goal.renew-requires-clause-node
renew-requires-clause-node c = rw c.apply_outcome.ensures.net c.requires.follows.counted.destination

pub renew-requires-clause-one_each : goal.renew-requires-clause-one_each
renew-requires-clause-one_each c = rw c.apply_outcome.ensures.net c.requires.follows.measured

pub renew-requires-clause-old : goal.renew-requires-clause-old
renew-requires-clause-old c = rw c.apply_outcome.ensures.net c.requires.follows.old

-- the hops after the round
as_many : (c : After-apply_outcome) → length c.apply_outcome.new.hops ≡ length c.args.self.now.hops.items
as_many c = omega (arith, c.apply_outcome.ensures.hops.one_each, c.requires.follows.one_each)

hops_put : (c : After-deref) → c.deref.result.now ≡ c.apply_outcome.new.hops
hops_put c = c.deref.ensures.value
    ∙ items_put c.args.self.now.hops c.apply_outcome.new.hops
    (omega (arith, c.apply_outcome.ensures.hops.one_each, c.requires.follows.one_each))

hops_are : (c : After-deref)
    → AreHops (settled_state c.args.net.now c.args.outcome.now.dest c.args.outcome.now.turns) c.args.net.now.nodes
    c.deref.result.now
hops_are c = subst (AreHops (settled_state c.args.net.now c.args.outcome.now.dest c.args.outcome.now.turns)
    c.args.net.now.nodes) (sym (hops_put c)) c.apply_outcome.ensures.hops

-- the list has exactly the nodes whose hop has changed
others_told : (c : After-apply_outcome) → IsListing c.args.told.now
    → AreOthers c.args.self.now.hops.items c.apply_outcome.new.hops (nodes_told c.apply_outcome.new.told)
others_told c listing =
    (rw c.deref_mut.ensures.value at c.apply_outcome.ensures.told.others)
    (subst (λ (n : ℕ). HasPlaces n c.args.told.now) (sym c.requires.follows.one_each)
    (c.requires.tells.1.places listing))

pub put_in_order-requires-clause-table : goal.put_in_order-requires-clause-table
put_in_order-requires-clause-table c =
    let at = (goal.at.put_in_order-requires-clause-table c).After-deref in
    let net : Network = c.args.net.now in
    let outcome = c.args.outcome.now in
    let after : State = settled_state net outcome.dest outcome.turns in
    let round : IsAfterRound after =
    after_outcome net outcome.dest outcome.turns c.network_law.ensures.is_net c.requires.follows.counted in (
      settled_in_range after c.deref.result.now round (hops_are at),
      settled_loop_free after c.deref.result.now round (hops_are at),
    )

pub put_in_order-requires-clause-others : goal.put_in_order-requires-clause-others
put_in_order-requires-clause-others c =
    let at = goal.at.put_in_order-requires-clause-others c in (
      c.args.self.now.hops.items,
      λ listing.
          subst (λ (hops : List Hop).
          AreOthers c.args.self.now.hops.items hops (nodes_told c.apply_outcome.new.told))
          (sym (hops_put at.After-deref))
          (others_told at.After-apply_outcome (c.apply_outcome.ensures.told.keeps.listing listing)),
    )

pub note_ways-requires : goal.note_ways-requires
note_ways-requires c = (
  c.requires.tells.0,
  led_on c.requires.tells.0 c.args.net.now c.apply_outcome.new.net c.args.outcome.now c.args.moved.now.edits.now
      c.args.self.now c.renew.new.self.table c.args.told.now c.requires.tells.1 c.apply_outcome.ensures.net
      c.renew.ensures.renewed c.put_in_order.new.self
      (c.put_in_order.ensures.notes ∙ c.apply_outcome.ensures.told.keeps.notes),
)

-- they are in push order
order_told : (c : After-put_in_order) → c.deref.result.now ≡ c.apply_outcome.new.hops
    → AreOthers c.args.self.now.hops.items c.apply_outcome.new.hops (nodes_told c.apply_outcome.new.told)
    → IsListing c.args.told.now
    → IsPushOrder c.args.self.now.hops.items c.deref.result.now (nodes_told c.put_in_order.new.self)
order_told c put others listing =
    let old : List Hop = c.args.self.now.hops.items in
    let places = c.apply_outcome.ensures.told.keeps.places c.args.net.now.nodes (c.requires.tells.1.places listing) in
    c.put_in_order.ensures.order old
    (omega (arith, ap length put, c.apply_outcome.ensures.hops.one_each, c.requires.follows.one_each))
    (listing_has c.args.net.now.nodes c.apply_outcome.new.told places)
    (subst (λ (hops : List Hop). AreOthers old hops (nodes_told c.apply_outcome.new.told)) (sym put) others)

pub returns-clause-followed : goal.returns-clause-followed
returns-clause-followed c =
    let at = goal.at.returns-clause-followed c in
    let net : Network = c.args.net.now in
    let outcome = c.args.outcome.now in
    let told = c.args.told.now in
    let noted = ways_told c.note_ways.new.self in
    let same = c.put_in_order.ensures.notes ∙ c.apply_outcome.ensures.told.keeps.notes in
    let items = items_put c.args.self.now.hops c.apply_outcome.new.hops (as_many at.After-apply_outcome) in
    record {
      hops = subst (AreHops (settled_state net outcome.dest outcome.turns) net.nodes) (sym items)
          c.apply_outcome.ensures.hops;
      distances = subst (λ (m : Network). KeepsDistances (state_with m outcome.dest outcome.turns) c.renew.new.self)
          c.apply_outcome.ensures.net c.renew.ensures.keeps;
      room = c.put_in_order.ensures.kept;
      rerouted = λ listing.
          rw (c.note_ways.ensures.list.nodes, ← c.deref.ensures.value) (order_told at.After-put_in_order
          (hops_put at.After-deref) (others_told at.After-apply_outcome listing) listing);
      asks = λ asks. (c.note_ways.ensures.list.ways).0 (same_asking told c.put_in_order.new.self same asks);
      ways = λ s can asks.
          ways_after s net c.apply_outcome.new.net outcome c.args.moved.now.edits.now c.args.self.now
          c.renew.new.self.table told can c.apply_outcome.ensures.net c.renew.ensures.renewed asks noted.shrink
          noted.grow
          (c.note_ways.ensures.ways s
          (led_on s net c.apply_outcome.new.net outcome c.args.moved.now.edits.now c.args.self.now
          c.renew.new.self.table told can c.apply_outcome.ensures.net c.renew.ensures.renewed c.put_in_order.new.self
          same)
          (same_asking told c.put_in_order.new.self same asks));
    }

use Rattle.std.proofs.Common.{count_by, refl, ◌≤◌}
use Rattle.fr_graph.proofs.Building.{acyclic_fewer, cycle_stands, faultless_listed, single_from_rising, twice_stands}
use Rattle.fr_graph.proofs.JoinedTwice.{lowest_twice}
use Rattle.fr_graph.proofs.LowestCycles.{cycle_carry}
use Rattle.fr_graph.proofs.ShownLinks.{entries_below, rows_rise, same_shown}
use Rattle.fr_graph.specs.Evidence.{IsLowestCycle}
use Rattle.fr_graph.specs.Faults.{IsFaultless}
use Rattle.fr_graph.specs.Halves.{AreHalvesOf, AreHalvesRising, is_at}
use Rattle.fr_graph.specs.Heights.{HasHeadsFirst}
use Rattle.fr_graph.specs.KeptRows.{AreRows, net_in}
use Rattle.fr_graph.specs.Links.{HaveSameLinks, IsAcyclic, IsCycle}
use Rattle.fr_graph.proofs.network.Net.new.Goals as goal
use Rattle.fr_graph.proofs.network.Net.new.Goals.{After-deref-2, In-Order, In-Cycle, In_ok-rows}

pub sorted_half_links-requires-clause-nodes : goal.sorted_half_links-requires-clause-nodes
sorted_half_links-requires-clause-nodes c = c.in_ok-test_links.ensures.limits.nodes_few

pub sorted_half_links-requires-clause-below : goal.sorted_half_links-requires-clause-below
sorted_half_links-requires-clause-below c = c.in_ok-test_links.ensures.range.below

pub sorted_half_links-requires-clause-few : goal.sorted_half_links-requires-clause-few
sorted_half_links-requires-clause-few c = c.in_ok-test_links.ensures.limits.links_few

pub first_duplicate_link-requires : goal.first_duplicate_link-requires
first_duplicate_link-requires c = rw c.deref.ensures.value c.in_ok-halves.ensures.order

pub returns-in-Some-clause-refused : goal.returns-in-Some-clause-refused
returns-in-Some-clause-refused c _ =
    let ends = c.in_ok-test_links.ensures in
    let halves = c.in_ok-halves.halves.items in
    let found : 2 ≤ count_by (is_at c.in-Some.u c.in-Some.v) halves =
    rw c.deref.ensures.value at c.in-Some.ensures.found in (
      ends.limits,
      ends.range,
      ends.clear,
      twice_stands c.args.links.now halves c.in-Some.u c.in-Some.v c.in_ok-halves.ensures.same ends.clear found,
    )

pub returns-in-Some-clause-names : goal.returns-in-Some-clause-names
returns-in-Some-clause-names c =
    let halves = c.in_ok-halves.halves.items in
    let found = rw c.deref.ensures.value at c.in-Some.ensures in
    lowest_twice c.args.links.now halves c.in-Some.u c.in-Some.v c.in_ok-halves.ensures.same
    c.in_ok-test_links.ensures.clear found.found found.lowest

-- the half-links are those of the links
halves_are : (c : After-deref-2)
    → AreHalvesOf c.args.nodes c.args.links.now c.in_ok-halves.halves.items c.in_ok-halves.starts.items
halves_are c =
    let ends = c.in_ok-test_links.ensures in
    record {
      below = ends.range.below;
      no_self = ends.clear;
      same = c.in_ok-halves.ensures.same;
      rising = rw c.deref.ensures.value at c.in_default.ensures.none;
      start_each = c.in_ok-halves.ensures.starts;
    }

pub rows_from_half_links-requires : goal.rows_from_half_links-requires
rows_from_half_links-requires c = (
  c.args.nodes,
  c.args.links.now,
  rw c.deref-2.ensures.value (halves_are (goal.at.rows_from_half_links-requires c).After-deref-2),
)

rows_are : (c : In_ok-rows) → AreRows c.args.nodes c.args.links.now c.in_ok-rows.rows
rows_are c =
    c.in_ok-rows.ensures c.args.nodes c.args.links.now
    (rw c.deref-2.ensures.value (halves_are (goal.at.In_ok-rows c).After-deref-2))

same : (c : In_ok-rows) → HaveSameLinks c.args.links.now (net_in c.in_ok-rows.rows).links
same c = same_shown c.args.nodes c.args.links.now c.in_ok-rows.rows c.in_ok-test_links.ensures.range.below (rows_are c)

pub find_cycle-requires-clause-one_each : goal.find_cycle-requires-clause-one_each
find_cycle-requires-clause-one_each c = (rows_are (goal.at.find_cycle-requires-clause-one_each c).In_ok-rows).one_each

pub find_cycle-requires-clause-below : goal.find_cycle-requires-clause-below
find_cycle-requires-clause-below c = entries_below c.args.nodes c.args.links.now c.in_ok-rows.rows
    (rows_are (goal.at.find_cycle-requires-clause-below c).In_ok-rows)

pub find_cycle-requires-clause-rising : goal.find_cycle-requires-clause-rising
find_cycle-requires-clause-rising c = rows_rise c.args.nodes c.args.links.now c.in_ok-rows.rows
    (rows_are (goal.at.find_cycle-requires-clause-rising c).In_ok-rows)

walk_found : (c : In-Cycle)
    → IsCycle (net_in c.in_ok-rows.rows).links c.in-Cycle.walk.items
    × IsLowestCycle (net_in c.in_ok-rows.rows).links c.in-Cycle.walk.items
walk_found c = rw c.in-Cycle.is at c.in_ok-walk.ensures

pub returns-in-Cycle-clause-names : goal.returns-in-Cycle-clause-names
returns-in-Cycle-clause-names c =
    let b = goal.at.returns-in-Cycle-clause-names c in
    cycle_carry (λ u v. let both = same b.In_ok-rows u v in (both.1, both.0)) (walk_found b.In-Cycle).1

pub returns-in-Cycle-clause-refused : goal.returns-in-Cycle-clause-refused
returns-in-Cycle-clause-refused c _ =
    let b = goal.at.returns-in-Cycle-clause-refused c in
    let listed = c.args.links.now in
    let halves = c.in_ok-halves.halves.items in
    let ends = c.in_ok-test_links.ensures in
    let rising : AreHalvesRising halves = (halves_are b.After-deref-2).rising in
    let found = (walk_found b.In-Cycle).0 in (
      ends.limits,
      ends.range,
      ends.clear,
      single_from_rising listed halves c.in_ok-halves.ensures.same ends.clear rising,
      cycle_stands (net_in c.in_ok-rows.rows).links listed c.in-Cycle.walk.items (λ u v. (same b.In_ok-rows u v).1)
          found,
    )

-- the links contain no cycle, and the order lists the head of each link before its tail
found : (c : In-Order)
    → IsAcyclic (net_in c.in_ok-rows.rows).links
    × HasHeadsFirst c.args.nodes (net_in c.in_ok-rows.rows).links c.in-Order.order.items
found c = rw c.in-Order.is at c.in_ok-walk.ensures

faultless : (c : In-Order) → IsFaultless c.args.nodes c.args.links.now
faultless c =
    let b = goal.at.In-Order c in
    let listed = c.args.links.now in
    let ends = c.in_ok-test_links.ensures in
    let acyclic =
    acyclic_fewer (net_in c.in_ok-rows.rows).links listed (λ u v. (same b.In_ok-rows u v).0) (found c).0 in
    faultless_listed c.args.nodes listed c.in_ok-halves.halves.items ends.limits ends.range ends.clear
    c.in_ok-halves.ensures.same (halves_are b.After-deref-2).rising acyclic

pub graph_with_order-requires-clause-links : goal.graph_with_order-requires-clause-links
graph_with_order-requires-clause-links c =
    let b = goal.at.graph_with_order-requires-clause-links c in
    (c.args.links.now, faultless b.In-Order, rows_are b.In_ok-rows, refl)

pub graph_with_order-requires-clause-order : goal.graph_with_order-requires-clause-order
graph_with_order-requires-clause-order c =
    rw c.deref-in-Order.ensures.value (found (goal.at.graph_with_order-requires-clause-order c).In-Order).1

pub returns-clause-ok : goal.returns-clause-ok
returns-clause-ok c = let b = goal.at.returns-clause-ok c in
    c.in_ok-graph_with_order-in-Order.ensures.shown c.args.links.now (faultless b.In-Order) (rows_are b.In_ok-rows)

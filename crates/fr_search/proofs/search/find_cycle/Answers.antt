use Rattle.fr_search.proofs.Ending.{first_cycle}
use Rattle.fr_search.proofs.search.find_cycle.Goals as goal

pub search_from_each_node-requires-clause-rest : goal.search_from_each_node-requires-clause-rest
search_from_each_node-requires-clause-rest g c = c.in_ok-search.ensures.rest (g.R.Rows.shown c.args.rows.now) c.requires

pub search_from_each_node-requires-clause-one_each : goal.search_from_each_node-requires-clause-one_each
search_from_each_node-requires-clause-one_each g c = c.in_ok-search.ensures.one_each

pub cycle_closed_at-requires : goal.cycle_closed_at-requires
cycle_closed_at-requires g c = rw c.deref.ensures.value (rw c.in-Some.is at c.in_ok-node.ensures.on.back).on_path

pub returns-in-None : goal.returns-in-None
returns-in-None g c = rw c.in-None.is at c.in_ok-node.ensures.order

pub returns-in_ok-cycle_closed_at-in-Some : goal.returns-in_ok-cycle_closed_at-in-Some
returns-in_ok-cycle_closed_at-in-Some g c =
    let search = c.search_from_each_node.new.self in
    let node = c.in-Some.node in
    let walk = c.in_ok-cycle_closed_at-in-Some.field-0.items in
    let (back, inside, at, is) = rw c.deref.ensures.value at c.in_ok-cycle_closed_at-in-Some.ensures in
    first_cycle (g.R.Rows.shown c.args.rows.now) search walk node back c.in_ok-node.ensures.on.search
    (rw c.in-Some.is at c.in_ok-node.ensures.on.back) inside at is

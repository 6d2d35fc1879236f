use Rattle.std.proofs.Common.{List, Some, arith, ℕ}
use Rattle.fr_readers.specs.Inside.{pushes_in}
use Rattle.fr_readers.specs.Published.{WayPushes}
use Rattle.fr_readers.proofs.Altered.{all_low, altered_few, altered_first, altered_listed}
use Rattle.fr_readers.proofs.FirstWays.{first_table}
use Rattle.fr_readers.proofs.ways.set_changed_ways.Goals as goal

pub list_nodes-requires : goal.list_nodes-requires
list_nodes-requires c =
    let p : WayPushes = pushes_in c.args.reroutes.now in
    let few = altered_few c.args.wanted.now c.args.router.now p c.requires.altered c.router_law.ensures.few in
    rw (c.shrink_of.ensures.nodes, c.grow_of.ensures.nodes) (omega (arith, few, c.requires.room))

pub set_listed_ways-requires-clause-long : goal.set_listed_ways-requires-clause-long
set_listed_ways-requires-clause-long c = c.requires.altered.had.one_each

pub set_listed_ways-requires-clause-nodes : goal.set_listed_ways-requires-clause-nodes
set_listed_ways-requires-clause-nodes c =
    let p : WayPushes = pushes_in c.args.reroutes.now in
    rw c.deref.ensures.value
    (all_low c.args.wanted.now c.args.router.now p c.requires.altered c.list_nodes.new.list.items
    (rw (c.shrink_of.ensures.nodes, c.grow_of.ensures.nodes) at c.list_nodes.ensures.these))

pub returns-clause-first : goal.returns-clause-first
returns-clause-first c =
    let p : WayPushes = pushes_in c.args.reroutes.now in
    let s = c.args.router.now in
    let nodes : List ℕ = c.list_nodes.new.list.items in
    let wanted = c.set_listed_ways.new.wanted in
    let first = altered_first c.args.wanted.now s p c.requires.altered nodes
    (rw (c.shrink_of.ensures.nodes, c.grow_of.ensures.nodes) at c.list_nodes.ensures.these) wanted
    c.set_listed_ways.ensures.same.1 (rw c.deref.ensures.value at c.set_listed_ways.ensures.listed)
    (rw c.deref.ensures.value at c.set_listed_ways.ensures.others) in
    (first, first_table (Some s) c.router_law.ensures wanted first)

pub returns-clause-listed : goal.returns-clause-listed
returns-clause-listed c =
    let p : WayPushes = pushes_in c.args.reroutes.now in
    altered_listed c.args.wanted.now c.args.router.now p c.requires.altered c.list_nodes.new.list.items
    (rw (c.shrink_of.ensures.nodes, c.grow_of.ensures.nodes) at c.list_nodes.ensures.these) c.set_listed_ways.new.wanted
    c.set_listed_ways.ensures.same.1 (rw c.deref.ensures.value at c.set_listed_ways.ensures.listed)
    (rw c.deref.ensures.value at c.set_listed_ways.ensures.others) c.list_nodes.ensures.by_number
    c.router_law.ensures.few

use Rattle.std.proofs.Common.{ap, arith, length, subst, sym, ℕ, ◌<◌}
use Rattle.fr_shared.specs.WayTables.{IsTable}
use Rattle.fr_ways.specs.Ways.{ways}
use Rattle.fr_shared.specs.WayTables.{last_ways}
use Rattle.fr_shared.specs.WayParts.{changes}
use Rattle.fr_shared.proofs.WayListing.{all_seen, changes_quiet, grow_listed, none_seen}
use Rattle.fr_shared.proofs.WayPushing.{pushed_part, table_grown}
use Rattle.fr_shared.proofs.ways.publishing.Publisher+LinkedList+u32.grow_listed.Goals as goal

pub loop-x-init : goal.loop-x-init
loop-x-init c =
    let k = c.args.self.now in
    none_seen k (changes (last_ways k) c.args.new.now) (ways c.args.new.now) c.args.nodes.now

pub grow_node-requires-clause-node : goal.grow_node-requires-clause-node
grow_node-requires-clause-node c =
    let inside : c.loop-x.x-index < length c.args.nodes.now = c.loop-x-test.true in
    omega (
      arith,
      c.requires.listed.in_table c.loop-x.x-index 0 inside,
      c.requires.new.one_each,
      ap (λ k. k.nodes) c.loop-x.invariant.pushed.history,
    )

pub grow_node-requires-clause-new : goal.grow_node-requires-clause-new
grow_node-requires-clause-new c =
    subst (λ (n : ℕ). IsTable n c.args.new.now)
    (sym (ap (λ k. k.nodes) c.loop-x.invariant.pushed.history)) c.requires.new

pub grow_node-requires-clause-part : goal.grow_node-requires-clause-part
grow_node-requires-clause-part c =
    pushed_part c.loop-x.invariant.pushed c.loop-x.invariant.in_table c.args.new.now c.requires.part
    (λ y z found. found)

pub loop-x-preserved : goal.loop-x-preserved
loop-x-preserved c =
    grow_listed c.args.self.now c.loop-x.self c.grow_node.new.self c.args.new.now c.args.nodes.now c.loop-x.x-index
    c.requires.listed c.requires.new.one_each c.loop-x-test.true c.loop-x.invariant c.grow_node.ensures

pub returns-clause-history : goal.returns-clause-history
returns-clause-history c =
    let k = c.args.self.now in
    (all_seen c.loop-x.invariant c.requires.listed.by_number
    (changes_quiet c.args.nodes.now (last_ways k) c.args.new.now c.requires.listed) c.loop-x-test.false).history

pub returns-clause-table : goal.returns-clause-table
returns-clause-table c =
    let k = c.args.self.now in
    table_grown k c.loop-x.self c.args.new.now c.requires.new.one_each
    (all_seen c.loop-x.invariant c.requires.listed.by_number
    (changes_quiet c.args.nodes.now (last_ways k) c.args.new.now c.requires.listed) c.loop-x-test.false)

use Rattle.std.proofs.Common.{ap, arith, length, ◌<◌}
use Rattle.fr_ways.specs.Phases.{kept}
use Rattle.fr_shared.specs.WayTables.{last_ways}
use Rattle.fr_shared.specs.WayParts.{drops}
use Rattle.fr_shared.proofs.WayListing.{all_seen, drops_quiet, none_seen, shrink_listed}
use Rattle.fr_shared.proofs.WayPushing.{all_shrunk}
use Rattle.fr_shared.proofs.ways.publishing.Publisher+LinkedList+u32.shrink_listed.Goals as goal

pub loop-x-init : goal.loop-x-init
loop-x-init c =
    let k = c.args.self.now in
    let new = c.args.new.now in
    none_seen k (drops c.args.emptied (last_ways k) new) (kept (last_ways k) new) c.args.nodes.now

pub shrink_node-requires-clause-node : goal.shrink_node-requires-clause-node
shrink_node-requires-clause-node c =
    let inside : c.loop-x.x-index < length c.args.nodes.now = c.loop-x-test.true in
    omega (
      arith,
      c.requires.listed.in_table c.loop-x.x-index 0 inside,
      c.requires.one_each,
      ap (λ k. k.nodes) c.loop-x.invariant.pushed.history,
    )

pub shrink_node-requires-clause-one_each : goal.shrink_node-requires-clause-one_each
shrink_node-requires-clause-one_each c =
    omega (arith, c.requires.one_each, ap (λ k. k.nodes) c.loop-x.invariant.pushed.history)

pub loop-x-preserved : goal.loop-x-preserved
loop-x-preserved c =
    shrink_listed c.args.self.now c.loop-x.self c.shrink_node.new.self c.args.new.now c.args.nodes.now c.loop-x.x-index
    c.requires.listed c.requires.one_each c.loop-x-test.true c.args.emptied c.loop-x.invariant c.shrink_node.ensures

pub returns-clause-history : goal.returns-clause-history
returns-clause-history c =
    let k = c.args.self.now in
    (all_seen c.loop-x.invariant c.requires.listed.by_number
    (drops_quiet c.args.nodes.now (last_ways k) c.args.new.now c.requires.listed c.args.emptied)
    c.loop-x-test.false).history

pub returns-clause-ways : goal.returns-clause-ways
returns-clause-ways c =
    let k = c.args.self.now in
    all_shrunk k c.loop-x.self c.args.new.now c.args.emptied c.requires.one_each
    (all_seen c.loop-x.invariant c.requires.listed.by_number
    (drops_quiet c.args.nodes.now (last_ways k) c.args.new.now c.requires.listed c.args.emptied) c.loop-x-test.false)

use Rattle.std.proofs.Common.{arith}
use Rattle.fr_ways.proofs.Holding.{HasPushed, held_as, held_pushed}
use Rattle.fr_ways.proofs.reserved_rows.Rows.push.Goals as goal
use Rattle.fr_ways.proofs.reserved_rows.Rows.push.Goals.{After-push_reserved-2}

pub append_ways-requires : goal.append_ways-requires
append_ways-requires c =
    let held = held_as c.self.inside c.args.self.now c.self.invariant c.self.view_is in
    omega (arith, c.requires.ways, held.total, held.ways, c.self.inside.list.ok.0, c.self.inside.list.ok.1)

pub push_reserved-requires : goal.push_reserved-requires
push_reserved-requires c =
    let held = held_as c.self.inside c.args.self.now c.self.invariant c.self.view_is in
    omega (arith, c.requires.nodes, held.count, held.places, c.self.inside.nodes.ok.0)

pub push_reserved-requires-2 : goal.push_reserved-requires-2
push_reserved-requires-2 c =
    let held = held_as c.self.inside c.args.self.now c.self.invariant c.self.view_is in
    omega (arith, c.requires.nodes, held.more, held.places, c.self.inside.starts.ok.0)

pushed : (c : After-push_reserved-2) → HasPushed c.self.inside (record {
  nodes = c.push_reserved.new.self;
  starts = c.push_reserved-2.new.self;
  list = c.append_ways.new.list;
}) c.args.x c.len.result c.args.row.now
pushed c = record {
  nodes = c.push_reserved.ensures.items;
  starts = c.push_reserved-2.ensures.items;
  list = c.append_ways.ensures.items;
  last = omega (arith, c.len.ensures, c.append_ways.new.list.ok.0);
}

pub invariant_of-self : goal.invariant_of-self
invariant_of-self c =
    (held_pushed c.self.inside _ c.args.self.now c.args.x c.len.result c.args.row.now c.self.invariant c.self.view_is
    (pushed (goal.at.invariant_of-self c).After-push_reserved-2)).0

pub returns-clause-pairs : goal.returns-clause-pairs
returns-clause-pairs c =
    (held_pushed c.self.inside _ c.args.self.now c.args.x c.len.result c.args.row.now c.self.invariant c.self.view_is
    (pushed (goal.at.returns-clause-pairs c).After-push_reserved-2)).1

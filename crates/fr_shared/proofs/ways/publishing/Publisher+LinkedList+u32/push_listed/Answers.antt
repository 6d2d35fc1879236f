use Rattle.std.proofs.Common.{false, true}
use Rattle.fr_shared.specs.WayTables.{last_ways}
use Rattle.fr_shared.proofs.WayListing.{still_listed}
use Rattle.fr_shared.proofs.WayPushing.{all_pushes, is_part}
use Rattle.fr_shared.proofs.ways.publishing.Publisher+LinkedList+u32.push_listed.Goals as goal

pub shrink_listed-requires-2-clause-listed : goal.shrink_listed-requires-2-clause-listed
shrink_listed-requires-2-clause-listed c =
    still_listed c.args.nodes.now (last_ways c.args.self.now) c.args.new.now c.requires.listed
    false (last_ways c.shrink_listed.new.self) c.shrink_listed.ensures.ways

pub grow_listed-requires-clause-listed : goal.grow_listed-requires-clause-listed
grow_listed-requires-clause-listed c =
    still_listed c.args.nodes.now (last_ways c.shrink_listed.new.self) c.args.new.now
    (still_listed c.args.nodes.now (last_ways c.args.self.now) c.args.new.now c.requires.listed
    false (last_ways c.shrink_listed.new.self) c.shrink_listed.ensures.ways)
    true (last_ways c.shrink_listed-2.new.self) c.shrink_listed-2.ensures.ways

pub grow_listed-requires-clause-part : goal.grow_listed-requires-clause-part
grow_listed-requires-clause-part c =
    is_part (last_ways c.args.self.now) (last_ways c.shrink_listed.new.self) c.args.new.now
    c.shrink_listed.ensures.ways
    (last_ways c.shrink_listed-2.new.self) c.shrink_listed-2.ensures.ways

pub returns-clause-history : goal.returns-clause-history
returns-clause-history c =
    all_pushes c.args.self.now c.shrink_listed.new.self c.shrink_listed-2.new.self c.grow_listed.new.self c.args.new.now
    c.requires.new.one_each c.shrink_listed.ensures.history c.shrink_listed.ensures.ways
    c.shrink_listed-2.ensures.history c.shrink_listed-2.ensures.ways c.grow_listed.ensures.history

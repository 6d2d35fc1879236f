use Rattle.fr_shared.specs.WayTables.{last_ways}
use Rattle.fr_shared.proofs.WayPushing.{all_pushes, is_part}
use Rattle.fr_shared.proofs.ways.publishing.Publisher+LinkedList+u32.push_phases.Goals as goal

pub grow-requires-clause-part : goal.grow-requires-clause-part
grow-requires-clause-part c =
    is_part (last_ways c.args.self.now) (last_ways c.shrink.new.self) c.args.new.now c.shrink.ensures.ways
    (last_ways c.shrink-2.new.self) c.shrink-2.ensures.ways

pub returns-clause-history : goal.returns-clause-history
returns-clause-history c =
    all_pushes c.args.self.now c.shrink.new.self c.shrink-2.new.self c.grow.new.self c.args.new.now c.requires.one_each
    c.shrink.ensures.history c.shrink.ensures.ways
    c.shrink-2.ensures.history c.shrink-2.ensures.ways c.grow.ensures.history

use Rattle.fr_ways.specs.Ways.{ways}
use Rattle.fr_shared.specs.WayTables.{last_ways, way_codec}
use Rattle.fr_shared.proofs.Histories.{last_is_table}
use Rattle.fr_shared.proofs.WayPushing.{set_table}
use Rattle.fr_shared.proofs.ways.publishing.Publisher+LinkedList+u32.grow_node.Goals as goal

pub store-requires-clause-table : goal.store-requires-clause-table
store-requires-clause-table c =
    let k = c.args.self.now in
    let new = c.args.new.now in
    rw (c.word.ensures.kept, c.word-word.ensures.held)
    (set_table k.nodes new (last_ways k) c.args.x (ways new c.args.x) c.requires.new
    (last_is_table way_codec k.nodes k.known c.history_law.ensures)
    c.requires.part c.requires.node (c.requires.new.few c.args.x) (λ z found. found))

use Rattle.fr_shared.specs.WayTables.{last_ways}
use Rattle.fr_shared.proofs.WayWords.{set_fits}
use Rattle.fr_shared.proofs.ways.publishing.Publisher+LinkedList+u32.push.Goals as goal

pub word-requires : goal.word-requires
word-requires c =
    let k = c.args.self.now in
    set_fits k.nodes (last_ways k) c.args.x c.args.ways.now c.requires.node
    c.few_law.ensures c.requires.table

pub store-requires-clause-table : goal.store-requires-clause-table
store-requires-clause-table c = rw c.word.ensures.held c.requires.table

-- The readers as the logic holds them, for the clauses on what a handle owns and lends. For proofs only.
use denote.RattleType.{RattleType}
use Rattle.std.specs.Borrow.{u32}
use Rattle.std.specs.contracts.alloc.Global as global
use Rattle.std.specs.contracts.collections.LinkedList as list
use Rattle.std.specs.contracts.impls.GlobalAllocator.TheImpl as heap
use Rattle.fr_tables.specs.contracts.hop.Hop as hop
use Rattle.fr_shared.specs.contracts.hops.HopItem.TheImpl as of_hop
use Rattle.fr_shared.specs.contracts.reader.Reader.{the_row}
use Rattle.fr_shared.specs.contracts.ways.LinkedListU32Item.TheImpl as of_ways

-- what a node has in a table of ways
abbrev pub ways_row : RattleType
ways_row = list.the_row u32 global.the_row heap.ghosts

abbrev pub hop_reader : RattleType
hop_reader = the_row hop.the_row of_hop.ghosts

abbrev pub way_reader : RattleType
way_reader = the_row ways_row of_ways.ghosts

use Rattle.std.proofs.Common.{[], ap, arith, length}
use Rattle.std.proofs.lemmas.Option.{get_or_from_slice_get}
use Rattle.fr_shared.specs.WayTables.{last_ways, way_codec, ways_of}
use Rattle.fr_shared.proofs.Histories.{last_is_table}
use Rattle.fr_shared.proofs.ways.reading.Reader+LinkedList+u32.word.Goals as goal

pub returns-clause-few : goal.returns-clause-few
returns-clause-few c =
    let k = c.load-word.new.self in
    let is = get_or_from_slice_get (last_ways k) c.args.x (ways_of c.load-word.result) [] c.load-word.ensures.answer in
    omega (arith, (last_is_table way_codec k.nodes k.known c.history_law.ensures).few c.args.x, ap length is)

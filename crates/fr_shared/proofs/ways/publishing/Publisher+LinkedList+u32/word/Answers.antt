use Rattle.std.proofs.Common.{[], ap, sym, ◌∙◌}
use Rattle.std.proofs.lemmas.Option.{get_or_from_slice_get}
use Rattle.fr_shared.specs.WayTables.{last_ways, ways_of, word_of}
use Rattle.fr_shared.proofs.ways.publishing.Publisher+LinkedList+u32.word.Goals as goal

pub returns-clause-held : goal.returns-clause-held
returns-clause-held c =
    sym (get_or_from_slice_get (last_ways c.args.self.now) c.args.x (ways_of c.load.result) [] c.load.ensures.item)

pub returns-clause-word : goal.returns-clause-word
returns-clause-word c =
    let is = get_or_from_slice_get (last_ways c.args.self.now) c.args.x
    (ways_of c.load.result) [] c.load.ensures.item in
    sym c.load.ensures.word ∙ ap word_of (sym is)

use Rattle.std.proofs.Common.{ap, arith, false, get_or, length, List, ℕ, ◌++◌, ◌<◌, ◌∙◌}
use Rattle.std.proofs.lemmas.List.Elements.{All-contains}
use Rattle.fr_ways.specs.Phases.{is_way}
use Rattle.fr_ways.proofs.NotedWays.{filter_same, noted_node}
use Rattle.fr_ways.proofs.kept_ways.copy_kept.Goals as goal

pub returns-clause-kept : goal.returns-clause-kept
returns-clause-kept c =
    let old = c.args.old.now in
    let new = c.args.new.now in
    let noted = c.note_ways.new.noted in
    let nodes : ℕ = length c.args.noted.now in
    c.copy_noted.ensures.noted
    ∙ ap (λ (ys : List ℕ). c.args.list.now.items ++ ys)
    (filter_same (λ y. get_or noted y false) (is_way old) new (λ y found.
    noted_node old noted y c.note_ways.ensures.noted (omega (
      arith,
      c.note_ways.ensures.one_each,
      All-contains (λ (z : ℕ). z < nodes) new y c.requires.range found,
    ))))

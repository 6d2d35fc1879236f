use Rattle.std.proofs.Common.{Contains, ap, arith, false, get_or, length, ℕ, ◌<◌, ◌∙◌}
use Rattle.std.specs.Prelude.{not}
use Rattle.std.proofs.lemmas.List.Elements.{All-contains}
use Rattle.fr_ways.specs.Phases.{is_way}
use Rattle.fr_ways.proofs.NotedWays.{any_same, noted_any}
use Rattle.fr_ways.proofs.kept_ways.loses_way.Goals as goal

pub returns-clause-loses : goal.returns-clause-loses
returns-clause-loses c =
    let old = c.args.old.now in
    let new = c.args.new.now in
    let noted = c.note_ways.new.noted in
    let nodes : ℕ = length c.args.noted.now in
    let below : (z : ℕ) → Contains new z → z < length noted =
    λ z found. omega (
      arith,
      c.note_ways.ensures.one_each,
      All-contains (λ (y : ℕ). y < nodes) new z c.requires.range found,
    ) in
    c.has_unnoted_way-loses.ensures
    ∙ any_same (λ y. not (get_or noted y false)) (λ y. not (is_way new y)) old
    (λ y. ap not (noted_any new noted y c.note_ways.ensures.noted below))

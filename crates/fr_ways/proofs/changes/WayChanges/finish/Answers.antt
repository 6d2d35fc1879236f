use Rattle.std.proofs.Common.{List, [], ap, map, ℕ, ◌++◌, ◌∙◌, ◌≡◌}
use Rattle.fr_ways.specs.Changes.{Noted}
use Rattle.fr_ways.proofs.Changing.{noted_whole}
use Rattle.fr_ways.proofs.Holding.{with_list}
use Rattle.fr_ways.proofs.changes.WayChanges.finish.Goals as goal

pub returns-clause-phases : goal.returns-clause-phases
returns-clause-phases c before after is =
    let value = c.args.self.now in
    let bare = with_list (λ (x : ℕ). []) in
    let more : c.push_empty.new.self.pairs ≡ value.shrink ++ map bare value.emptied =
    c.push_empty.ensures.pairs
    ∙ (ap (λ (xs : List ℕ). c.self.inside.shrink.pairs ++ map bare xs) c.deref.ensures.value
    ∙ ap (λ (noted : Noted). noted.shrink ++ map bare noted.emptied) c.self.view_is) in (
      noted_whole before after value c.push_empty.new.self.pairs is more,
      ap (λ (noted : Noted). noted.grow) c.self.view_is ∙ is.grow,
    )

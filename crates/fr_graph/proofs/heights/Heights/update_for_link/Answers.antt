use Rattle.std.proofs.Common.{ap, get_or, subst, ℕ, ⊎_elim, ◌<◌}
use Rattle.std.proofs.lemmas.List.Elements.{Contains-push_cases}
use Rattle.fr_graph.specs.Heights.{Levels}
use Rattle.fr_graph.proofs.heights.Heights.update_for_link.Goals as goal

pub returns-clause-fit : goal.returns-clause-fit
returns-clause-fit c links fit known u v link =
    let heights = c.args.self.now.heights in
    let falls = c.link_would_fall-self-inside.ensures.0 known in
    rw (ap (λ (levels : Levels). levels.heights) c.self.view_is)
    (⊎_elim (fit falls.0 u v) (λ last. subst (λ (l : ℕ × ℕ). get_or heights l.1 0 < get_or heights l.0 0) last falls.1)
    (Contains-push_cases links (c.args.tail, c.args.head) (u, v) link))

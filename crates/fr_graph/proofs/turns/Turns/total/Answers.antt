use Rattle.std.proofs.Common.{ap, get_or, min, sum, sum_by, ℕ, ◌-◌, ◌^◌, ◌∙◌, ◌≡◌}
use Rattle.fr_graph.proofs.TurnedNodes.{sum_listed, turned_below}
use Rattle.fr_graph.proofs.turns.Turns.total.Goals as goal

pub sum_of-requires : goal.sum_of-requires
sum_of-requires c = rw (c.deref.ensures.value, c.deref-2.ensures.value)
    (turned_below c.self.inside.counts.items c.self.inside.nodes.items c.self.invariant.turned)

pub returns : goal.returns
returns c =
    let listed : sum_by (λ (x : ℕ). get_or c.self.inside.counts.items x 0) c.self.inside.nodes.items
    ≡ sum c.self.inside.counts.items =
    sum_listed c.self.inside.nodes.items c.self.inside.counts.items c.self.invariant.turned in
    let sum_is : c.sum_of.result
    ≡ min (sum_by (λ (x : ℕ). get_or c.self.inside.counts.items x 0) c.self.inside.nodes.items)
    (2 ^ 64 - 1) = rw (c.deref.ensures.value, c.deref-2.ensures.value) at c.sum_of.ensures in
    sum_is ∙ ap (λ (n : ℕ). min n (2 ^ 64 - 1)) (listed ∙ ap sum c.self.view_is)

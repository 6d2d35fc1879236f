use Rattle.std.proofs.Common.{List, ap, length, replicate, sym, ℕ, ◌∙◌, ◌≡◌}
use Rattle.std.proofs.lemmas.List.{length-replicate, with_items_is}
use Rattle.std.specs.Vec.{with_items}
use Rattle.fr_graph.proofs.TurnedNodes.{all_cleared, each_set, none_turned, turned_below}
use Rattle.fr_graph.specs.Turns.{AreSet}
use Rattle.fr_graph.proofs.turns.Turns.clear.Goals as goal
use Rattle.fr_graph.proofs.turns.Turns.clear.Goals.{After-set_counts}

pub set_counts-requires : goal.set_counts-requires
set_counts-requires c = rw (c.deref.ensures.value, c.deref_mut.ensures.value)
    (turned_below c.self.inside.counts.items c.self.inside.nodes.items c.self.invariant.turned)

-- the counts are all 0
zeros : (c : After-set_counts)
    → (with_items c.self.inside.counts c.set_counts.new.counts).items ≡ replicate (length c.self.inside.counts.items) 0
zeros c =
    let before = c.self.inside.counts.items in
    let same : length c.set_counts.new.counts ≡ length before =
    c.set_counts.ensures.one_each ∙ ap length c.deref_mut.ensures.value in
    let set : AreSet c.self.inside.nodes.items 0 before c.set_counts.new.counts =
    rw (c.deref.ensures.value, c.deref_mut.ensures.value) at c.set_counts.ensures.set in
    with_items_is c.self.inside.counts c.set_counts.new.counts (same ∙ sym c.self.inside.counts.ok.0)
    ∙ each_set before c.set_counts.new.counts c.self.inside.nodes.items 0 c.self.invariant.turned same set
    ∙ all_cleared before

pub invariant_of-self : goal.invariant_of-self
invariant_of-self c =
    let n = length c.self.inside.counts.items in
    let counts = zeros (goal.at.invariant_of-self c).After-set_counts in
    record {
      few = rw counts (rw (length-replicate {A = ℕ} n 0) c.self.invariant.few);
      turned = rw (counts, c.clear.ensures.items) (none_turned n);
      room = rw counts (rw (length-replicate {A = ℕ} n 0, c.clear.ensures.capacity) c.self.invariant.room);
    }

pub returns : goal.returns
returns c =
    zeros (goal.at.returns c).After-set_counts ∙ ap (λ (counts : List ℕ). replicate (length counts) 0) c.self.view_is

use Rattle.std.proofs.Common.{List, ap, length, map, sym, ℕ, ◌∙◌, ◌≡◌}
use Rattle.std.proofs.lemmas.List.{length-map, with_items_is}
use Rattle.std.specs.Vec.{with_items}
use Rattle.fr_graph.proofs.TurnedNodes.{each_set, still_turned, turned_below}
use Rattle.fr_graph.specs.Turns.{AreSet, set_to}
use Rattle.fr_graph.proofs.turns.Turns.set_each.Goals as goal
use Rattle.fr_graph.proofs.turns.Turns.set_each.Goals.{After-set_counts}

pub set_counts-requires : goal.set_counts-requires
set_counts-requires c = rw (c.deref.ensures.value, c.deref_mut.ensures.value)
    (turned_below c.self.inside.counts.items c.self.inside.nodes.items c.self.invariant.turned)

counts_are : (c : After-set_counts)
    → (with_items c.self.inside.counts c.set_counts.new.counts).items
    ≡ map (set_to c.args.count) c.self.inside.counts.items
counts_are c =
    let before = c.self.inside.counts.items in
    let same : length c.set_counts.new.counts ≡ length before =
    c.set_counts.ensures.one_each ∙ ap length c.deref_mut.ensures.value in
    let set : AreSet c.self.inside.nodes.items c.args.count before c.set_counts.new.counts =
    rw (c.deref.ensures.value, c.deref_mut.ensures.value) at c.set_counts.ensures.set in
    with_items_is c.self.inside.counts c.set_counts.new.counts (same ∙ sym c.self.inside.counts.ok.0)
    ∙ each_set before c.set_counts.new.counts c.self.inside.nodes.items c.args.count c.self.invariant.turned same set

pub invariant_of-self : goal.invariant_of-self
invariant_of-self c =
    let counts = counts_are (goal.at.invariant_of-self c).After-set_counts in
    let long = length-map c.self.inside.counts.items (set_to c.args.count) in
    record {
      few = rw (counts, long) c.self.invariant.few;
      turned =
          rw counts (still_turned c.self.inside.counts.items c.self.inside.nodes.items c.args.count c.requires
          c.self.invariant.turned);
      room = rw (counts, long) c.self.invariant.room;
    }

pub returns : goal.returns
returns c =
    counts_are (goal.at.returns c).After-set_counts
    ∙ ap (λ (counts : List ℕ). map (set_to c.args.count) counts) c.self.view_is

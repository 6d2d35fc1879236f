use Rattle.std.proofs.Common.{arith, get_or, length, ◌<◌, ℕ}
use Rattle.std.proofs.lemmas.List.{with_items_is}
use Rattle.std.proofs.lemmas.List.Elements.{Contains-get_or}
use Rattle.fr_nearest.specs.Changes.{IsTakenOver}
use Rattle.fr_nearest.proofs.NotedNodes.{forgotten}
use Rattle.fr_nearest.proofs.distance_changes.DistanceChanges.reset.Goals as goal

pub copy_and_unmark-requires-clause-nodes : goal.copy_and_unmark-requires-clause-nodes
copy_and_unmark-requires-clause-nodes c =
    let nodes = c.args.self.now.nodes.items in
    let low : (k d : ℕ) → k < length nodes → get_or nodes k d < length c.args.distances.now = λ k d l.
    (c.requires.noted.just (get_or nodes k d) (Contains-get_or nodes k d l)).0 in
    rw c.deref.ensures.value low

pub returns : goal.returns
returns c =
    let t : IsTakenOver c.args.distances.now c.args.self.now.nodes.items c.args.self.now.before.items
    c.args.self.now.noted.items c.copy_and_unmark.new.before c.copy_and_unmark.new.noted
    = rw (c.deref.ensures.value, c.deref_mut.ensures.value, c.deref_mut-2.ensures.value) at c.copy_and_unmark.ensures in
    let n = c.requires.noted in
    forgotten c.requires t
    (with_items_is c.args.self.now.before c.copy_and_unmark.new.before (omega (
      arith,
      t.before_each,
      n.before,
      c.args.self.now.before.ok.0,
    )))
    (with_items_is c.args.self.now.noted c.copy_and_unmark.new.noted (omega (
      arith,
      t.noted_each,
      n.noted,
      c.args.self.now.noted.ok.0,
    )))
    c.clear.ensures.items c.clear.ensures.capacity

use Rattle.std.proofs.Common.{arith, get_or, refl, ℕ}
use Rattle.std.proofs.lemmas.List.Elements.{Contains-get_or}
use Rattle.std.proofs.lemmas.List.Sorted.{IsNonDecreasingBy-from_sort}
use Rattle.fr_nearest.specs.Distances.{AreChanged}
use Rattle.fr_nearest.specs.Affected.{HasOne}
use Rattle.fr_nearest.specs.Marks.{IsBehind, IsReordered}
use Rattle.fr_nearest.proofs.UnlistedNodes.{affected, alike_apart, behind_change}
use Rattle.fr_nearest.proofs.Marking.{marked_then, marks_sorted}
use Rattle.fr_nearest.proofs.affected.Affected.list.Goals as goal

pub mark_changed-requires-clause-below : goal.mark_changed-requires-clause-below
mark_changed-requires-clause-below c =
    let changed = c.changed.result.now in
    let are : AreChanged c.args.distances.now.before c.args.distances.now.table changed =
    rw c.changed.ensures.value c.changed.ensures.changed in
    λ k d inside. omega (
      arith,
      ((are.just (get_or changed k d)).0 (Contains-get_or changed k d inside)).0,
      c.requires.one_each,
    )

pub invariant_of-self : goal.invariant_of-self
invariant_of-self c =
    marks_sorted c.mark_changed.ensures.are refl c.sort_unstable.ensures.permutation c.sort_unstable.ensures.capacity

pub returns-clause-affected : goal.returns-clause-affected
returns-clause-affected c =
    let net = c.args.net.now in
    let before = c.args.distances.now.before in
    let table = c.args.distances.now.table in
    let changed = c.changed.result.now in
    let is_net = c.network_law.ensures.is_net in
    let are : AreChanged before table changed = rw c.changed.ensures.value c.changed.ensures.changed in
    affected net c.args.touched.now before table (HasOne (IsReordered net.links before table) changed)
    (HasOne (IsBehind net.links) changed)
    is_net c.requires.edits c.requires.turned (behind_change net.links before table changed are)
    (alike_apart net.links net.nodes before table changed is_net c.requires.one_each are)
    (marked_then (marked_then c.mark_edits.ensures c.mark_turned.ensures) c.mark_changed.ensures)
    c.clear.ensures.none c.sort_unstable.ensures.permutation
    (IsNonDecreasingBy-from_sort (λ (x : ℕ). x) c.sort_unstable.new.self.items c.sort_unstable.ensures.sorted)

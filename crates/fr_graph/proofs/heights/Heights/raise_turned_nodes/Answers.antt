use Rattle.std.proofs.Common.{Contains, ap, arith, get_or, length, subst, sym, ℕ, ◌*◌, ◌+◌, ◌<◌, ◌^◌, ◌∙◌, ◌≡◌, ◌≤◌}
use Rattle.std.proofs.Common.{◌↔◌}
use Rattle.std.proofs.Math.Nat.{mul-le-mul}
use Rattle.std.proofs.lemmas.List.{with_items_is}
use Rattle.std.proofs.lemmas.List.Elements.{All-weaker}
use Rattle.std.proofs.lemmas.List.Sorted.{All-permutation, Contains-permutation, IsPermutation-sym, length_permutation}
use Rattle.std.specs.List.Sorted.{IsNonDecreasingBy, IsPermutation}
use Rattle.std.specs.Vec.{with_items}
use Rattle.fr_graph.proofs.LiftedNodes.{lifted_below, lifted_falls}
use Rattle.fr_graph.proofs.Largest.{heights_fit}
use Rattle.fr_graph.proofs.TurnedNodes.{most_of_all, turned_below}
use Rattle.fr_graph.specs.Heights.{AreLifted, Fit, Levels}
use Rattle.fr_graph.specs.Limits.{most_nodes}
use Rattle.fr_graph.proofs.heights.Heights.raise_turned_nodes.Goals as goal
use Rattle.fr_graph.proofs.heights.Heights.raise_turned_nodes.Goals.{After-deref-2, After-put_above_base}

-- above the greatest top there is room for a block of the most nodes for each of the most turns
room_above : (top most count few : ℕ) → top ≤ 9223372036854775807 → most ≤ most_nodes → count ≤ most
    → few * 8 ≤ most_nodes
    → top + (count + 1) * few * 4294967296 < 18446744073709551616
room_above top most count few high turns below nodes =
    let blocks : (count + 1) * (few * 8) ≤ (most_nodes + 1) * most_nodes =
    mul-le-mul {n₁ = count + 1} {m₁ = few * 8} {n₂ = most_nodes + 1} {m₂ = most_nodes} (omega arith) nodes in omega (
      arith,
      blocks,
      heights_fit,
    )

pub invariant_of-self : goal.invariant_of-self
invariant_of-self c = let s = c.self.invariant in record { few = s.few; below = s.below; room = s.room }

pub returns-then-nodes-len-clause-fit : goal.returns-then-nodes-len-clause-fit
returns-then-nodes-len-clause-fit c links fit known = absurd (cc)

-- the nodes that turned, the lowest first
sorted : (c : After-deref-2) → IsPermutation c.nodes-nodes.result.now c.sort_by_height.new.nodes
sorted c = rw (c.deref_mut.ensures.value, c.refill_from.ensures.same) at c.sort_by_height.ensures.same

as_many : (c : After-deref-2) → length c.sort_by_height.new.nodes ≡ c.refill_from.new.list.len
as_many c =
    length_permutation _ _ (sorted c) ∙ ap length (sym c.refill_from.ensures.same) ∙ sym c.refill_from.new.list.ok.0

nodes : (c : After-deref-2) → c.deref-2.result.now ≡ c.sort_by_height.new.nodes
nodes c = c.deref-2.ensures.value ∙ with_items_is c.refill_from.new.list c.sort_by_height.new.nodes (as_many c)

one_each : (c : After-deref-2) → length c.args.turns.now ≡ length c.self.inside.of.items
one_each c = c.requires.one_each ∙ ap (λ (s : Levels). length s.heights) (sym c.self.view_is)

-- the nodes with their current heights
heights : (c : After-put_above_base)
    → (with_items c.self.inside.of c.put_above_base.new.of).items ≡ c.put_above_base.new.of
heights c =
    with_items_is c.self.inside.of c.put_above_base.new.of (c.put_above_base.ensures.one_each
    ∙ c.deref_mut-2.ensures.len)

lifted : (c : After-put_above_base)
    → AreLifted c.sort_by_height.new.nodes c.args.turns.now c.self.inside.top (2 ^ 32) c.self.inside.of.items
    c.put_above_base.new.of
lifted c =
    rw (nodes (goal.at.After-put_above_base c).After-deref-2, c.deref_mut-2.ensures.value, c.counts-counts.ensures) at
    c.put_above_base.ensures.lifted

pub most_turns-most-requires : goal.most_turns-most-requires
most_turns-most-requires c =
    rw c.counts-counts.ensures (turned_below c.args.turns.now c.nodes-nodes.result.now c.nodes-nodes.ensures)

pub put_above_base-requires-clause-nodes : goal.put_above_base-requires-clause-nodes
put_above_base-requires-clause-nodes c =
    let each = one_each c in
    let below = All-permutation (λ (x : ℕ). x < length c.args.turns.now) _ _ (sorted c)
    (turned_below c.args.turns.now c.nodes-nodes.result.now c.nodes-nodes.ensures) in
    rw (nodes c, c.deref_mut-2.ensures.value)
    (All-weaker (λ (x : ℕ). x < length c.args.turns.now) (λ (x : ℕ). x < length c.self.inside.of.items)
    (λ x l. omega (arith, l, each)) c.sort_by_height.new.nodes below)

most : (c : After-deref-2) (x : ℕ) → get_or c.args.turns.now x 0 ≤ c.most_turns-most.result
most c = most_of_all c.args.turns.now c.nodes-nodes.result.now c.most_turns-most.result c.nodes-nodes.ensures
    (rw c.counts-counts.ensures at c.most_turns-most.ensures)

pub put_above_base-requires-clause-room : goal.put_above_base-requires-clause-room
put_above_base-requires-clause-room c k d lt =
    let long : length c.deref-2.result.now ≡ length c.nodes-nodes.result.now =
    ap length (nodes c) ∙ length_permutation _ _ (sorted c) in
    let few : length c.nodes-nodes.result.now * 8 ≤ most_nodes = omega (arith, c.self.invariant.few) in
    rw (c.counts-counts.ensures, long)
    (room_above c.self.inside.top c.most_turns-most.result _ (length c.nodes-nodes.result.now) (omega arith)
    (omega arith) (most c _) few)

-- so there is room above the heights before
room : (c : After-put_above_base)
    → c.self.inside.top + (c.most_turns-most.result + 1) * length c.nodes-nodes.result.now * 4294967296
    < 18446744073709551616
room c =
    room_above c.self.inside.top c.most_turns-most.result c.most_turns-most.result (length c.nodes-nodes.result.now)
    (omega arith) (omega arith) (omega arith) (omega (arith, c.self.invariant.few))

pub overflow_mul-self : goal.overflow_mul-self
overflow_mul-self c = omega (arith, room (goal.at.overflow_mul-self c).After-put_above_base)

pub overflow_mul-self-2 : goal.overflow_mul-self-2
overflow_mul-self-2 c = omega (arith, room (goal.at.overflow_mul-self-2 c).After-put_above_base)

pub overflow_add-self-2 : goal.overflow_add-self-2
overflow_add-self-2 c = omega (arith, room (goal.at.overflow_add-self-2 c).After-put_above_base)

pub invariant_of-self-2 : goal.invariant_of-self-2
invariant_of-self-2 c =
    let b = (goal.at.invariant_of-self-2 c).After-put_above_base in
    let long : length c.sort_by_height.new.nodes ≡ length c.nodes-nodes.result.now =
    length_permutation _ _ (sorted (goal.at.After-put_above_base b).After-deref-2) in
    let same = ap length (heights b) ∙ c.put_above_base.ensures.one_each ∙ ap length c.deref_mut-2.ensures.value in
    let below = lifted_below c.sort_by_height.new.nodes c.args.turns.now c.self.inside.top
    (2 ^ 32) c.most_turns-most.result c.self.inside.of.items c.put_above_base.new.of c.self.invariant.below
    (most (goal.at.After-put_above_base b).After-deref-2) (lifted b) in
    record {
      few = omega (arith, same, c.self.invariant.few);
      below = rw (heights b) (rw long at below);
      room = omega (arith, same, c.self.invariant.room, c.refill_from.ensures.same_room);
    }

pub returns-clause-fit : goal.returns-clause-fit
returns-clause-fit c links fit known =
    let b = (goal.at.returns-clause-fit c).After-put_above_base in
    let ordered = sorted (goal.at.After-put_above_base b).After-deref-2 in
    let list = c.nodes-nodes.result.now in
    let listed = c.nodes-nodes.ensures.each in
    let turned : (x : ℕ) → Contains c.sort_by_height.new.nodes x ↔ (0 < get_or c.args.turns.now x 0) = λ x. (
      λ h. (listed x).0 (Contains-permutation _ list x (IsPermutation-sym list _ ordered) h),
      λ t. Contains-permutation list _ x ordered ((listed x).1 t),
    ) in
    let rising : IsNonDecreasingBy (λ x. get_or c.self.inside.of.items x 0) c.sort_by_height.new.nodes =
    rw c.deref.ensures.value at c.sort_by_height.ensures.rising in
    let falls = subst (Fit links) (sym c.self.view_is) fit known in
    rw (heights b) (lifted_falls links c.sort_by_height.new.nodes c.args.turns.now c.self.inside.top
    (2 ^ 32) c.self.inside.of.items c.put_above_base.new.of c.self.invariant.below turned rising (omega arith)
    (lifted b) falls)

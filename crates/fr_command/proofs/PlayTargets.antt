-- Which nodes a play turns, again and again.
use Rattle.std.proofs.Common.{◌≡◌, ◌∙◌, ℕ, zero, suc, ◌+◌, ◌*◌, ◌-◌, ◌%◌, ◌<◌, ◌==◌, ◌&&◌}
use Rattle.std.proofs.Common.{◌||◌, Bool, true, false, cond, not, List, [], ◌∷◌, ◌++◌}
use Rattle.std.proofs.Common.{length, get_or, take, map, refl, sym, ap, subst, inl, inr}
use Rattle.std.proofs.Common.{arith, ⊎_elim, length-append, append-nil, eq-eqb, ne_eqb}
use Rattle.std.proofs.Common.{eqb-true}
use Rattle.std.specs.List.{repeat}
use Rattle.std.proofs.Math.Nat.{zero-mul, suc-mul, mod-eq_of_lt, mod-eq-sub-mod, le-mul_of_pos_right}
use Rattle.std.proofs.Math.ListN.{get_or-append}
use Rattle.std.proofs.lemmas.Bool.{cases_lt, or_cases, or_left, or_right}
use Rattle.std.proofs.lemmas.List.{get_or-append_right, take_more, map-append}
use Rattle.std.proofs.lemmas.List.Folds.{Any-from_list_any, list_any-from_Any}
use Rattle.fr_graph.specs.Links.{IsNet, Points, Joins}
use Rattle.fr_graph.specs.Rows.{row}
use Rattle.fr_graph.proofs.Neighbours.{row_linked, row_alone}
use Rattle.fr_core.specs.declared.targets.Target.{Target}
use Rattle.fr_core.specs.declared.targets.Target.TheVariants.{Turn}
use Rattle.fr_route.proofs.CutNodes.{filtered_more}
use Rattle.fr_command.specs.Plays.{is_linked, turnable_nodes}

length-repeat : (m : ℕ) (xs : List ℕ) → length (repeat m xs) ≡ m * length xs
length-repeat zero xs = sym (zero-mul (length xs))
length-repeat (suc m) xs = length-append xs (repeat m xs) ∙
    (ap (λ (k : ℕ). length xs + k) (length-repeat m xs) ∙ omega (arith, suc-mul m (length xs)))

-- the element at a place, however often the list is repeated
repeat_at : (m : ℕ) (xs : List ℕ) (i d : ℕ) → i < m * length xs → get_or (repeat m xs) i d ≡ get_or xs (i % length xs) d
repeat_at zero xs i d low = absurd (omega (arith, zero-mul (length xs)))
repeat_at (suc m) xs i d low =
    ⊎_elim {C = get_or (repeat (suc m) xs) i d ≡ get_or xs (i % length xs) d}
    (λ below. get_or-append xs (repeat m xs) d i below ∙ ap (λ (k : ℕ). get_or xs k d) (sym (mod-eq_of_lt below)))
    (λ past.
    let shorter : i - length xs < m * length xs = omega (arith, suc-mul m (length xs)) in
    get_or-append_right xs (repeat m xs) (length xs) i d refl past
    ∙ (repeat_at m xs (i - length xs) d shorter ∙ ap (λ (k : ℕ). get_or xs k d) (sym (mod-eq-sub-mod past))))
    (cases_lt i (length xs))

-- one more target
pub one_more_turn : (m : ℕ) (nodes : List ℕ) (i : ℕ) (turns : List Target) → i < m → 0 < length nodes
    → turns ≡ map Turn (take i (repeat m nodes))
    → turns ++ Turn (get_or nodes (i % length nodes) 0) ∷ [] ≡ map Turn (take (i + 1) (repeat m nodes))
one_more_turn m nodes i turns low some so_far =
    let x = get_or nodes (i % length nodes) 0 in
    let inside : i < m * length nodes = omega (arith, le-mul_of_pos_right {m = length nodes} m some) in
    let more : take (i + 1) (repeat m nodes) ≡ take i (repeat m nodes) ++ x ∷ [] =
    take_more (repeat m nodes) i 0 (omega (arith, length-repeat m nodes)) ∙ ap
    (λ (y : ℕ). take i (repeat m nodes) ++ y ∷ []) (repeat_at m nodes i 0 inside) in
    ap (λ (ts : List Target). ts ++ Turn x ∷ []) so_far ∙
    (sym (map-append Turn (take i (repeat m nodes)) (x ∷ [])) ∙ ap (map Turn) (sym more))

repeat_none : (m : ℕ) → repeat {A = ℕ} m [] ≡ []
repeat_none zero = refl
repeat_none (suc m) = repeat_none m

turns_none : (m : ℕ) → map Turn (take m []) ≡ []
turns_none zero = refl
turns_none (suc m) = refl

-- if there is no node, there is no target
pub no_turns : (m : ℕ) (nodes : List ℕ) → true ≡ (length nodes == 0) → map Turn (take m (repeat m nodes)) ≡ []
no_turns m [] none = ap (λ (xs : List ℕ). map Turn (take m xs)) (repeat_none m) ∙ turns_none m
no_turns m (x ∷ xs) none = let long = eqb-true (length (x ∷ xs)) 0 (sym none) in absurd (omega arith)

pub some_nodes : (nodes : List ℕ) → false ≡ (length nodes == 0) → 0 < length nodes
some_nodes [] some = let none = eq-eqb (length {A = ℕ} []) 0 refl in cc
some_nodes (x ∷ xs) some = omega arith

-- whether x is an end of this link
abbrev has_end : ℕ → ℕ × ℕ → Bool
has_end x l = (l.0 == x) || (l.1 == x)

joined_linked : (links : List (ℕ × ℕ)) (x w : ℕ) → Joins links x w → is_linked links x ≡ true
joined_linked links x w (inl h) = list_any-from_Any (has_end x) links
    (h.0, (x, w), h.1, h.2, or_left (x == x) (w == x) (eq-eqb x x refl))
joined_linked links x w (inr h) = list_any-from_Any (has_end x) links
    (h.0, (w, x), h.1, h.2, or_right (w == x) (x == x) (eq-eqb x x refl))

linked_joined : (links : List (ℕ × ℕ)) (x : ℕ) → is_linked links x ≡ true → (w : ℕ) × Joins links x w
linked_joined links x t =
    let is = Any-from_list_any (has_end x) links t in
    ⊎_elim {C = (w : ℕ) × Joins links x w}
    (λ tail. (is.1.1, inl (subst (λ (u : ℕ). Points links u is.1.1) (eqb-true is.1.0 x tail) (is.0, is.2, is.3))))
    (λ head. (is.1.0, inr (subst (λ (v : ℕ). Points links is.1.0 v) (eqb-true is.1.1 x head) (is.0, is.2, is.3))))
    (or_cases (is.1.0 == x) (is.1.1 == x) is.4)

-- whether a node has links, from its row
pub linked_by_row : (n : ℕ) (links : List (ℕ × ℕ)) (x : ℕ) → 0 < length (row n links x) → is_linked links x ≡ true
linked_by_row n links x some = let j = row_linked n links x some in joined_linked links x j.0 j.1

pub alone_by_row : (n : ℕ) (links : List (ℕ × ℕ)) (x : ℕ) → IsNet n links → length (row n links x) ≡ 0
    → is_linked links x ≡ false
alone_by_row n links x net none = unlinked (is_linked links x) refl
  where
    unlinked : (b : Bool) → is_linked links x ≡ b → is_linked links x ≡ false
    unlinked true e = let j = linked_joined links x e in absurd (row_alone n links x net none j.0 j.1)
    unlinked false e = e

-- one more node
one_node_seen : (d : ℕ) (links : List (ℕ × ℕ)) (x : ℕ) (b : Bool) → (not (x == d) && is_linked links x) ≡ b
    → turnable_nodes (x + 1) d links ≡ turnable_nodes x d links ++ cond b (x ∷ []) []
one_node_seen d links x b is =
    sym (filtered_more (λ y. not (y == d) && is_linked links y) x b [] (turnable_nodes x d links) is refl)

-- it has links and is not the destination
pub wanted_node : (d : ℕ) (links : List (ℕ × ℕ)) (x : ℕ) → ¬ (x ≡ d) → is_linked links x ≡ true
    → turnable_nodes (x + 1) d links ≡ turnable_nodes x d links ++ x ∷ []
wanted_node d links x other linked = one_node_seen d links x true
    (both (x == d) (is_linked links x) (ne_eqb x d other) linked)
  where
    both : (a b : Bool) → a ≡ false → b ≡ true → (not a && b) ≡ true
    both a b e f = rw (e, f) refl

-- it has no link
pub alone_node : (d : ℕ) (links : List (ℕ × ℕ)) (x : ℕ) → is_linked links x ≡ false
    → turnable_nodes (x + 1) d links ≡ turnable_nodes x d links
alone_node d links x alone = one_node_seen d links x false
    (second (not (x == d)) (is_linked links x) alone) ∙ append-nil (turnable_nodes x d links)
  where
    second : (a b : Bool) → b ≡ false → (a && b) ≡ false
    second true b e = e
    second false b e = refl

-- it is the destination
pub destination_node : (d : ℕ) (links : List (ℕ × ℕ)) (x : ℕ) → x ≡ d
    → turnable_nodes (x + 1) d links ≡ turnable_nodes x d links
destination_node d links x here = one_node_seen d links x false
    (first (x == d) (is_linked links x) (eq-eqb x d here)) ∙ append-nil (turnable_nodes x d links)
  where
    first : (a b : Bool) → a ≡ true → (not a && b) ≡ false
    first a b e = rw e refl

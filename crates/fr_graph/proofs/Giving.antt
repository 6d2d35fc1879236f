-- Where the links that counts give come from.
use Rattle.std.proofs.Common.{Contains, List, None, Option, Some, [], ap, arith, eq-eqb, inl, inr, ne_eqb, slice_index}
use Rattle.std.proofs.Common.{subst, sym, ℕ, ⊎_elim, ◌+◌}
use Rattle.std.proofs.Common.{◌∙◌, ◌∷◌, ◌≡◌, ◌⊎◌}
use Rattle.std.proofs.lemmas.Bool.{cases_eq, cond-false, cond-true}
use Rattle.std.proofs.lemmas.Option.{none-some, same_Some}
use Rattle.std.specs.List.{cons_option, filter_map}
use Rattle.fr_graph.proofs.Members.{Contains-cases, Contains-head, Contains-none, Contains-tail}
use Rattle.fr_graph.specs.Counts.{IsKept, link_at, links_at}
use Rattle.fr_graph.specs.Links.{Points}

-- where a link of u and v in `links_at` comes from
abbrev pub ComesFrom : List (ℕ × ℕ) → List ℕ → ℕ → ℕ → Type 0
ComesFrom first c u v =
    (Points first u v × (slice_index c v ≡ slice_index c u))
    ⊎ (Points first v u × (slice_index c u ≡ slice_index c v + 1))

pub link_at-same : (c : List ℕ) (l : ℕ × ℕ) → slice_index c l.1 ≡ slice_index c l.0 → link_at c l ≡ Some l
link_at-same c l e = cond-true _ _ _ (eq-eqb (slice_index c l.1) (slice_index c l.0) e)

pub link_at-turned : (c : List ℕ) (l : ℕ × ℕ) → slice_index c l.1 ≡ slice_index c l.0 + 1
    → link_at c l ≡ Some (l.1, l.0)
link_at-turned c l e =
    cond-false _ _ _ (ne_eqb (slice_index c l.1) (slice_index c l.0) (λ same. omega arith))
    ∙ cond-true _ _ _ (eq-eqb (slice_index c l.1) (slice_index c l.0 + 1) e)

link_at-lost : (c : List ℕ) (l : ℕ × ℕ) → ¬ (slice_index c l.1 ≡ slice_index c l.0)
    → ¬ (slice_index c l.1 ≡ slice_index c l.0 + 1) → link_at c l ≡ None
link_at-lost c l e f =
    cond-false _ _ _ (ne_eqb (slice_index c l.1) (slice_index c l.0) e)
    ∙ cond-false _ _ _ (ne_eqb (slice_index c l.1) (slice_index c l.0 + 1) f)

link_at-from : (c : List ℕ) (l : ℕ × ℕ) (u v : ℕ) → link_at c l ≡ Some (u, v)
    → ((l ≡ (u, v)) × (slice_index c v ≡ slice_index c u)) ⊎ ((l ≡ (v, u)) × (slice_index c u ≡ slice_index c v + 1))
link_at-from c l u v e = first_case (cases_eq (slice_index c l.1) (slice_index c l.0))
  where
    same_case : slice_index c l.1 ≡ slice_index c l.0 → l ≡ (u, v) → (l ≡ (u, v)) × (slice_index c v ≡ slice_index c u)
    same_case s p = (p, subst (λ (z : ℕ × ℕ). slice_index c z.1 ≡ slice_index c z.0) p s)

    turned_case : slice_index c l.1 ≡ slice_index c l.0 + 1 → ◌≡◌ {A = ℕ × ℕ} (l.1, l.0) (u, v)
        → (l ≡ (v, u)) × (slice_index c u ≡ slice_index c v + 1)
    turned_case s p =
        let q : l ≡ (v, u) = ap (λ (z : ℕ × ℕ). (z.1, z.0)) p in
        (q, subst (λ (z : ℕ × ℕ). slice_index c z.1 ≡ slice_index c z.0 + 1) q s)

    second_case : ¬ (slice_index c l.1 ≡ slice_index c l.0) → (slice_index c l.1 ≡ slice_index c l.0 + 1)
        ⊎ ¬ (slice_index c l.1 ≡ slice_index c l.0 + 1) → ((l ≡ (u, v)) × (slice_index c v ≡ slice_index c u))
        ⊎ ((l ≡ (v, u)) × (slice_index c u ≡ slice_index c v + 1))
    second_case n (inl s) = inr (turned_case s (same_Some _ _ (sym (link_at-turned c l s) ∙ e)))
    second_case n (inr m) = absurd (none-some _ (sym (link_at-lost c l n m) ∙ e))

    first_case : (slice_index c l.1 ≡ slice_index c l.0) ⊎ ¬ (slice_index c l.1 ≡ slice_index c l.0)
        → ((l ≡ (u, v)) × (slice_index c v ≡ slice_index c u))
        ⊎ ((l ≡ (v, u)) × (slice_index c u ≡ slice_index c v + 1))
    first_case (inl s) = inl (same_case s (same_Some _ _ (sym (link_at-same c l s) ∙ e)))
    first_case (inr n) = second_case n (cases_eq (slice_index c l.1) (slice_index c l.0 + 1))

Contains-cons_option : {X : Type 0} (o : Option X) (x : X) (xs : List X) → Contains (cons_option o xs) x
    → (o ≡ Some x) ⊎ Contains xs x
Contains-cons_option None x xs h = inr h
Contains-cons_option (Some y) x xs h = ⊎_elim (λ e. inl (ap Some e)) inr (Contains-cases x y xs h)

cons_option-head : {X : Type 0} (o : Option X) (x : X) (xs : List X) → o ≡ Some x → Contains (cons_option o xs) x
cons_option-head o x xs e = rw e (Contains-head x xs)

cons_option-tail : {X : Type 0} (o : Option X) (x : X) (xs : List X) → Contains xs x → Contains (cons_option o xs) x
cons_option-tail None x xs h = h
cons_option-tail (Some y) x xs h = Contains-tail x y xs h

pub filter_map-Contains : {X Y : Type 0} (f : X → Option Y) (xs : List X) (x : X) (y : Y) → Contains xs x
    → f x ≡ Some y → Contains (filter_map f xs) y
filter_map-Contains f [] x y h e = absurd (Contains-none x h)
filter_map-Contains f (z ∷ zs) x y h e = ⊎_elim (λ same. cons_option-head (f z) y (filter_map f zs) (ap f same ∙ e))
    (λ r. cons_option-tail (f z) y (filter_map f zs) (filter_map-Contains f zs x y r e)) (Contains-cases x z zs h)

pub filter_map-from : {X Y : Type 0} (f : X → Option Y) (xs : List X) (y : Y) → Contains (filter_map f xs) y
    → (x : X) × Contains xs x × (f x ≡ Some y)
filter_map-from f [] y h = absurd (Contains-none y h)
filter_map-from f (z ∷ zs) y h = ⊎_elim (λ e. (z, Contains-head z zs, e)) (λ r. let s = filter_map-from f zs y r in
    (s.0, Contains-tail s.0 z zs s.1, s.2)) (Contains-cons_option (f z) y (filter_map f zs) h)

pub Points-links_at_from : (first : List (ℕ × ℕ)) (c : List ℕ) (u v : ℕ) → Points (links_at first c) u v
    → ComesFrom first c u v
Points-links_at_from first c u v h = let s = filter_map-from (link_at c) first (u, v) h in
    ⊎_elim (λ p. inl (subst (Contains first) p.0 s.1, p.1)) (λ p. inr (subst (Contains first) p.0 s.1, p.1))
    (link_at-from c s.0 u v s.2)

pub Points-links_at_same : (first : List (ℕ × ℕ)) (c : List ℕ) (u v : ℕ) → Points first u v
    → slice_index c v ≡ slice_index c u → Points (links_at first c) u v
Points-links_at_same first c u v h e = filter_map-Contains (link_at c) first (u, v) (u, v) h (link_at-same c (u, v) e)

pub Points-links_at_turned : (first : List (ℕ × ℕ)) (c : List ℕ) (u v : ℕ) → Points first v u
    → slice_index c u ≡ slice_index c v + 1 → Points (links_at first c) u v
Points-links_at_turned first c u v h e =
    filter_map-Contains (link_at c) first (v, u) (u, v) h (link_at-turned c (v, u) e)

pub link_at-kept : (c : List ℕ) (l m : ℕ × ℕ) → link_at c l ≡ Some m → IsKept c l
link_at-kept c l m e = ⊎_elim inl (λ n. ⊎_elim inr (λ t. absurd (none-some _ (sym (link_at-lost c l n t) ∙ e)))
    (cases_eq (slice_index c l.1) (slice_index c l.0 + 1))) (cases_eq (slice_index c l.1) (slice_index c l.0))

pub Points-links_at_back : (first : List (ℕ × ℕ)) (c : List ℕ) (u v : ℕ) → ComesFrom first c u v
    → Points (links_at first c) u v
Points-links_at_back first c u v (inl h) = Points-links_at_same first c u v h.0 h.1
Points-links_at_back first c u v (inr h) = Points-links_at_turned first c u v h.0 h.1

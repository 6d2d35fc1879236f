-- Walks along any relation: where they lead, and that without cycles they visit no node twice and are short.
use Rattle.std.proofs.Common.{All, Bool, Contains, List, [], ap, arith, cond, drop, eqb, false, get_or, inl, inr}
use Rattle.std.proofs.Common.{length, ne_eqb, refl, subst, suc, sym}
use Rattle.std.proofs.Common.{true, zero, ℕ, ⊎_elim, ◌++◌, ◌+◌, ◌<◌, ◌∙◌, ◌∷◌, ◌≡◌, ◌≤◌}
use Rattle.std.specs.List.{IsDistinct, count_by}
use Rattle.std.proofs.lemmas.Bool.{cases_Bool, eqb-true}
use Rattle.std.proofs.lemmas.List.{get_or_default}
use Rattle.std.proofs.lemmas.List.Sums.{sum_by-cons}
use Rattle.std.proofs.lemmas.Map.Keys.{IsDistinct-from_apart}
use Rattle.std.proofs.lemmas.Map.Steps.{length-le_from_distinct_below}
use Rattle.std.proofs.lemmas.Map.Views.{Contains-from_any}
use Rattle.fr_tables.specs.Walks.{IsCycle, IsCycleFree, IsDownstream, IsTrail, IsWalk, end_of}
use Rattle.fr_tables.proofs.Members.{Contains-cases, Contains-head, Contains-none, Contains-tail}

pub end_append : (x : ℕ) (ys zs : List ℕ) → end_of x (ys ++ zs) ≡ end_of (end_of x ys) zs
end_append x [] zs = refl
end_append x (y ∷ ys) zs = end_append y ys zs

pub Contains-end : (y : ℕ) (ys : List ℕ) → Contains (y ∷ ys) (end_of y ys)
Contains-end y [] = Contains-head y []
Contains-end y (z ∷ zs) = Contains-tail (end_of z zs) y (z ∷ zs) (Contains-end z zs)

-- a walk that never comes back to a node
abbrev pub IsSimple : ℕ → List ℕ → Type 0
IsSimple x [] = Unit {0}
IsSimple x (y ∷ ys) = ¬ Contains (y ∷ ys) x × IsSimple y ys

simple_apart : (x : ℕ) (ys : List ℕ) → IsSimple x ys → (i j d : ℕ) → i < j → j < length (x ∷ ys)
    → ¬ (get_or (x ∷ ys) i d ≡ get_or (x ∷ ys) j d)
simple_apart x ys simple i zero d lt low same = omega (arith, lt)
simple_apart x [] simple i (suc j) d lt low same = omega (arith, low)
simple_apart x (y ∷ ys) simple zero (suc j) d lt low same =
    simple.0 (j, omega (arith, low), get_or_default (y ∷ ys) j x d (omega (arith, low)) ∙ sym same)
simple_apart x (y ∷ ys) simple (suc i) (suc j) d lt low same =
    simple_apart y ys simple.1 i j d (omega (arith, lt)) (omega (arith, low)) same

pub simple_distinct : (x : ℕ) (ys : List ℕ) → IsSimple x ys → IsDistinct eqb (x ∷ ys)
simple_distinct x ys simple = IsDistinct-from_apart eqb (x ∷ ys)
    (λ i j d lt inside. ne_eqb (get_or (x ∷ ys) i d) (get_or (x ∷ ys) j d) (simple_apart x ys simple i j d lt inside))

-- how often a list has a node

pub come_more : (z x : ℕ) (xs : List ℕ) → count_by (eqb z) (x ∷ xs) ≡ cond (eqb z x) 1 0 + count_by (eqb z) xs
come_more z x xs = sum_by-cons (λ (y : ℕ). cond (eqb z y) 1 0) x xs

one_more : (z x : ℕ) → eqb z x ≡ true → (cond {A = ℕ} (eqb z x) 1 0) ≡ 1
one_more z x t = ap (λ (b : Bool). cond {A = ℕ} b 1 0) t

none_more : (z x : ℕ) → eqb z x ≡ false → (cond {A = ℕ} (eqb z x) 1 0) ≡ 0
none_more z x f = ap (λ (b : Bool). cond {A = ℕ} b 1 0) f

come_never : (z : ℕ) (xs : List ℕ) → ¬ Contains xs z → count_by (eqb z) xs ≡ 0
come_never z [] out = refl
come_never z (x ∷ xs) out = elim (cases_Bool (eqb z x)) [
  | inl t ↦ absurd (out (subst (Contains (x ∷ xs)) (sym (eqb-true z x t)) (Contains-head x xs)))
  | inr f ↦ omega (
    arith,
    come_more z x xs,
    none_more z x f,
    come_never z xs
        (λ found. out (Contains-tail z x xs found)),
  )
]

module _ (sends : ℕ → ℕ → Type 0) where
  pub walk_append : (x : ℕ) (ys zs : List ℕ) → IsWalk sends x ys → IsWalk sends (end_of x ys) zs
      → IsWalk sends x (ys ++ zs)
  walk_append x [] zs goes more = more
  walk_append x (y ∷ ys) zs goes more = (goes.0, walk_append y ys zs goes.1 more)

  -- up to one of its nodes
  pub walk_to : (x : ℕ) (ys : List ℕ) (z : ℕ) → IsWalk sends x ys → Contains ys z
      → (xs : List ℕ) × IsWalk sends x (xs ++ z ∷ [])
  walk_to x [] z goes found = absurd (Contains-none z found)
  walk_to x (y ∷ ys) z goes found = elim (Contains-cases z y ys found) [
    | inl e ↦ ([], (subst (sends x) e goes.0, tt))
    | inr later ↦ let (xs, to) = walk_to y ys z goes.1 later in (y ∷ xs, (goes.0, to))
  ]

  walk_front : (x : ℕ) (xs : List ℕ) (y : ℕ) → IsWalk sends x (xs ++ y ∷ []) → IsWalk sends x xs
  walk_front x [] y goes = tt
  walk_front x (z ∷ xs) y goes = (goes.0, walk_front z xs y goes.1)

  walk_last : (x : ℕ) (xs : List ℕ) (y : ℕ) → IsWalk sends x (xs ++ y ∷ []) → sends (end_of x xs) y
  walk_last x [] y goes = goes.0
  walk_last x (z ∷ xs) y goes = walk_last z xs y goes.1

  pub here_downstream : (x : ℕ) → IsDownstream sends x x
  here_downstream x = record { by = []; goes = tt; ends = refl }

  pub next_downstream : (x y z : ℕ) → sends x y → IsDownstream sends y z → IsDownstream sends x z
  next_downstream x y z first down = record { by = y ∷ down.by; goes = (first, down.goes); ends = down.ends }

  pub downstream_trans : (x y z : ℕ) → IsDownstream sends x y → IsDownstream sends y z → IsDownstream sends x z
  downstream_trans x y z a b = record {
    by = a.by ++ b.by;
    goes = walk_append x a.by b.by a.goes (subst (λ (w : ℕ). IsWalk sends w b.by) (sym a.ends) b.goes);
    ends = end_append x a.by b.by ∙ (ap (λ (w : ℕ). end_of w b.by) a.ends ∙ b.ends);
  }

  -- without cycles
  pub free_once : (x : ℕ) (ys : List ℕ) → IsCycleFree sends → IsWalk sends x ys → ¬ Contains ys x
  free_once x ys free goes found = let (xs, to) = walk_to x ys x goes found in free (x ∷ xs) to

  pub free_simple : (x : ℕ) (ys : List ℕ) → IsCycleFree sends → IsWalk sends x ys → IsSimple x ys
  free_simple x [] free goes = tt
  free_simple x (y ∷ ys) free goes = (free_once x (y ∷ ys) free goes, free_simple y ys free goes.1)

  pub come_once : (z x : ℕ) (ys : List ℕ) → IsCycleFree sends → IsWalk sends x ys → count_by (eqb z) (x ∷ ys) ≤ 1
  come_once z x [] free goes = elim (cases_Bool (eqb z x)) [
    | inl t ↦ omega (arith, come_more z x [], one_more z x t)
    | inr f ↦ omega (arith, come_more z x [], none_more z x f)
  ]
  come_once z x (y ∷ ys) free goes = elim (cases_Bool (eqb z x)) [
    | inl t ↦
        let out : ¬ Contains (y ∷ ys) z = rw (eqb-true z x t) (free_once x (y ∷ ys) free goes) in
        omega (arith, come_more z x (y ∷ ys), one_more z x t, come_never z (y ∷ ys) out)
    | inr f ↦ omega (arith, come_more z x (y ∷ ys), none_more z x f, come_once z y ys free goes.1)
  ]

  -- among the nodes below n
  module _ (n : ℕ) (range : (x y : ℕ) → sends x y → y < n) where
    pub walk_below : (x : ℕ) (ys : List ℕ) (z : ℕ) → IsWalk sends x ys → Contains ys z → z < n
    walk_below x [] z goes found = absurd (Contains-none z found)
    walk_below x (y ∷ ys) z goes found = ⊎_elim
        (λ e. subst (λ (w : ℕ). w < n) e (range x y goes.0))
        (walk_below y ys z goes.1)
        (Contains-cases z y ys found)

    pub all_below : (x : ℕ) (ys : List ℕ) → x < n → IsWalk sends x ys → (q : ℕ) → Contains (x ∷ ys) q → q < n
    all_below x ys low goes q found =
        ⊎_elim (λ e. subst (λ (z : ℕ). z < n) e low) (walk_below x ys q goes) (Contains-cases q x ys found)

    pub simple_short : (x : ℕ) (ys : List ℕ) → x < n → IsWalk sends x ys → IsSimple x ys → length (x ∷ ys) ≤ n
    simple_short x ys low goes simple = length-le_from_distinct_below (x ∷ ys) n (simple_distinct x ys simple)
        (λ q any. all_below x ys low goes q (Contains-from_any {eq = eqb} eqb-true q (x ∷ ys) any))

    pub free_short : (x : ℕ) (ys : List ℕ) → IsCycleFree sends → x < n → IsWalk sends x ys → length (x ∷ ys) ≤ n
    free_short x ys free low goes = simple_short x ys low goes (free_simple x ys free goes)

    -- a trail is no longer than there are nodes
    pub trail_short : (xs : List ℕ) → IsCycleFree sends → IsTrail sends xs → All (λ (x : ℕ). x < n) xs → length xs ≤ n
    trail_short [] free trail inside = omega arith
    trail_short (x ∷ xs) free trail inside = free_short x xs free (inside 0 0 (omega arith)) trail

  -- the nodes of a walk as a list that grows at its end

  pub walk_tail : (x : ℕ) (xs : List ℕ) → IsWalk sends x xs → IsTrail sends xs
  walk_tail x [] goes = tt
  walk_tail x (z ∷ xs) goes = goes.1

  pub trail_front : (xs : List ℕ) (y : ℕ) → IsTrail sends (xs ++ y ∷ []) → IsTrail sends xs
  trail_front [] y trail = tt
  trail_front (x ∷ xs) y trail = walk_front x xs y trail

  pub trail_push : (xs : List ℕ) (y z : ℕ) → IsTrail sends (xs ++ y ∷ []) → sends y z
      → IsTrail sends ((xs ++ y ∷ []) ++ z ∷ [])
  trail_push [] y z trail more = (more, tt)
  trail_push (x ∷ xs) y z trail more =
      walk_append x (xs ++ y ∷ []) (z ∷ []) trail
      (subst (λ (w : ℕ). IsWalk sends w (z ∷ [])) (sym (end_append x xs (y ∷ []))) (more, tt))

  -- the node before the last sends on to the last
  pub trail_last : (xs : List ℕ) (y z : ℕ) → IsTrail sends ((xs ++ y ∷ []) ++ z ∷ []) → sends y z
  trail_last [] y z trail = trail.0
  trail_last (x ∷ xs) y z trail =
      subst (λ (w : ℕ). sends w z) (end_append x xs (y ∷ [])) (walk_last x (xs ++ y ∷ []) z trail)

  -- if the last node sends on to a node of the walk, the part from this node on is a cycle
  pub cycle_from : (xs : List ℕ) (k y : ℕ) → k < length xs → get_or xs k 0 ≡ y → IsTrail sends (xs ++ y ∷ [])
      → IsCycle sends (drop k xs)
  cycle_from [] k y low at trail = absurd (omega (arith, low))
  cycle_from (x ∷ xs) zero y low at trail = subst (λ (w : ℕ). IsWalk sends x (xs ++ w ∷ [])) (sym at) trail
  cycle_from (x ∷ xs) (suc k) y low at trail =
      cycle_from xs k y (omega (arith, low)) at (walk_tail x (xs ++ y ∷ []) trail)

-- The least of the numbers that are taken of links, and of those so far.
use Rattle.std.proofs.Common.{Bool, IsTrue, List, MatchOption, None, Option, Some, add-one, ap, arith, false, get_or}
use Rattle.std.proofs.Common.{length, min, refl, subst, suc, sym, true, zero, ℕ, ⊎_elim, ◌+◌, ◌<◌, ◌≡◌, ◌≤◌, ◌∙◌}
use Rattle.std.specs.List.{Contains}
use Rattle.std.proofs.lemmas.Bool.{cases_Bool, cases_lt}
use Rattle.std.proofs.lemmas.List.{get_or_default}
use Rattle.std.proofs.lemmas.List.Elements.{Contains-get_or}
use Rattle.fr_node.specs.declared.link.Link.{Link}
use Rattle.fr_node.specs.declared.node.Node.{Node}
use Rattle.fr_node.specs.Distances.{HasNoWay, IsDistance, IsLeast, IsNearest, NonePasses, distance_over}
use Rattle.fr_node.specs.Links.{is_way, unknown}

not_both : (b : Bool) → b ≡ false → b ≡ true → ⊥
not_both b f t = cc

at_end : (P : ℕ → Type 0) (n : ℕ) → P n → ((k : ℕ) → k < n → P k) → (k : ℕ) → k < n + 1 → P k
at_end P n here below k l = ⊎_elim (λ b. below k b) (λ e. subst P (omega arith) here) (cases_lt k n)

module _ (p : Link → Bool) (f : Link → ℕ) (ls : List Link) where
  -- r is the least number of the first n links that pass the test
  abbrev pub IsLeastOf : ℕ → Option ℕ → Type 0
  IsLeastOf n None = (k : ℕ) → k < n → p (get_or ls k unknown) ≡ false
  IsLeastOf n (Some d) = ((k : ℕ) × (k < n) × (p (get_or ls k unknown) ≡ true) × (f (get_or ls k unknown) ≡ d))
      × ((k : ℕ) → k < n → p (get_or ls k unknown) ≡ true → d ≤ f (get_or ls k unknown))

  more : (n : ℕ) (r : Option ℕ) (v : ℕ) → IsLeastOf n r → p (get_or ls n unknown) ≡ true
      → MatchOption r (v ≡ f (get_or ls n unknown)) (λ d. v ≡ min d (f (get_or ls n unknown)))
      → IsLeastOf (n + 1) (Some v)
  more n None v before passes e = (
    (n, omega arith, passes, sym e),
    at_end (λ k. p (get_or ls k unknown) ≡ true → v ≤ f (get_or ls k unknown)) n
        (λ _. omega arith) (λ k l t. absurd (not_both (p (get_or ls k unknown)) (before k l) t)),
  )
  more n (Some d) v before passes e = (
    ⊎_elim
        (λ less. let k = before.0 in (k.0, omega (arith, k.1), k.2, omega (arith, k.3)))
        (λ most. (n, omega arith, passes, omega arith))
        (cases_lt d (f (get_or ls n unknown))),
    at_end (λ k. p (get_or ls k unknown) ≡ true → v ≤ f (get_or ls k unknown)) n
        (λ _. omega arith) (λ k l t. omega (arith, before.1 k l t)),
  )

  pub least_more : (n : ℕ) (r : Option ℕ) (v y : ℕ) (e : Link) → n < length ls → IsLeastOf n r
      → p (get_or ls n e) ≡ true → y ≡ f (get_or ls n e) → MatchOption r (v ≡ y) (λ d. v ≡ min d y)
      → IsLeastOf (n + 1) (Some v)
  least_more n r v y e h before = subst
      (λ (x : Link). p x ≡ true → y ≡ f x → MatchOption r (v ≡ y) (λ d. v ≡ min d y) → IsLeastOf (n + 1) (Some v))
      (get_or_default ls n unknown e h)
      (λ t is. subst (λ (u : ℕ). MatchOption r (v ≡ u) (λ d. v ≡ min d u) → IsLeastOf (n + 1) (Some v)) (sym is)
      (more n r v before t))

  same : (n : ℕ) (r : Option ℕ) → IsLeastOf n r → p (get_or ls n unknown) ≡ false → IsLeastOf (n + 1) r
  same n None before none = at_end (λ k. p (get_or ls k unknown) ≡ false) n none before
  same n (Some d) before none = (
    let k = before.0 in (k.0, omega (arith, k.1), k.2, k.3),
    at_end (λ k. p (get_or ls k unknown) ≡ true → d ≤ f (get_or ls k unknown)) n
        (λ t. absurd (not_both (p (get_or ls n unknown)) none t)) before.1,
  )

  pub least_same : (n : ℕ) (r : Option ℕ) (e : Link) → n < length ls → IsLeastOf n r → p (get_or ls n e) ≡ false
      → IsLeastOf (n + 1) r
  least_same n r e h before none = same n r before (ap p (get_or_default ls n unknown e h) ∙ none)

  pub least_all : (n : ℕ) (r : Option ℕ) → n ≡ length ls → IsLeastOf n r
      → MatchOption r (NonePasses p ls) (IsLeast p f ls)
  least_all n None e all = λ k l. all k (omega arith)
  least_all n (Some d) e all = record {
    some = let k = all.0 in (k.0, omega (arith, k.1), k.2, k.3);
    least = λ k l. all.1 k (omega arith);
  }

  pub least_once : (a b : ℕ) → IsLeast p f ls a → IsLeast p f ls b → a ≡ b
  least_once a b x y = omega (
    arith,
    x.some.3,
    y.some.3,
    x.least y.some.0 y.some.1 y.some.2,
    y.least x.some.0 x.some.1 x.some.2,
  )

  less_of : Option ℕ → ℕ → ℕ
  less_of None d = d
  less_of (Some k) d = min k d

  less_is : (r : Option ℕ) (d : ℕ) → MatchOption r (less_of r d ≡ d) (λ k. less_of r d ≡ min k d)
  unfolding less_of
  less_is None d = refl
  less_is (Some k) d = refl

  -- some number is the least of the first n links, or there is none
  some_least : (n : ℕ) → (r : Option ℕ) × IsLeastOf n r
  some_least zero = (None, λ k l. absurd (omega (arith, l)))
  some_least (suc n) = let before = some_least n in rw (← add-one n) (⊎_elim
      (λ t. (
        Some (less_of before.0 (f (get_or ls n unknown))),
        more n before.0 (less_of before.0 (f (get_or ls n unknown))) before.1 t
            (less_is before.0 (f (get_or ls n unknown))),
      ))
      (λ none. (before.0, same n before.0 before.1 none))
      (cases_Bool (p (get_or ls n unknown))))

  -- some number is the least, or there is none
  pub least_or_none : (r : Option ℕ) × MatchOption r (NonePasses p ls) (IsLeast p f ls)
  least_or_none = let found = some_least (length ls) in
      (found.0, least_all (length ls) found.0 refl found.1)

  -- the least number is that of a listed link
  pub least_link : (d : ℕ) → IsLeast p f ls d → (l : Link) × Contains ls l × (p l ≡ true) × (f l ≡ d)
  least_link d at = (
    get_or ls at.some.0 unknown,
    Contains-get_or ls at.some.0 unknown at.some.1,
    at.some.2,
    at.some.3,
  )

  -- and no greater than that of any other
  pub least_listed : (d : ℕ) (l : Link) → IsLeast p f ls d → Contains ls l → p l ≡ true → d ≤ f l
  least_listed d l at (i, within, e) t = subst (λ (x : Link). d ≤ f x) here
      (at.least i within (ap p here ∙ t))
    where
      here : get_or ls i unknown ≡ l
      here = get_or_default ls i unknown l within ∙ e

  pub none_listed : (l : Link) → NonePasses p ls → Contains ls l → p l ≡ false
  none_listed l none (i, within, e) = ap p (sym (get_or_default ls i unknown l within ∙ e)) ∙ none i within

by_nearest : (n : Node) (a b : ℕ) (r : Option ℕ) → ¬ IsTrue n.gateway
    → MatchOption r (HasNoWay n.own n.links.items) (IsNearest n.own n.links.items)
    → IsDistance n a → IsDistance n b → a ≡ b
by_nearest n a b None router none x y = omega (arith, x.far router none, y.far router none)
by_nearest n a b (Some d) router at x y = omega (arith, x.near router d at, y.near router d at)

-- a node has one distance
pub distance_once : (n : Node) (a b : ℕ) → IsDistance n a → IsDistance n b → a ≡ b
distance_once n a b x y = ⊎_elim
    (λ g. omega (arith, x.gateway g, y.gateway g))
    (λ f. let found = least_or_none (is_way n.own) distance_over n.links.items in
    by_nearest n a b found.0 (λ g. cc) found.1 x y)
    (cases_Bool n.gateway)

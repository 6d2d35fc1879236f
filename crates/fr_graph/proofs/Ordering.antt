-- A list of links in order is determined by how often it has each link.
use Rattle.std.proofs.Common.{Bool, Contains, IsPermutation, List, [], add-one, ap, arith, cond, count_by, eq-eqb, eqb}
use Rattle.std.proofs.Common.{eqb-true, false, get_or, inl}
use Rattle.std.proofs.Common.{inr, leb, ltb, refl, subst, suc, sym, true, zero, ℕ, ◌&&◌, ◌+◌, ◌∙◌, ◌∷◌, ◌≡◌, ◌≤◌}
use Rattle.std.proofs.lemmas.Bool.{and_parts, cases_Bool, cases_eq, leb-false, leb-true, ltb-false, ltb-true, or_cases}
use Rattle.std.proofs.lemmas.Bool.{or_parts}
use Rattle.std.proofs.lemmas.List.Sorted.{IsPermutation-cons, IsPermutation-middle, IsPermutation-refl}
use Rattle.std.proofs.lemmas.List.Sorted.{IsPermutation-sym, IsPermutation-trans}
use Rattle.std.proofs.lemmas.List.Sorted.{sum_by-IsPermutation}
use Rattle.std.proofs.lemmas.List.Sums.{sum_by-cons}
use Rattle.fr_graph.proofs.Booleans.{and_false}
use Rattle.fr_graph.proofs.Counting.{weigh}
use Rattle.fr_graph.proofs.Members.{Contains-cases, Contains-head, Contains-tail}
use Rattle.fr_graph.specs.Order.{AreInOrder, IsNotAfter, in_order, is_not_after, with_in_order}

pub up_trans : {p q r : ℕ × ℕ} → IsNotAfter p q → IsNotAfter q r → IsNotAfter p r
up_trans (inl a) (inl b) = inl (omega arith)
up_trans (inl a) (inr b) = inl (omega arith)
up_trans (inr a) (inl b) = inl (omega arith)
up_trans (inr a) (inr b) = inr (omega arith, omega arith)

first_same : {p q : ℕ × ℕ} → IsNotAfter p q → IsNotAfter q p → p.0 ≡ q.0
first_same (inl a) (inl b) = omega arith
first_same (inl a) (inr b) = omega arith
first_same (inr a) g = a.0

second_same : {p q : ℕ × ℕ} → IsNotAfter p q → IsNotAfter q p → p.1 ≡ q.1
second_same (inl a) (inl b) = omega arith
second_same (inl a) (inr b) = omega arith
second_same (inr a) (inl b) = omega arith
second_same (inr a) (inr b) = omega arith

pub up_both : (p q : ℕ × ℕ) → IsNotAfter p q → IsNotAfter q p → p ≡ q
up_both (a, b) (c, d) h g = let e : a ≡ c = first_same h g in let f : b ≡ d = second_same h g in cc

shift_at : (q : ℕ × ℕ) (qs : List (ℕ × ℕ)) (k : ℕ) (d : ℕ × ℕ) → get_or (q ∷ qs) (k + 1) d ≡ get_or qs k d
shift_at q qs k d = rw add-one refl

-- the first link of a list in order is not after any other link
pub order_tail : (q : ℕ × ℕ) (qs : List (ℕ × ℕ)) → AreInOrder (q ∷ qs) → AreInOrder qs
order_tail q qs order k d l =
    let t = order (k + 1) d (omega arith) in rw (← shift_at q qs k d, ← shift_at q qs (k + 1) d) t

order_head : (q r : ℕ × ℕ) (rs : List (ℕ × ℕ)) → AreInOrder (q ∷ (r ∷ rs)) → IsNotAfter q r
order_head q r rs order = order 0 q (omega arith)

order_cons : (q : ℕ × ℕ) (qs : List (ℕ × ℕ)) → ((r : ℕ × ℕ) (rs : List (ℕ × ℕ)) → qs ≡ r ∷ rs → IsNotAfter q r)
    → AreInOrder qs → AreInOrder (q ∷ qs)
order_cons q [] head order k d l = absurd (omega arith)
order_cons q (r ∷ rs) head order zero d l = head r rs refl
order_cons q (r ∷ rs) head order (suc k) d l =
    let e : suc k + 1 ≡ suc (k + 1) = omega arith in
    rw e (order k d (omega arith))

pub least_first : (q : ℕ × ℕ) (qs : List (ℕ × ℕ)) (x : ℕ × ℕ) → AreInOrder (q ∷ qs) → Contains qs x → IsNotAfter q x
least_first q [] x order h = absurd (omega (arith, h.1))
least_first q (r ∷ rs) x order h =
    let first = order_head q r rs order in
    elim (Contains-cases x r rs h) [
      | inl e ↦ subst (λ (y : ℕ × ℕ). IsNotAfter q y) e first
      | inr g ↦ up_trans first (least_first r rs x (order_tail q (r ∷ rs) order) g)
    ]

-- whether a link is (u, v)
abbrev pub is_pair : ℕ → ℕ → ℕ × ℕ → Bool
is_pair u v l = (eqb l.0 u) && (eqb l.1 v)

abbrev pub times : List (ℕ × ℕ) → ℕ × ℕ → ℕ
times xs x = count_by (is_pair x.0 x.1) xs

pub itself : (x : ℕ × ℕ) → is_pair x.0 x.1 x ≡ true
itself x = rw (eq-eqb x.0 x.0 refl, eq-eqb x.1 x.1 refl) refl

pub pair_from : (x y : ℕ × ℕ) → is_pair x.0 x.1 y ≡ true → y ≡ x
pair_from (a, b) (c, d) e =
    let t = and_parts _ _ e in let f : c ≡ a = eqb-true _ _ t.0 in let g : d ≡ b = eqb-true _ _ t.1 in cc

pub times-cons : (y : ℕ × ℕ) (ys : List (ℕ × ℕ)) (x : ℕ × ℕ) → times (y ∷ ys) x ≡ weigh (is_pair x.0 x.1 y) + times ys x
times-cons y ys x = let weight : ℕ × ℕ → ℕ = λ l. weigh (is_pair x.0 x.1 l) in sum_by-cons weight y ys

times_some : (y : ℕ × ℕ) (ys : List (ℕ × ℕ)) → 1 ≤ times (y ∷ ys) y
times_some y ys = let z : weigh (is_pair y.0 y.1 y) ≡ 1 = rw (itself y) refl in omega (arith, times-cons y ys y, z)

pub contains_counted : (xs : List (ℕ × ℕ)) (x : ℕ × ℕ) → 1 ≤ times xs x → Contains xs x
contains_counted [] x l = absurd (omega arith)
contains_counted (y ∷ ys) x l =
    elim (cases_Bool (is_pair x.0 x.1 y)) [
      | inl e ↦ subst (λ (z : ℕ × ℕ). Contains (y ∷ ys) z) (pair_from x y e) (Contains-head y ys)
      | inr e ↦ let z : weigh (is_pair x.0 x.1 y) ≡ 0 =
          rw e refl in Contains-tail x y ys (contains_counted ys x (omega (arith, times-cons y ys x, z)))
    ]

-- two lists in order that have the same links equally often are equal
pub same_order : (xs ys : List (ℕ × ℕ)) → AreInOrder xs → AreInOrder ys → ((x : ℕ × ℕ) → times xs x ≡ times ys x)
    → xs ≡ ys
same_order [] [] a b same = refl
same_order [] (y ∷ ys) a b same = absurd (omega (arith, same y, times_some y ys))
same_order (x ∷ xs) [] a b same = absurd (omega (arith, same x, times_some x xs))
same_order (x ∷ xs) (y ∷ ys) a b same =
    let head : x ≡ y =
    elim (Contains-cases x y ys (contains_counted (y ∷ ys) x (omega (arith, same x, times_some x xs)))) [
      | inl e ↦ sym e
      | inr h ↦ elim (Contains-cases y x xs (contains_counted (x ∷ xs) y (omega (arith, same y, times_some y ys)))) [
        | inl e ↦ e
        | inr g ↦ up_both x y (least_first x xs y a g) (least_first y ys x b h)
      ]
    ] in
    let tails : xs ≡ ys = same_order xs ys (order_tail x xs a) (order_tail y ys b)
    (λ z.
    let w : weigh (is_pair z.0 z.1 x) ≡ weigh (is_pair z.0 z.1 y) =
    ap (λ (l : ℕ × ℕ). weigh (is_pair z.0 z.1 l)) head in
    omega (arith, same z, times-cons x xs z, times-cons y ys z, w)) in
    cc

up_from_first : (p q : ℕ × ℕ) → is_not_after p q ≡ true → IsNotAfter p q
up_from_first p q e =
    elim (or_cases (ltb p.0 q.0) ((eqb p.0 q.0) && (leb p.1 q.1)) e) [
      | inl a ↦ inl (ltb-true _ _ a)
      | inr b ↦ let t = and_parts _ _ b in inr (eqb-true _ _ t.0, leb-true _ _ t.1)
    ]

up_from_not_first : (p q : ℕ × ℕ) → is_not_after p q ≡ false → IsNotAfter q p
up_from_not_first p q e =
    let t = or_parts (ltb p.0 q.0) ((eqb p.0 q.0) && (leb p.1 q.1)) e in
    let le = ltb-false _ _ t.0 in
    elim (cases_eq p.0 q.0) [
      | inl same ↦
          let f = and_false (eqb p.0 q.0) (leb p.1 q.1) t.1 (eq-eqb _ _ same) in
          inr (sym same, omega (arith, leb-false _ _ f))
      | inr ne ↦ inl (omega (arith, le, ne))
    ]

head_is : (p r : ℕ × ℕ) (qs rs : List (ℕ × ℕ)) → p ∷ qs ≡ r ∷ rs → p ≡ r
head_is p r qs rs e = cc

insert_head_by : (b : Bool) (p q s : ℕ × ℕ) (ss : List (ℕ × ℕ)) → IsNotAfter q p → IsNotAfter q s
    → (r : ℕ × ℕ) (rs : List (ℕ × ℕ)) → cond b (p ∷ (s ∷ ss)) (s ∷ with_in_order p ss) ≡ r ∷ rs → IsNotAfter q r
insert_head_by true p q s ss up next r rs e = subst (λ (y : ℕ × ℕ). IsNotAfter q y) (head_is p r (s ∷ ss) rs e) up
insert_head_by false p q s ss up next r rs e =
    subst (λ (y : ℕ × ℕ). IsNotAfter q y) (head_is s r (with_in_order p ss) rs e) next

insert_head : (p q : ℕ × ℕ) (qs : List (ℕ × ℕ)) → IsNotAfter q p → AreInOrder (q ∷ qs) → (r : ℕ × ℕ) (rs : List (ℕ × ℕ))
    → with_in_order p qs ≡ r ∷ rs → IsNotAfter q r
insert_head p q [] up order r rs e = subst (λ (y : ℕ × ℕ). IsNotAfter q y) (head_is p r [] rs e) up
insert_head p q (s ∷ ss) up order r rs e =
    insert_head_by (is_not_after p s) p q s ss up (order_head q s ss order) r rs e

insert_order_by : (b : Bool) (p q : ℕ × ℕ) (qs : List (ℕ × ℕ)) → is_not_after p q ≡ b → AreInOrder (q ∷ qs)
    → AreInOrder (with_in_order p qs) → AreInOrder (cond b (p ∷ (q ∷ qs)) (q ∷ with_in_order p qs))
insert_order_by true p q qs e order rest =
    order_cons p (q
    ∷ qs) (λ r rs f. subst (λ (y : ℕ × ℕ). IsNotAfter p y) (head_is q r qs rs f) (up_from_first p q e)) order
insert_order_by false p q qs e order rest =
    order_cons q (with_in_order p qs) (insert_head p q qs (up_from_not_first p q e) order) rest

pub insert_order : (p : ℕ × ℕ) (qs : List (ℕ × ℕ)) → AreInOrder qs → AreInOrder (with_in_order p qs)
insert_order p [] order = λ k d l. absurd (omega arith)
insert_order p (q ∷ qs) order =
    insert_order_by (is_not_after p q) p q qs refl order (insert_order p qs (order_tail q qs order))

pub in_order_order : (links : List (ℕ × ℕ)) → AreInOrder (in_order links)
in_order_order [] = λ k d l. absurd (omega arith)
in_order_order (l ∷ ls) = insert_order l (in_order ls) (in_order_order ls)

times_insert_by : (b : Bool) (p q : ℕ × ℕ) (qs : List (ℕ × ℕ)) (x : ℕ × ℕ)
    → times (with_in_order p qs) x ≡ weigh (is_pair x.0 x.1 p) + times qs x
    → times (cond b (p ∷ (q ∷ qs)) (q ∷ with_in_order p qs)) x ≡ weigh (is_pair x.0 x.1 p) + times (q ∷ qs) x
times_insert_by true p q qs x h = times-cons p (q ∷ qs) x
times_insert_by false p q qs x h = omega (arith, times-cons q (with_in_order p qs) x, times-cons q qs x, h)

pub times-insert : (p : ℕ × ℕ) (qs : List (ℕ × ℕ)) (x : ℕ × ℕ)
    → times (with_in_order p qs) x ≡ weigh (is_pair x.0 x.1 p) + times qs x
times-insert p [] x = times-cons p [] x
times-insert p (q ∷ qs) x =
    times_insert_by (is_not_after p q) p q qs x (times-insert p qs x)

pub times-in_order : (links : List (ℕ × ℕ)) (x : ℕ × ℕ) → times (in_order links) x ≡ times links x
times-in_order [] x = refl
times-in_order (l ∷ ls) x =
    times-insert l (in_order ls) x ∙ ap (λ (n : ℕ). weigh (is_pair x.0 x.1 l) + n) (times-in_order ls x)
    ∙ sym (times-cons l ls x)

-- a list in order that has the listed links is their list in order
pub order_of_listed : (listed sorted : List (ℕ × ℕ)) → IsPermutation listed sorted → AreInOrder sorted
    → sorted ≡ in_order listed
order_of_listed listed sorted same order =
    same_order sorted (in_order listed) order (in_order_order listed)
    (λ x. let weight : ℕ × ℕ → ℕ = λ l. weigh (is_pair x.0 x.1 l) in sum_by-IsPermutation weight listed sorted same
    ∙ sym (times-in_order listed x))

-- a link is in the list exactly if it is in the list in order
pub one_counted : (xs : List (ℕ × ℕ)) (x : ℕ × ℕ) → Contains xs x → 1 ≤ times xs x
one_counted [] x h = absurd (omega (arith, h.1))
one_counted (y ∷ ys) x h =
    elim (Contains-cases x y ys h) [
      | inl e ↦ subst (λ (z : ℕ × ℕ). 1 ≤ times (y ∷ ys) z) e (times_some y ys)
      | inr g ↦ omega (arith, times-cons y ys x, one_counted ys x g)
    ]

pub into_order : (links : List (ℕ × ℕ)) (x : ℕ × ℕ) → Contains links x → Contains (in_order links) x
into_order links x h =
    contains_counted (in_order links) x (omega (arith, times-in_order links x, one_counted links x h))

pub out_of_order : (links : List (ℕ × ℕ)) (x : ℕ × ℕ) → Contains (in_order links) x → Contains links x
out_of_order links x h =
    contains_counted links x (omega (arith, times-in_order links x, one_counted (in_order links) x h))

-- the same links in order are a permutation of those links
with_in_order_permutes_by : (b : Bool) (p q : ℕ × ℕ) (qs : List (ℕ × ℕ)) → IsPermutation (p ∷ qs) (with_in_order p qs)
    → IsPermutation (p ∷ (q ∷ qs)) (cond b (p ∷ (q ∷ qs)) (q ∷ with_in_order p qs))
with_in_order_permutes_by true p q qs rest = IsPermutation-refl (p ∷ (q ∷ qs))
with_in_order_permutes_by false p q qs rest =
    IsPermutation-trans (p ∷ (q ∷ qs)) (q ∷ (p ∷ qs)) (q ∷ with_in_order p qs)
    (IsPermutation-sym (q ∷ (p ∷ qs)) (p ∷ (q ∷ qs)) (IsPermutation-middle (q ∷ []) p qs))
    (IsPermutation-cons q (p ∷ qs) (with_in_order p qs) rest)

with_in_order_permutes : (p : ℕ × ℕ) (qs : List (ℕ × ℕ)) → IsPermutation (p ∷ qs) (with_in_order p qs)
with_in_order_permutes p [] = IsPermutation-refl (p ∷ [])
with_in_order_permutes p (q ∷ qs) = with_in_order_permutes_by (is_not_after p q) p q qs (with_in_order_permutes p qs)

pub in_order_permutes : (links : List (ℕ × ℕ)) → IsPermutation links (in_order links)
in_order_permutes [] = IsPermutation-refl []
in_order_permutes (l ∷ ls) =
    IsPermutation-trans (l ∷ ls) (l ∷ in_order ls) (with_in_order l (in_order ls))
    (IsPermutation-cons l ls (in_order ls) (in_order_permutes ls))
    (with_in_order_permutes l (in_order ls))

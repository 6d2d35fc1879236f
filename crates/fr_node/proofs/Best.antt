-- The best link of a list, and of one link more.
use Rattle.std.proofs.Common.{All, Bool, List, MatchOption, None, Option, Some, [], add-one, arith, cond, false, get_or}
use Rattle.std.proofs.Common.{length, refl, subst, suc, sym, take, true, zero, ℕ, ⊎_elim, ◌++◌, ◌+◌, ◌∷◌, ◌<◌, ◌≡◌, ◌≤◌}
use Rattle.std.specs.Cmp.{IsStrictWeakOrder}
use Rattle.std.proofs.lemmas.Bool.{cases_Bool}
use Rattle.std.proofs.lemmas.Bool.Decides.{nat_tests}
use Rattle.std.proofs.lemmas.List.{take_all, take_more}
use Rattle.std.proofs.lemmas.List.Elements.{All-nil, All-push, All-weaker, Contains-append_left, Contains-push}
use Rattle.fr_node.specs.declared.link.Link.{Link}
use Rattle.fr_node.specs.Links.{unknown}
use Rattle.fr_node.specs.Policies.{IsBest, IsBestOrNone, better_of, is_higher}

false_true : {b : Bool} → b ≡ false → b ≡ true → ⊥
false_true f t = cc

better_than : (Link → Link → Bool) → Option Link → Link → Link
better_than better None y = y
better_than better (Some x) y = better_of better x y

better_is : (better : Link → Link → Bool) (r : Option Link) (y : Link)
    → MatchOption r (better_than better r y ≡ y) (λ x. better_than better r y ≡ better_of better x y)
unfolding better_than
better_is better None y = refl
better_is better (Some x) y = refl

module _ (p : Link → Bool) (better : Link → Link → Bool) (o : IsStrictWeakOrder better)
    (xs : List Link) (y : Link) where
  itself : better y y ≡ false
  itself = ⊎_elim (λ t. o.one_way y y t) (λ f. f) (cases_Bool (better y y))

  first : All (λ l. p l ≡ false) xs → p y ≡ true → IsBest p better (xs ++ y ∷ []) y
  first none good = record {
    listed = Contains-push xs y;
    good = good;
    best = All-push (λ l. p l ≡ true → better l y ≡ false) xs y
        (All-weaker (λ l. p l ≡ false) (λ l. p l ≡ true → better l y ≡ false)
        (λ l f t. absurd (false_true f t)) xs none) (λ _. itself);
  }

  takes : (x : Link) → IsBest p better xs x → p y ≡ true → better y x ≡ true → IsBest p better (xs ++ y ∷ []) y
  takes x before good more = record {
    listed = Contains-push xs y;
    good = good;
    best = All-push (λ l. p l ≡ true → better l y ≡ false) xs y
        (All-weaker (λ l. p l ≡ true → better l x ≡ false) (λ l. p l ≡ true → better l y ≡ false)
        (λ l f t. o.chain l x y (f t) (o.one_way y x more)) xs before.best) (λ _. itself);
  }

  keeps : (x : Link) → IsBest p better xs x → (p y ≡ true → better y x ≡ false) → IsBest p better (xs ++ y ∷ []) x
  keeps x before less = record {
    listed = Contains-append_left xs (y ∷ []) x before.listed;
    good = before.good;
    best = All-push (λ l. p l ≡ true → better l x ≡ false) xs y before.best less;
  }

  pushed : (r : Option Link) (v : Link) → IsBestOrNone p better xs r → p y ≡ true
      → MatchOption r (v ≡ y) (λ x. v ≡ better_of better x y) → IsBest p better (xs ++ y ∷ []) v
  pushed None v before good e = subst (IsBest p better (xs ++ y ∷ [])) (sym e) (first before good)
  pushed (Some x) v before good e = subst (IsBest p better (xs ++ y ∷ [])) (sym e) (⊎_elim
      (λ t. subst (λ b. IsBest p better (xs ++ y ∷ []) (cond b y x)) (sym t) (takes x before good t))
      (λ f. subst (λ b. IsBest p better (xs ++ y ∷ []) (cond b y x)) (sym f) (keeps x before (λ _. f)))
      (cases_Bool (better y x)))

  skipped : (r : Option Link) → IsBestOrNone p better xs r → p y ≡ false → IsBestOrNone p better (xs ++ y ∷ []) r
  skipped None before bad = All-push (λ l. p l ≡ false) xs y before bad
  skipped (Some x) before bad = keeps x before (λ t. absurd (false_true bad t))

module _ (p : Link → Bool) (better : Link → Link → Bool) (o : IsStrictWeakOrder better)
    (ls : List Link) (i : ℕ) (d : Link) where
  pub best_more : i < length ls → (r : Option Link) (v : Link) → IsBestOrNone p better (take i ls) r
      → p (get_or ls i d) ≡ true → MatchOption r (v ≡ get_or ls i d) (λ x. v ≡ better_of better x (get_or ls i d))
      → IsBest p better (take (i + 1) ls) v
  best_more h r v before good e = subst (λ (xs : List Link). IsBest p better xs v) (sym (take_more ls i d h))
      (pushed p better o (take i ls) (get_or ls i d) r v before good e)

  pub best_same : i < length ls → (r : Option Link) → IsBestOrNone p better (take i ls) r
      → p (get_or ls i d) ≡ false → IsBestOrNone p better (take (i + 1) ls) r
  best_same h r before bad = subst (λ (xs : List Link). IsBestOrNone p better xs r) (sym (take_more ls i d h))
      (skipped p better o (take i ls) (get_or ls i d) r before bad)

pub best_all : (p : Link → Bool) (better : Link → Link → Bool) (ls : List Link) (i : ℕ) (r : Option Link)
    → length ls ≤ i → IsBestOrNone p better (take i ls) r → IsBestOrNone p better ls r
best_all p better ls i r l = subst (λ (xs : List Link). IsBestOrNone p better xs r) (take_all i ls l)

-- some link is the best of the first n, or there is none
best_of : (p : Link → Bool) (better : Link → Link → Bool) → IsStrictWeakOrder better → (ls : List Link) (n : ℕ)
    → n ≤ length ls → (r : Option Link) × IsBestOrNone p better (take n ls) r
best_of p better o ls zero h = (None, All-nil (λ l. p l ≡ false))
best_of p better o ls (suc n) h = let before = best_of p better o ls n (omega (arith, h)) in rw (← add-one n) (⊎_elim
    (λ t. (
      Some (better_than better before.0 (get_or ls n unknown)),
      best_more p better o ls n unknown (omega (arith, h)) before.0 (better_than better before.0 (get_or ls n unknown))
          before.1 t (better_is better before.0 (get_or ls n unknown)),
    ))
    (λ f. (before.0, best_same p better o ls n unknown (omega (arith, h)) before.0 before.1 f))
    (cases_Bool (p (get_or ls n unknown))))

pub best_of_all : (p : Link → Bool) (better : Link → Link → Bool) → IsStrictWeakOrder better → (ls : List Link)
    → (r : Option Link) × IsBestOrNone p better ls r
best_of_all p better o ls = let found = best_of p better o ls (length ls) (omega arith) in
    (found.0, best_all p better ls (length ls) found.0 (omega arith) found.1)

pub by_height : IsStrictWeakOrder is_higher
by_height = record {
  one_way = λ x y t. grind (arith, nat_tests);
  chain = λ x y z a b. grind (arith, nat_tests);
}

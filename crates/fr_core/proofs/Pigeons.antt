-- Pigeonhole: a list of different numbers below n, and counts that take each value up to n.
use Rattle.std.proofs.Common.{Contains, List, [], ap, arith, eqb, eqb-true, false, length, ne_eqb, refl, subst, suc}
use Rattle.std.proofs.Common.{sym, true, zero, ℕ, ⊎_elim, ◌<◌}
use Rattle.std.proofs.Common.{◌∷◌, ◌≡◌, ◌≤◌}
use Rattle.std.proofs.lemmas.Bool.{false≢true, or_cases}
use Rattle.std.proofs.lemmas.Map.Keys.{IsDistinct-cons}
use Rattle.std.proofs.lemmas.Map.Steps.{length-le_from_distinct_below}
use Rattle.std.specs.List.{AllByRecursion, IsDistinct, list_any}
use Rattle.fr_graph.proofs.Members.{Contains-cases, Contains-head, Contains-none, Contains-tail}

any-Contains : (q : ℕ) (xs : List ℕ) → list_any (eqb q) xs ≡ true → Contains xs q
any-Contains q [] e = absurd (false≢true e)
any-Contains q (x ∷ xs) e =
    ⊎_elim (λ h. subst (λ (z : ℕ). Contains (x ∷ xs) z) (sym (eqb-true q x h)) (Contains-head x xs))
    (λ h. Contains-tail q x xs (any-Contains q xs h)) (or_cases (eqb q x) (list_any (eqb q) xs) e)

pub distinct_length : (n : ℕ) (xs : List ℕ) → IsDistinct eqb xs → ((q : ℕ) → Contains xs q → q < n) → length xs ≤ n
distinct_length n xs distinct below = length-le_from_distinct_below xs n distinct (λ q h. below q (any-Contains q xs h))

each_apart : (x : ℕ) (xs : List ℕ) → ((y : ℕ) → Contains xs y → ¬ (x ≡ y)) → AllByRecursion (λ y. eqb x y ≡ false) xs
each_apart x [] apart = tt
each_apart x (y ∷ ys) apart =
    (ne_eqb x y (apart y (Contains-head y ys)), each_apart x ys (λ z h. apart z (Contains-tail z y ys h)))

pub IsDistinct-none : IsDistinct eqb []
unfolding IsDistinct
IsDistinct-none = tt

pub IsDistinct-more : (x : ℕ) (xs : List ℕ) → ((y : ℕ) → Contains xs y → ¬ (x ≡ y)) → IsDistinct eqb xs
    → IsDistinct eqb (x ∷ xs)
IsDistinct-more x xs apart distinct = IsDistinct-cons eqb x xs (each_apart x xs apart) distinct

-- nodes below n of the counts 0, 1, .., k - 1
record Levels (n : ℕ) (c : ℕ → ℕ) (k : ℕ) : Type 0 where
  nodes : List ℕ
  long : length nodes ≡ k
  distinct : IsDistinct eqb nodes
  each : (q : ℕ) → Contains nodes q → (q < n) × (c q < k)

levels : (n : ℕ) (c : ℕ → ℕ) (top : ℕ) → ((m : ℕ) → m < top → (y : ℕ) × (y < n) × (c y ≡ m)) → (k : ℕ) → k ≤ top
    → Levels n c k
levels n c top taken zero l =
    record { nodes = []; long = refl; distinct = IsDistinct-none; each = λ q h. absurd (Contains-none q h) }
levels n c top taken (suc k) l =
    let lower = levels n c top taken k (omega arith) in
    let y = taken k l in
    record {
      nodes = y.0 ∷ lower.nodes;
      long = ap suc lower.long;
      distinct =
          IsDistinct-more y.0 lower.nodes (λ z h e. omega (arith, (lower.each z h).1, ap c e, y.2)) lower.distinct;
      each = λ q h. ⊎_elim (λ e. (omega (arith, y.1, e), omega (arith, y.2, ap c e)))
          (λ r. ((lower.each q r).0, omega (arith, (lower.each q r).1))) (Contains-cases q y.0 lower.nodes h);
    }

-- n nodes do not take the n + 1 counts up to n
pub too_many_counts : (n : ℕ) (c : ℕ → ℕ) → ((m : ℕ) → m < suc n → (y : ℕ) × (y < n) × (c y ≡ m)) → ⊥
too_many_counts n c taken =
    let all = levels n c (suc n) taken (suc n) (omega arith) in
    omega (arith, distinct_length n all.nodes all.distinct (λ q h. (all.each q h).0), all.long)

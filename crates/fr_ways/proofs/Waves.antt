-- Waves: they fall downstream, and in a table without cycles each node has one, which is at most the number of nodes.
use Rattle.std.proofs.Common.{Bool, Contains, List, [], ap, arith, cond, inl, inr, length, subst, suc, sym, zero, ℕ}
use Rattle.std.proofs.Common.{⊎_elim}
use Rattle.std.proofs.Common.{◌++◌, ◌+◌, ◌<◌, ◌∷◌, ◌≡◌, ◌≤◌, ◌⊎◌}
use Rattle.std.specs.Prelude.{bytes_eq, not}
use Rattle.std.specs.List.{count_by}
use Rattle.std.proofs.lemmas.Bool.{cases_Bool, cases_lt}
use Rattle.std.proofs.lemmas.List.Sums.{count_by-le-length, sum_by-cons}
use lib.Pointwise.{bytes_decides}
use Rattle.fr_tables.specs.Walks.{IsDownstream, IsWalk, end_of}
use Rattle.fr_tables.proofs.Members.{Contains-cases, Contains-head, Contains-none, Contains-tail}
use Rattle.fr_tables.proofs.Relations.{Contains-end, free_short, walk_append, walk_below}
use Rattle.fr_ways.specs.Pushes.{DifferAt, IsWave, differ_at}
use Rattle.fr_ways.specs.Ways.{HasNoCycle, IsInRange, Sends, ways}

-- how many nodes of a list differ
abbrev pub differing : List (List ℕ) → List (List ℕ) → List ℕ → ℕ
differing old new xs = count_by (differ_at old new) xs

-- what a node adds to it
abbrev pub step : List (List ℕ) → List (List ℕ) → ℕ → ℕ
step old new x = cond (differ_at old new x) 1 0

pub step_differs : (old new : List (List ℕ)) (x : ℕ) → DifferAt old new x → step old new x ≡ 1
step_differs old new x differs = ⊎_elim
    (λ t. absurd (differs ((bytes_decides (ways old x) (ways new x)).0 t)))
    (λ f. ap (λ (b : Bool). cond (not b) 1 0) f)
    (cases_Bool (bytes_eq (ways old x) (ways new x)))

pub count_more : (old new : List (List ℕ)) (x : ℕ) (xs : List ℕ)
    → differing old new (x ∷ xs) ≡ step old new x + differing old new xs
count_more old new x xs = sum_by-cons (λ (y : ℕ). cond (differ_at old new y) 1 0) x xs

count_tail : (old new : List (List ℕ)) (z : ℕ) (zs walk : List ℕ)
    → differing old new (end_of z zs ∷ walk) ≤ differing old new (z ∷ (zs ++ walk))
count_tail old new z [] walk = omega arith
count_tail old new z (y ∷ ys) walk =
    omega (arith, count_tail old new y ys walk, count_more old new z (y ∷ (ys ++ walk)))

pub wave_unique : (old new : List (List ℕ)) (x k l : ℕ) → IsWave old new x k → IsWave old new x l → k ≡ l
wave_unique old new x k l v w = omega (arith, v.number, w.number, v.most w.walk w.goes, w.most v.walk v.goes)

pub wave_some : (old new : List (List ℕ)) (x k : ℕ) → DifferAt old new x → IsWave old new x k → 0 < k
wave_some old new x k differs w = omega (arith, w.most [] tt, count_more old new x [], step_differs old new x differs)

-- waves fall after a node that differs
pub wave_falls : (old new : List (List ℕ)) (x y k l : ℕ) → DifferAt old new x → IsDownstream (Sends new) x y
    → IsWave old new x k → IsWave old new y l → (x ≡ y) ⊎ (l < k)
wave_falls old new x y k l differs down v w = go down.by down.goes down.ends
  where
    go : (by : List ℕ) → IsWalk (Sends new) x by → end_of x by ≡ y → (x ≡ y) ⊎ (l < k)
    go [] goes ends = inl ends
    go (z ∷ zs) goes ends =
        let last : IsWave old new (end_of z zs) l = subst (λ (u : ℕ). IsWave old new u l) (sym ends) w in
        inr (omega (
          arith,
          v.most (z ∷ (zs ++ last.walk)) (walk_append (Sends new) x (z ∷ zs) last.walk goes last.goes),
          count_more old new x (z ∷ (zs ++ last.walk)),
          step_differs old new x differs,
          count_tail old new z zs last.walk,
          last.number,
        ))

-- the greatest number of differing nodes on a walk of at most n steps
record IsWaveWithin (old new : List (List ℕ)) (n x k : ℕ) : Type 0 where
  walk : List ℕ
  goes : IsWalk (Sends new) x walk
  number : differing old new (x ∷ walk) ≡ k
  most : (other : List ℕ) → IsWalk (Sends new) x other → length other ≤ n → differing old new (x ∷ other) ≤ k

-- the same, where the first step leads to one of these nodes
record IsBest (old new : List (List ℕ)) (n x : ℕ) (zs : List ℕ) (k : ℕ) : Type 0 where
  walk : List ℕ
  goes : IsWalk (Sends new) x walk
  number : differing old new (x ∷ walk) ≡ k
  here : step old new x ≤ k
  most : (z : ℕ) (other : List ℕ) → Contains zs z → IsWalk (Sends new) z other → length other ≤ n
      → differing old new (x ∷ z ∷ other) ≤ k

best_of : (old new : List (List ℕ)) (n x : ℕ) → ((z : ℕ) → (l : ℕ) × IsWaveWithin old new n z l) → (zs : List ℕ)
    → ((z : ℕ) → Contains zs z → Sends new x z) → (k : ℕ) × IsBest old new n x zs k
best_of old new n x next [] sends = (
  step old new x,
  record {
    walk = [];
    goes = tt;
    number = omega (arith, count_more old new x []);
    here = omega arith;
    most = λ z other found. absurd (Contains-none z found);
  },
)
best_of old new n x next (z ∷ zs) sends =
    let (k, best) = best_of old new n x next zs (λ v found. sends v (Contains-tail v z zs found)) in
    let (l, w) = next z in
    let first : (v : ℕ) (other : List ℕ) → z ≡ v → IsWalk (Sends new) v other → length other ≤ n
    → differing old new (x ∷ v ∷ other) ≤ step old new x + l =
    λ v other e goes short.
    let there : IsWaveWithin old new n v l = subst (λ (u : ℕ). IsWaveWithin old new n u l) e w in
    omega (arith, count_more old new x (v ∷ other), there.most other goes short) in
    elim (cases_lt k (step old new x + l)) [
      | inl lt ↦ (
        step old new x + l,
        record {
          walk = z ∷ w.walk;
          goes = (sends z (Contains-head z zs), w.goes);
          number = omega (arith, count_more old new x (z ∷ w.walk), w.number);
          here = omega arith;
          most = λ v other found goes short. elim (Contains-cases v z zs found) [
            | inl e ↦ first v other e goes short
            | inr later ↦ omega (arith, lt, best.most v other later goes short)
          ];
        },
      )
      | inr ge ↦ (
        k,
        record {
          walk = best.walk;
          goes = best.goes;
          number = best.number;
          here = best.here;
          most = λ v other found goes short. elim (Contains-cases v z zs found) [
            | inl e ↦ omega (arith, ge, first v other e goes short)
            | inr later ↦ best.most v other later goes short
          ];
        },
      )
    ]

wave_within : (old new : List (List ℕ)) (n x : ℕ) → (k : ℕ) × IsWaveWithin old new n x k
wave_within old new zero x = (
  step old new x,
  record {
    walk = [];
    goes = tt;
    number = omega (arith, count_more old new x []);
    most = most;
  },
)
  where
    most : (other : List ℕ) → IsWalk (Sends new) x other → length other ≤ 0
        → differing old new (x ∷ other) ≤ step old new x
    most [] goes short = omega (arith, count_more old new x [])
    most (y ∷ ys) goes short = omega (arith, short)
wave_within old new (suc n) x =
    let (k, best) = best_of old new n x (wave_within old new n) (ways new x) (λ z found. found) in
    (k, record { walk = best.walk; goes = best.goes; number = best.number; most = most k best })
  where
    most : (k : ℕ) → IsBest old new n x (ways new x) k → (other : List ℕ) → IsWalk (Sends new) x other
        → length other ≤ suc n
        → differing old new (x ∷ other) ≤ k
    most k best [] goes short = omega (arith, count_more old new x [], best.here)
    most k best (y ∷ ys) goes short = best.most y ys goes.0 goes.1 (omega (arith, short))

-- without cycles each node has a wave
pub free_wave : (old new : List (List ℕ)) (x : ℕ) → IsInRange new → HasNoCycle new → x < length new
    → (k : ℕ) × IsWave old new x k
free_wave old new x range free low =
    let (k, w) = wave_within old new (length new) x in (
      k,
      record {
        walk = w.walk;
        goes = w.goes;
        number = w.number;
        most = λ other goes. w.most other goes
            (omega (arith, free_short (Sends new) (length new) range x other free low goes));
      },
    )

pub wave_low : (old new : List (List ℕ)) (x k : ℕ) → IsInRange new → HasNoCycle new → x < length new
    → IsWave old new x k → k ≤ length new
wave_low old new x k range free low w =
    omega (
      arith,
      w.number,
      count_by-le-length (differ_at old new) (x ∷ w.walk),
      free_short (Sends new)
          (length new) range x w.walk free low w.goes,
    )

-- so does each node downstream of one that has a wave
pub downstream_wave : (old new : List (List ℕ)) (x y k : ℕ) → IsInRange new → HasNoCycle new → IsWave old new x k
    → IsDownstream (Sends new) x y → (l : ℕ) × IsWave old new y l
downstream_wave old new x y k range free w down = go down.by down.goes down.ends
  where
    go : (by : List ℕ) → IsWalk (Sends new) x by → end_of x by ≡ y → (l : ℕ) × IsWave old new y l
    go [] goes ends = (k, subst (λ (u : ℕ). IsWave old new u k) ends w)
    go (z ∷ zs) goes ends = free_wave old new y range free
        (walk_below (Sends new) (length new) range x (z ∷ zs) y goes
        (subst (Contains (z ∷ zs)) ends (Contains-end z zs)))

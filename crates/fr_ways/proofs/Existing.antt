-- Two tables of the same length have a push order if the new one has no cycle.
use Rattle.std.proofs.Common.{All, List, [], arith, get_or, inl, inr, length, refl, sym, ℕ, ⊎_elim, ◌<◌, ◌∙◌, ◌≡◌, ◌≤◌}
use Rattle.std.proofs.lemmas.Bool.{cases_lt}
use Rattle.std.proofs.lemmas.List.{get_or_default, get_or_past}
use Rattle.fr_tables.specs.Sorting.{IsByKey}
use Rattle.fr_tables.proofs.ByKey.{listed, some_by_key}
use Rattle.fr_tables.proofs.Ranks.{low_everywhere}
use Rattle.fr_ways.specs.Pushes.{DifferAt, IsPushOrder, IsWave}
use Rattle.fr_ways.specs.Ways.{HasNoCycle, IsInRange, ways}
use Rattle.fr_ways.proofs.Tables.{cases_differ}
use Rattle.fr_ways.proofs.Waves.{free_wave, wave_low, wave_some}

-- the waves of the nodes at which the tables differ, and 0 for the others
record AreKeys (old new : List (List ℕ)) (keys : List ℕ) : Type 0 where
  one_each : length keys ≡ length new
  differ : (x : ℕ) → x < length new → DifferAt old new x → IsWave old new x (get_or keys x 0)
  same : (x : ℕ) → x < length new → ways old x ≡ ways new x → get_or keys x 0 ≡ 0

keys_low : (old new : List (List ℕ)) (keys : List ℕ) → IsInRange new → HasNoCycle new → AreKeys old new keys
    → All (λ (k : ℕ). k ≤ length keys) keys
keys_low old new keys range free are i d low =
    let inside : i < length new = omega (arith, low, are.one_each) in
    let at = get_or_default keys i d 0 low in
    elim (cases_differ old new i) [
      | inl same ↦ omega (arith, at, are.same i inside same)
      | inr differs ↦ omega (
        arith,
        at,
        are.one_each,
        wave_low old new i (get_or keys i 0) range free inside
            (are.differ i inside differs),
      )
    ]

differs_inside : (old new : List (List ℕ)) → length old ≡ length new → (x : ℕ) → DifferAt old new x → x < length new
differs_inside old new same x differs = elim (cases_lt x (length new)) [
  | inl low ↦ low
  | inr out ↦ absurd (differs (get_or_past old x [] (omega (arith, out, same)) ∙ sym (get_or_past new x [] out)))
]

-- a node has a key exactly if the tables differ at it
module _ (old new : List (List ℕ)) (keys : List ℕ) (same_length : length old ≡ length new)
    (are : AreKeys old new keys) where
  keyed_inside : (x : ℕ) → 0 < get_or keys x 0 → x < length new
  keyed_inside x some = elim (cases_lt x (length new)) [
    | inl low ↦ low
    | inr out ↦ omega (arith, some, get_or_past keys x 0 (omega (arith, out, are.one_each)))
  ]

  keyed_differs : (x : ℕ) → 0 < get_or keys x 0 → DifferAt old new x
  keyed_differs x some = ⊎_elim (λ same. absurd (omega (arith, some, are.same x (keyed_inside x some) same)))
      (λ differs. differs) (cases_differ old new x)

  order_from_keys : (nodes : List ℕ) → IsByKey keys nodes → IsPushOrder old new nodes
  order_from_keys nodes is = record {
    these = λ x. (
      λ found. keyed_differs x ((is.these x).0 found),
      λ differs. (is.these x).1 (wave_some old new x (get_or keys x 0) differs
          (are.differ x (differs_inside old new same_length x differs) differs)),
    );
    sorted = λ i j lt inside. record {
      wave_x = get_or keys (get_or nodes i 0) 0;
      wave_y = get_or keys (get_or nodes j 0) 0;
      of_x = of i (omega (arith, lt, inside));
      of_y = of j inside;
      earlier = is.earlier i j lt inside;
      lower = is.lower i j lt inside;
    };
  }
    where
      of : (i : ℕ) → i < length nodes → IsWave old new (get_or nodes i 0) (get_or keys (get_or nodes i 0) 0)
      of i inside =
          let x : ℕ = get_or nodes i 0 in
          let some : 0 < get_or keys x 0 = (is.these x).0 (i, inside, get_or_default nodes i x 0 inside) in
          are.differ x (keyed_inside x some) (keyed_differs x some)

some_keys : (old new : List (List ℕ)) → IsInRange new → HasNoCycle new → (keys : List ℕ) × AreKeys old new keys
some_keys old new range free =
    let P : ℕ → ℕ → Type 0 = λ x k. (DifferAt old new x → IsWave old new x k) × (ways old x ≡ ways new x → k ≡ 0) in
    let (keys, long, each) = listed P (length new) (λ x low. elim (cases_differ old new x) [
      | inl same ↦ (0, (λ differs. absurd (differs same), λ _. refl))
      | inr differs ↦ let (k, wave) =
          free_wave old new x range free low in (k, (λ _. wave, λ same. absurd (differs same)))
    ]) in
    (keys, record { one_each = long; differ = λ x low. (each x low).0; same = λ x low. (each x low).1 })

pub order_exists : (old new : List (List ℕ)) → length old ≡ length new → IsInRange new → HasNoCycle new
    → (order : List ℕ) × IsPushOrder old new order
order_exists old new same range free =
    let (keys, are) = some_keys old new range free in
    let (nodes, is) = some_by_key keys (low_everywhere keys (keys_low old new keys range free are)) in
    (nodes, order_from_keys old new keys same are nodes is)

-- First ways, where ways are listed by their distances from the destination.
use Rattle.std.proofs.Common.{List, [], ap, arith, get_or, inl, inr, length, refl, subst, suc, sym}
use Rattle.std.proofs.Common.{zero, ℕ, ◌<◌, ◌∙◌, ◌∷◌, ◌≡◌, ◌≤◌}
use Rattle.std.proofs.lemmas.Bool.{cases_eq}
use Rattle.std.proofs.lemmas.List.{get_or_default}
use Rattle.std.proofs.lemmas.Option.{get_or_from_slice_get, slice_get-get_or, slice_get_within}
use Rattle.fr_tables.specs.Walks.{IsWalk, end_of}
use Rattle.fr_ways.specs.Ways.{IsDistance, IsNearestFirst, Sends, SendsFirst, ways}

first_sends : (table : List (List ℕ)) (x : ℕ) (ys : List ℕ) → IsWalk (SendsFirst table) x ys
    → IsWalk (Sends table) x ys
first_sends table x [] goes = tt
first_sends table x (y ∷ ys) goes = (
  (0, slice_get_within (ways table x) 0 y goes.0, get_or_from_slice_get (ways table x) 0 y y goes.0),
  first_sends table y ys goes.1,
)

module _ (table : List (List ℕ)) (d : ℕ) where
  -- the second node of a shortest walk is one step nearer
  next_distance : (x y : ℕ) (ys : List ℕ) → IsWalk (Sends table) x (y ∷ ys) → end_of y ys ≡ d
      → ((other : List ℕ) → IsWalk (Sends table) x other → end_of x other ≡ d → length (y ∷ ys) ≤ length other)
      → IsDistance table d y (length ys)
  next_distance x y ys goes arrives fewest = record {
    walk = ys;
    goes = goes.1;
    arrives = arrives;
    number = refl;
    fewest = λ other more there. omega (arith, fewest (y ∷ other) (goes.0, more) there);
  }

  first_read : (x : ℕ) → 0 < length (ways table x) → SendsFirst table x (get_or (ways table x) 0 0)
  first_read x some = slice_get-get_or (ways table x) 0 0 some

  pub first_nearer : (x steps : ℕ) → IsNearestFirst table d → 0 < steps → IsDistance table d x steps
      → (y k : ℕ) × SendsFirst table x y × IsDistance table d y k × (k < steps)
  first_nearer x steps nearest some is = go is.walk is.goes is.arrives is.number
    where
      go : (walk : List ℕ) → IsWalk (Sends table) x walk → end_of x walk ≡ d → length walk ≡ steps
          → (y k : ℕ) × SendsFirst table x y × IsDistance table d y k × (k < steps)
      go [] goes arrives number = absurd (omega (arith, some, number))
      go (z ∷ zs) goes arrives number =
          let (j, inside, there) = goes.0 in
          let of_z : IsDistance table d z (length zs) =
          next_distance x z zs goes arrives (λ other more at. omega (arith, is.fewest other more at, number)) in
          let at_j : get_or (ways table x) j 0 ≡ z = get_or_default (ways table x) j 0 z inside ∙ there in
          let y : ℕ = get_or (ways table x) 0 0 in
          elim (cases_eq j 0) [
            | inl e ↦
                let same : z ≡ y = sym at_j ∙ ap (λ (k : ℕ). get_or (ways table x) k 0) e in (
                  y,
                  length zs,
                  first_read x (omega (arith, inside)),
                  subst (λ (v : ℕ). IsDistance table d v (length zs)) same of_z,
                  omega (arith, number),
                )
            | inr apart ↦
                let (k, of_y, le) = nearest x 0 j (length zs) (omega (arith, apart)) inside
                (subst (λ (v : ℕ). IsDistance table d v (length zs)) (sym at_j) of_z) in
                (y, k, first_read x (omega (arith, inside)), of_y, omega (arith, le, number))
          ]

  -- a shortest walk of no steps is at its end
  pub first_shortest : (x steps : ℕ) → IsNearestFirst table d → IsDistance table d x steps
      → (ys : List ℕ) × IsWalk (SendsFirst table) x ys × (end_of x ys ≡ d) × (length ys ≡ steps)
  first_shortest x steps nearest is = go steps x steps (omega arith) is
    where
      here : (x : ℕ) (walk : List ℕ) → end_of x walk ≡ d → length walk ≡ 0 → x ≡ d
      here x [] ends none = ends
      here x (y ∷ ys) ends none = absurd (omega (arith, none))

      go : (fuel x steps : ℕ) → steps ≤ fuel → IsDistance table d x steps
          → (ys : List ℕ) × IsWalk (SendsFirst table) x ys × (end_of x ys ≡ d) × (length ys ≡ steps)
      go zero x steps few is = ([], tt, here x is.walk is.arrives (omega (arith, is.number, few)), omega (arith, few))
      go (suc fuel) x steps few is = elim (cases_eq steps 0) [
        | inl e ↦ ([], tt, here x is.walk is.arrives (omega (arith, is.number, e)), omega (arith, e))
        | inr some ↦
            let (y, k, first, of_y, lower) = first_nearer x steps nearest (omega (arith, some)) is in
            let (ys, goes, ends, long) = go fuel y k (omega (arith, lower, few)) of_y in (
              y ∷ ys,
              (first, goes),
              ends,
              omega
                  (arith, long, lower, is.fewest (y ∷ ys) (first_sends table x (y ∷ ys) (first, goes)) ends),
            )
      ]

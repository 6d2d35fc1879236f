use Rattle.std.proofs.Common.{All, Contains, List, [], arith, drop, length, subst, take, ap, ℕ, ⊎_elim, ◌++◌}
use Rattle.std.proofs.Common.{◌<◌, ◌∙◌, ◌∷◌, ◌≡◌, slice_set}
use Rattle.std.proofs.lemmas.Bool.{cases_eq, cases_lt}
use Rattle.std.proofs.lemmas.List.{get_or-set_other, get_or-set_same, get_or_past, length-set, length-take}
use Rattle.std.proofs.lemmas.List.{take-append-drop}
use Rattle.std.proofs.lemmas.List.Elements.{Contains-append_left}
use Rattle.fr_tables.specs.Walks.{IsWalk}
use Rattle.fr_tables.proofs.Members.{Contains-none}
use Rattle.fr_ways.specs.Ways.{HasNoCycle, Sends, ways}
use Rattle.fr_shared.specs.WayTables.{IsTable}
use Rattle.fr_shared.proofs.ways.tests.set.Goals as goal

-- a walk along ways to lower numbers
walk_falls : (sends : ℕ → ℕ → Type 0) → ((y z : ℕ) → sends y z → z < y) → (x : ℕ) (ys : List ℕ) (z : ℕ)
    → IsWalk sends x (ys ++ z ∷ []) → z < x
walk_falls sends lower x [] z goes = lower x z goes.0
walk_falls sends lower x (y ∷ ys) z goes =
    omega (arith, lower x y goes.0, walk_falls sends lower y ys z goes.1)

falls_free : (table : List (List ℕ)) → ((y z : ℕ) → Sends table y z → z < y) → HasNoCycle table
falls_free table lower [] is = is
falls_free table lower (x ∷ xs) is = omega (arith, walk_falls (Sends table) lower x xs x is)

module _ (table : List (List ℕ)) (x : ℕ) (list : List ℕ) (node : x < 8) (low : All (λ (y : ℕ). y < x) list)
    (is : IsTable 8 table)
    (lower : (y z : ℕ) → Sends table y z → z < y) where
  abbrev after : List (List ℕ)
  after = slice_set table x (take 5 list)

  here : ways after x ≡ take 5 list
  here = get_or-set_same table x (take 5 list) [] (omega (arith, node, is.one_each))

  there : (y : ℕ) → ¬ (y ≡ x) → ways after y ≡ ways table y
  there y apart = get_or-set_other table x y (take 5 list) [] apart

  still_lower : (y z : ℕ) → Sends after y z → z < y
  still_lower y z sends = ⊎_elim
      (λ e.
      let found : Contains (take 5 list) z =
      subst (λ (l : List ℕ). Contains l z) (ap (λ (w : ℕ). ways after w) e ∙ here) sends in
      let whole = subst (λ (l : List ℕ). Contains l z) (take-append-drop 5 list)
      (Contains-append_left (take 5 list) (drop 5 list) z found) in
      omega (arith, e, subst (λ (w : ℕ). w < x) whole.2 (low whole.0 z whole.1)))
      (λ apart. lower y z (subst (λ (l : List ℕ). Contains l z) (there y apart) sends))
      (cases_eq y x)

  still_table : IsTable 8 after
  still_table = record {
    one_each = length-set table x (take 5 list) ∙ is.one_each;
    in_range = λ y z sends. ⊎_elim
        (λ inside. omega (arith, still_lower y z sends, inside))
        (λ past. absurd (Contains-none z (subst (λ (l : List ℕ). Contains l z) (get_or_past after y [] past) sends)))
        (cases_lt y (length after));
    few = λ y. ⊎_elim
        (λ e. omega (arith, ap length (ap (λ (w : ℕ). ways after w) e ∙ here), length-take 5 list))
        (λ apart. omega (arith, ap length (there y apart), is.few y))
        (cases_eq y x);
    cycle_free = falls_free after still_lower;
  }

pub set-requires-clause-low : goal.set-requires-clause-low
set-requires-clause-low c k d low = omega (arith, c.requires.lower k d low, c.requires.node)

pub returns : goal.returns
returns c =
    let q = c.requires in
    let list : List ℕ = c.args.ways.now in
    rw c.set.ensures (
      still_table c.args.table.now c.args.x list q.node q.lower q.table.0 q.table.1,
      still_lower c.args.table.now c.args.x list q.node q.lower q.table.0 q.table.1,
    )

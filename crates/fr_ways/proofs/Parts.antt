-- Parts of tables without cycles, and what follows links. Their walks are short and arrive, whichever ways they take.
use Rattle.std.proofs.Common.{Contains, List, [], arith, eqb, inl, inr, length, refl, suc, zero, ℕ, ◌++◌, ◌<◌, ◌∙◌}
use Rattle.std.proofs.Common.{◌∷◌, ◌≡◌, ◌⊎◌}
use Rattle.std.specs.List.{IsDistinct}
use Rattle.std.proofs.lemmas.Bool.{cases_eq}
use Rattle.fr_tables.specs.Walks.{IsCycle, IsCycleFree, IsDownstream, IsWalk, end_of}
use Rattle.fr_tables.proofs.Relations.{Contains-end, all_below, end_append, free_short, free_simple, here_downstream}
use Rattle.fr_tables.proofs.Relations.{next_downstream}
use Rattle.fr_tables.proofs.Relations.{simple_distinct, walk_append}
use Rattle.fr_ways.specs.Ways.{HasCycle, HasLostAll, HasNoCycle, IsInRange, IsPartOf, IsWholeWalk, LeadsOnTo, Sends}

-- walks of a relation that is a part of another
module _ (part whole : ℕ → ℕ → Type 0) (is : (x y : ℕ) → part x y → whole x y) where
  pub part_walk : (x : ℕ) (ys : List ℕ) → IsWalk part x ys → IsWalk whole x ys
  part_walk x [] goes = tt
  part_walk x (y ∷ ys) goes = (is x y goes.0, part_walk y ys goes.1)

  pub part_cycle : (cycle : List ℕ) → IsCycle part cycle → IsCycle whole cycle
  part_cycle [] has = has
  part_cycle (x ∷ xs) has = part_walk x (xs ++ x ∷ []) has

  pub part_free : IsCycleFree whole → IsCycleFree part
  part_free free cycle has = free cycle (part_cycle cycle has)

pub part_has : (part table : List (List ℕ)) (cycle : List ℕ) → IsPartOf part table → HasCycle part cycle
    → HasCycle table cycle
part_has part table cycle is = part_cycle (Sends part) (Sends table) is cycle

pub links_free : (points : ℕ → ℕ → Type 0) (table : List (List ℕ)) → IsCycleFree points
    → ((x y : ℕ) → Sends table x y → points x y)
    → HasNoCycle table
links_free points table free is = part_free (Sends table) points is free

pub walks_short : (table : List (List ℕ)) (x : ℕ) (ys : List ℕ) → IsInRange table → HasNoCycle table → x < length table
    → IsWalk (Sends table) x ys → length ys < length table
walks_short table x ys range free low goes =
    omega (arith, free_short (Sends table) (length table) range x ys free low goes)

-- a walk of so many steps, or one that arrives earlier
walk_on : (table : List (List ℕ)) (d n x : ℕ) → LeadsOnTo table d x
    → IsDownstream (Sends table) x d ⊎ ((zs : List ℕ) × IsWalk (Sends table) x zs × (length zs ≡ n))
walk_on table d zero x leads = inr ([], tt, refl)
walk_on table d (suc n) x leads = elim (cases_eq x d) [
  | inl e ↦ inl (record { by = []; goes = tt; ends = e })
  | inr apart ↦
      let (y, sends) = leads x (here_downstream (Sends table) x) apart in
      elim (walk_on table d n y (λ z down. leads z (next_downstream (Sends table) x y z sends down))) [
        | inl down ↦ inl (next_downstream (Sends table) x y d sends down)
        | inr (zs, goes, long) ↦ inr (y ∷ zs, (sends, goes), omega (arith, long))
      ]
]

pub arrives : (table : List (List ℕ)) (d x : ℕ) (ys : List ℕ) → IsInRange table → HasNoCycle table
    → x < length table → LeadsOnTo table d x → IsWalk (Sends table) x ys → IsDownstream (Sends table) (end_of x ys) d
arrives table d x ys range free low leads goes =
    let last : ℕ = end_of x ys in
    elim (walk_on table d (length table) last (λ z down. leads z (record {
      by = ys ++ down.by;
      goes = walk_append (Sends table) x ys down.by goes down.goes;
      ends = end_append x ys down.by ∙ down.ends;
    }))) [
      | inl down ↦ down
      | inr (zs, more, long) ↦
          let inside = all_below (Sends table) (length table) range x ys low goes last (Contains-end x ys) in
          absurd (omega (arith, free_short (Sends table) (length table) range last zs free inside more, long))
    ]

pub failover : (table part : List (List ℕ)) (d x : ℕ) (ys : List ℕ) → HasNoCycle table → IsPartOf part table
    → ((y : ℕ) → Contains (x ∷ ys) y → ¬ (y ≡ d) → (z : ℕ) × Sends table y z) → IsWholeWalk part x ys
    → IsDistinct eqb (x ∷ ys) × ((end_of x ys ≡ d) ⊎ HasLostAll table part (end_of x ys))
failover table part d x ys free is had whole = (
  simple_distinct x ys (free_simple (Sends table) x ys free (part_walk (Sends part) (Sends table) is x ys whole.goes)),
  elim (cases_eq (end_of x ys) d) [
    | inl e ↦ inl e
    | inr apart ↦ inr (record { had = had (end_of x ys) (Contains-end x ys) apart; none = whole.ends })
  ],
)

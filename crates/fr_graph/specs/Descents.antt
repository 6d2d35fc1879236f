-- The state of the search for the lowest path from one node to another. For proofs only.
use Rattle.std.specs.Prelude.{◌≡◌, ◌≢◌, ℕ, ◌<◌, ◌≤◌, ◌+◌, ◌-◌, ◌*◌, ◌⊎◌, Bool, true, false, not, List, [], ◌∷◌, length}
use Rattle.std.specs.Prelude.{map, replicate, slice_index, slice_index_or, slice_set, vec_capacity, vec_len, count_by}
use Rattle.std.specs.List.{All, Contains}
use Rattle.fr_graph.specs.Evidence.{IsWayBy}
use Rattle.fr_graph.specs.KeptRows.{net_in}
use Rattle.fr_graph.specs.Links.{HasPath, Points}
use Rattle.fr_graph.specs.Tables.{Table, row_of}
use Rattle.fr_graph.specs.declared.first.First.{First}
use Rattle.fr_graph.specs.declared.first.First.TheVariants.{Outward}
use Rattle.fr_graph.specs.declared.lowest_cycle.Descent.{Descent}
use Rattle.fr_graph.specs.declared.lowest_cycle.Step.{Step}

-- the nodes of the path
abbrev pub nodes_of : List Step → List ℕ
nodes_of path = map (λ (step : Step). step.node) path

-- if the link of the entry leads to the neighbour, the neighbour has P
abbrev pub LeadsOnlyTo : (ℕ → Type 0) → ℕ × First → Type 0
LeadsOnlyTo P entry = entry.1 ≡ Outward → P entry.0

-- the links before the next place in the row of this step lead to nodes with P
pub record HasRead (rows : Table) (P : ℕ → Type 0) (step : Step) : Type 0 where
  pub inside : step.next ≤ length (row_of rows step.node)
  pub passed : (k : ℕ) (d : ℕ × First) → k < step.next → LeadsOnlyTo P (slice_index_or (row_of rows step.node) k d)

-- whether the search has met x
abbrev pub has_met : List Bool → ℕ → Bool
has_met met x = slice_index_or met x false

-- how many nodes it has not met
abbrev pub unmet_count : List Bool → ℕ
unmet_count met = count_by not met

-- how far the search is from its end: this number falls with each step
abbrev pub left_count : Descent → ℕ
left_count descent = 2 * unmet_count descent.met.items + length descent.path.items

-- the node from which the search starts
abbrev pub start_of : Descent → ℕ
start_of descent = slice_index (nodes_of descent.path.items) 0

-- the last node of the path
abbrev pub last_of : Descent → ℕ
last_of descent = slice_index (nodes_of descent.path.items) (vec_len descent.path - 1)

-- the search goes from one node to another, among this number of nodes, and has met only the first one
pub record HasBegun (nodes from to : ℕ) (descent : Descent) : Type 0 where
  pub to_is : descent.to ≡ to
  pub path_is : descent.path.items ≡ record { node = from; next = 0 } ∷ []
  pub met_is : descent.met.items ≡ slice_set (replicate nodes false) from true
  pub room : nodes ≤ vec_capacity descent.path

-- there is one height for each node, and the search looks for one of these nodes
pub record HasHeights (heights : List ℕ) (descent : Descent) : Type 0 where
  pub one_each : length heights ≡ length descent.met.items
  pub to_below : descent.to < length heights

-- the search has met x, or x is lower than the node that it looks for
abbrev pub IsSkipped : List ℕ → Descent → ℕ → Type 0
IsSkipped heights descent x = (has_met descent.met.items x ≡ true)
    ⊎ (slice_index heights x < slice_index heights descent.to)

-- the link of the entry leads to the neighbour, and the search has not met it
abbrev pub LeadsToUnmet : Descent → ℕ × First → Type 0
LeadsToUnmet descent entry = (entry.1 ≡ Outward) × (has_met descent.met.items entry.0 ≡ false)

-- no links lead from x to u
abbrev pub LeadsNot : List (ℕ × ℕ) → ℕ → ℕ → Type 0
LeadsNot links u x = ¬ HasPath links x u

-- a link leads from x, which is not u, to y, and of the nodes below y to which a link of x leads, none leads to u
pub record LeadsFirst (links : List (ℕ × ℕ)) (u x y : ℕ) : Type 0 where
  pub apart : x ≢ u
  pub points : Points links x y
  pub lowest : (w : ℕ) → Points links x w → w < y → LeadsNot links u w

-- Links lead from the first node of the path to the node that the search looks for. From nodes that the search has met
-- and left, from the read part of each row, and from nodes below the next one of the path, no links lead there. The path
-- has room for each node that the search has not met.
pub record IsDescent (rows : Table) (descent : Descent) : Type 0 where
  pub one_each : length descent.met.items ≡ length rows.rows
  pub to_below : descent.to < length rows.rows
  pub full : 0 < length descent.path.items
  pub leads : HasPath (net_in rows).links (start_of descent) descent.to
  pub below : All (λ (x : ℕ). x < length rows.rows) (nodes_of descent.path.items)
  pub goes_on : IsWayBy (LeadsFirst (net_in rows).links descent.to) (nodes_of descent.path.items)
  pub read : All (HasRead rows (LeadsNot (net_in rows).links descent.to)) descent.path.items
  pub met : (x : ℕ) → has_met descent.met.items x ≡ true → Contains (nodes_of descent.path.items) x
      ⊎ LeadsNot (net_in rows).links descent.to x
  pub room : length descent.path.items + unmet_count descent.met.items ≤ vec_capacity descent.path

-- the search took a step
pub record GoesOn (rows : Table) (before after : Descent) : Type 0 where
  pub descent : IsDescent rows after
  pub same_start : start_of after ≡ start_of before
  pub same_end : after.to ≡ before.to
  pub fewer : left_count after < left_count before

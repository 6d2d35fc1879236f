-- Forwarding tables of next hops. A walk follows the hops from node to node, and a loop is a walk that comes back to
-- its first node. Next hops and forwarding loops are those of RFC 6976; downstream means towards the destination.
use Rattle.std.specs.Prelude.{◌≡◌, ℕ, ◌<◌, ◌≤◌, List, ◌∷◌, length, slice_get, Some}
pub use Rattle.fr_tables.specs.Walks.{end_of}
use Rattle.fr_tables.specs.Walks.{IsCycle, IsCycleFree, IsDownstream as IsDownstreamBy, IsWalk as IsWalkBy}
use Rattle.fr_tables.specs.declared.hop.Hop.{Hop}
use Rattle.fr_tables.specs.declared.hop.Hop.TheVariants.{Here, To}

-- node x sends on to node y
abbrev pub SendsOn : List Hop → ℕ → ℕ → Type 0
SendsOn table x y = slice_get table x ≡ Some (To y)

-- a walk from x along these nodes, each the next hop of the one before
abbrev pub IsWalk : List Hop → ℕ → List ℕ → Type 0
IsWalk table x ys = IsWalkBy (SendsOn table) x ys

-- a walk whose last node sends on to no node
pub record IsWholeWalk (table : List Hop) (x : ℕ) (ys : List ℕ) : Type 0 where
  pub goes : IsWalk table x ys
  pub ends : (y : ℕ) → ¬ SendsOn table (end_of x ys) y

-- a loop: each of these nodes sends on to the next, and the last to the first
abbrev pub IsLoop : List Hop → List ℕ → Type 0
IsLoop table nodes = IsCycle (SendsOn table) nodes

-- the walk from x comes back to x
abbrev pub IsOnLoop : List Hop → ℕ → Type 0
IsOnLoop table x = (xs : List ℕ) × IsLoop table (x ∷ xs)

-- the table has no loop
abbrev pub IsLoopFree : List Hop → Type 0
IsLoopFree table = IsCycleFree (SendsOn table)

-- y is downstream of x: the walk from x leads to it. Each node is downstream of itself
abbrev pub IsDownstream : List Hop → ℕ → ℕ → Type 0
IsDownstream table x y = IsDownstreamBy (SendsOn table) x y

-- x has a route: the walk from x leads to the destination
pub record Arrives (table : List Hop) (x : ℕ) : Type 0 where
  pub by : List ℕ
  pub goes : IsWalk table x by
  pub home : slice_get table (end_of x by) ≡ Some Here

-- each hop names a node of the table
abbrev pub IsInRange : List Hop → Type 0
IsInRange table = (x y : ℕ) → SendsOn table x y → y < length table

-- y is the node that the first out-of-range hop names
pub record IsFirstOutside (table : List Hop) (y : ℕ) : Type 0 where
  pub at : ℕ
  pub sends : SendsOn table at y
  pub outside : length table ≤ y
  pub first : (x z : ℕ) → x < at → SendsOn table x z → z < length table

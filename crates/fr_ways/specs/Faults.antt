-- What the calls on tables of ways return, and when they fail. The faults are tested in the order of this file. This
-- project's own.
use Rattle.std.specs.Prelude.{◌≡◌, ◌≢◌, ℕ, ◌<◌, ◌≤◌, ◌^◌, ◌⊎◌, List, length, map, nat_eq, slice_index}
use Rattle.std.specs.List.{IsDistinct, concat}
use Rattle.fr_ways.specs.Phases.{growing_nodes, kept, shrinking_nodes}
use Rattle.fr_ways.specs.Ways.{HasCycle, HasNoCycle, IsInRange, ways}
use Rattle.fr_ways.specs.declared.fault.WaysFault.{WaysFault}
use Rattle.fr_ways.specs.declared.fault.WaysFault.TheVariants.{Length, Range, Cycle, Memory}
use Rattle.fr_ways.specs.declared.plan.TwoPhases.{TwoPhases}
use Rattle.fr_ways.specs.declared.plan.Pushes.{Pushes}

-- the tables have the same length, and the number of each node fits in 32 bits
pub record AreOneLength (old new : List (List ℕ)) : Type 0 where
  pub same : length old ≡ length new
  pub few : length new < 2 ^ 32

-- y is the first of all ways, node by node, that names no node
pub record IsFirstOutside (table : List (List ℕ)) (y : ℕ) : Type 0 where
  pub place : ℕ
  pub inside : place < length (concat table)
  pub here : slice_index (concat table) place ≡ y
  pub outside : length table ≤ y
  pub before : (k : ℕ) → k < place → slice_index (concat table) k < length table

-- a cycle of the table that visits no node twice
pub record IsOnceRound (table : List (List ℕ)) (nodes : List ℕ) : Type 0 where
  pub is_cycle : HasCycle table nodes
  pub once : IsDistinct nat_eq nodes

-- these nodes get these lists, in this order
pub record ArePushes (nodes : List ℕ) (list_of : ℕ → List ℕ) (pushes : Pushes) : Type 0 where
  pub these : pushes.nodes.items ≡ nodes
  pub lists : pushes.lists ≡ map list_of nodes

-- the pushes of the two phases: lists without the lost ways, and new lists
pub record ArePhases (old new : List (List ℕ)) (phases : TwoPhases) : Type 0 where
  pub shrink : ArePushes (shrinking_nodes old new) (kept old new) phases.shrink
  pub grow : ArePushes (growing_nodes old new) (ways new) phases.grow

-- what `phases` returns
pub record IsPlanned (old new : List (List ℕ)) (plan : TwoPhases) : Type 0 where
  pub one_length : AreOneLength old new
  pub range : IsInRange new
  pub cycle_free : HasNoCycle new
  pub phases : ArePhases old new plan

-- when `phases` fails with each fault: with `Memory` only if the new table is one in range
abbrev pub IsFaultOf : List (List ℕ) → List (List ℕ) → WaysFault → Type 0
IsFaultOf old new Length = (length old ≢ length new) ⊎ (2 ^ 32 ≤ length new)
IsFaultOf old new (Range y) = AreOneLength old new × IsFirstOutside new y
IsFaultOf old new (Cycle nodes) = AreOneLength old new × IsInRange new × IsOnceRound new nodes.items
IsFaultOf old new Memory = AreOneLength old new × IsInRange new

-- The pushes of two phases that lead from a table of the caller to the ways of a settled network. This project's own.
use Rattle.std.specs.Prelude.{◌≡◌, ◌≢◌, ℕ, ◌<◌, ◌≤◌, ◌⊎◌, List, [], ◌∷◌, length}
use Rattle.fr_graph.specs.Limits.{most_nodes}
use Rattle.fr_ways.specs.Faults.{ArePhases}
use Rattle.fr_ways.specs.Phases.{growths, shrinks}
use Rattle.fr_ways.specs.declared.fault.WaysFault.{WaysFault}
use Rattle.fr_ways.specs.declared.fault.WaysFault.TheVariants.{Length, Range, Cycle, Memory}
use Rattle.fr_ways.specs.declared.plan.TwoPhases.{TwoPhases}
use Rattle.fr_route.specs.NodeWays.{AreAllWays}
use Rattle.fr_route.specs.States.{State}

-- the phases from the table to the ways of all nodes
abbrev pub LeadToWays : State → List (List ℕ) → TwoPhases → Type 0
LeadToWays s table phases = (wanted : List (List ℕ)) × AreAllWays s wanted × ArePhases table wanted phases

-- why there are none: the table has too few or too many lists, or memory is missing for one that has not
abbrev pub IsPhasesFault : State → List (List ℕ) → WaysFault → Type 0
IsPhasesFault s table Length = length table ≢ s.nodes
IsPhasesFault s table (Range y) = ⊥
IsPhasesFault s table (Cycle nodes) = ⊥
IsPhasesFault s table Memory = length table ≡ s.nodes

-- the pushes of both phases that lead from the ways of all nodes in one state to those in another
pub record AreWayChanges (old new : State) (shrink grow : List (ℕ × List ℕ)) : Type 0 where
  pub before : List (List ℕ)
  pub after : List (List ℕ)
  pub were : AreAllWays old before
  pub are : AreAllWays new after
  pub shrinks : shrink ≡ shrinks before after
  pub grows : grow ≡ growths before after

-- the text for the pushes of both phases, from the table to the ways of the state. A node that is missing at the end of
-- the table has no ways
abbrev pub IsPhasesText : (List (ℕ × List ℕ) → List (ℕ × List ℕ) → List ℕ) → State → List (List ℕ) → List ℕ → Type 0
IsPhasesText text_for s table text = (wanted : List (List ℕ)) × AreAllWays s wanted
    × (text ≡ text_for (shrinks table wanted) (growths table wanted))

-- why a request for these pushes is refused in this state: the table is longer than that of any network, or than that
-- of this one
abbrev pub AreWayPushesRefused : State → List (List ℕ) → ℕ → List ℕ → Type 0
AreWayPushesRefused s table number nodes =
    ((most_nodes < length table) × (number ≡ 9) × (nodes ≡ []))
    ⊎ ((length table ≤ most_nodes) × (s.nodes < length table) × (number ≡ 4) × (nodes ≡ s.nodes ∷ []))

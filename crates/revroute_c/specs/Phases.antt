-- What to push in two phases, from the ways that routers hold to those of a session. A table of ways lies in two places,
-- as `revroute_all_ways` writes it. This project's own.
use Rattle.std.specs.Prelude.{◌≡◌, ℕ, ◌++◌, List, [], ◌∷◌, length, Option, Some, None}
use Rattle.fr_route.specs.NodeWays.{AreAllWays}
use Rattle.fr_route.specs.States.{State}
use Rattle.fr_route.specs.WayPushes.{LeadToWays}
use Rattle.fr_ways.specs.Phases.{growths, shrinks}
use Rattle.fr_ways.specs.Rows.{IsLaidOut}
use Rattle.fr_ways.specs.declared.plan.TwoPhases.{TwoPhases}
use Rattle.revroute_c.specs.declared.phases.PhaseRequest.{PhaseRequest}
use Rattle.revroute_c.specs.declared.phases.Phase.{Phase}
use Rattle.revroute_c.specs.declared.phases.Phase.TheVariants.{Grow, Shrink}

-- these pushes one after the other, each as its node, how many ways it gets, and these ways
abbrev pub numbers_of : List (ℕ × List ℕ) → List ℕ
numbers_of [] = []
numbers_of (push ∷ pushes) = (push.0 ∷ length push.1 ∷ push.1) ++ numbers_of pushes

-- the two places hold this table, and it has a list for each node
pub record IsTableFor (s : State) (starts list : List ℕ) (table : List (List ℕ)) : Type 0 where
  pub laid_out : IsLaidOut starts list table
  pub one_each : length table ≡ s.nodes

-- from the table in the two places to the ways of the session: the pushes of the first phase, and of the second
abbrev pub AreShrinks : Option State → List ℕ → List ℕ → List ℕ → Type 0
AreShrinks None starts list pushes = ⊥
AreShrinks (Some s) starts list pushes = (table wanted : List (List ℕ)) × IsTableFor s starts list table
    × AreAllWays s wanted × (pushes ≡ numbers_of (shrinks table wanted))

abbrev pub AreGrowths : Option State → List ℕ → List ℕ → List ℕ → Type 0
AreGrowths None starts list pushes = ⊥
AreGrowths (Some s) starts list pushes = (table wanted : List (List ℕ)) × IsTableFor s starts list table
    × AreAllWays s wanted × (pushes ≡ numbers_of (growths table wanted))

-- the pushes of a phase, and those that a caller asks for
abbrev pub ArePhasePushes : Phase → Option State → List ℕ → List ℕ → List ℕ → Type 0
ArePhasePushes Shrink = AreShrinks
ArePhasePushes Grow = AreGrowths

abbrev pub ArePushesOf : PhaseRequest → Option State → List ℕ → Type 0
ArePushesOf asked s pushes = ArePhasePushes asked.phase s asked.starts.now asked.ways.now pushes

-- the two places hold no table with a list for each node
abbrev pub HoldNoTable : Option State → List ℕ → List ℕ → Type 0
HoldNoTable None starts list = ⊥
HoldNoTable (Some s) starts list = (table : List (List ℕ)) → ¬ IsTableFor s starts list table

-- the phases from the table in the two places to the ways of the session
pub record IsPlanned (s : State) (starts list : List ℕ) (phases : TwoPhases) : Type 0 where
  pub table : List (List ℕ)
  pub is : IsTableFor s starts list table
  pub leads : LeadToWays s table phases

abbrev pub IsPlannedFor : Option State → List ℕ → List ℕ → TwoPhases → Type 0
IsPlannedFor None starts list phases = ⊥
IsPlannedFor (Some s) starts list phases = IsPlanned s starts list phases

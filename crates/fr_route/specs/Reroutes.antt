-- Which nodes a round reroutes: those whose hop changes, in push order. The same for a new network, and for a table of
-- the caller. This project's own.
use Rattle.std.specs.Prelude.{◌≡◌, ◌≢◌, ℕ, max, List, [], Option, Some, None, Result, IfOk, OnErr, length, replicate}
use Rattle.fr_route.specs.NodeWays.{AreAllWays, AreWaysBelow}
use Rattle.fr_route.specs.Routes.{AreHops, IsHop}
use Rattle.fr_route.specs.States.{State}
use Rattle.fr_route.specs.WayPushes.{AreWayChanges}
use Rattle.fr_tables.specs.Faults.{IsOrdered}
use Rattle.fr_tables.specs.Pushes.{IsPushOrder}
use Rattle.fr_tables.specs.Tables.{IsFirstOutside, IsInRange}
use Rattle.fr_tables.specs.declared.fault.TableFault.{TableFault}
use Rattle.fr_tables.specs.declared.fault.TableFault.TheVariants.{Length, Range, Loop, Memory}
use Rattle.fr_tables.specs.declared.hop.Hop.{Hop}
use Rattle.fr_tables.specs.declared.hop.Hop.TheVariants.{CutOff}
use Rattle.fr_ways.specs.Faults.{ArePhases}
use Rattle.fr_ways.specs.Phases.{growths, shrinks}
use Rattle.fr_ways.specs.declared.plan.TwoPhases.{TwoPhases}

-- the hop of x differs in the two states
pub record IsRerouted (old new : State) (x : ℕ) : Type 0 where
  pub before : Hop
  pub after : Hop
  pub was : IsHop old x before
  pub is : IsHop new x after
  pub another : ¬ (before ≡ after)

-- the nodes whose hop differs in the two states, in push order
pub record AreRerouted (old new : State) (nodes : List ℕ) : Type 0 where
  pub before : List Hop
  pub after : List Hop
  pub were : AreHops old old.nodes before
  pub are : AreHops new new.nodes after
  pub order : IsPushOrder before after nodes

module _ {T E : Type 0} where
  -- a change that succeeds lists the nodes that it reroutes, and a change that fails leaves the list unchanged
  pub record TellsRerouted (old : State) (answer : Result T E) (new : State) (before after : List ℕ) : Type 0 where
    pub rerouted : IfOk answer (λ _. AreRerouted old new after)
    pub untold : OnErr answer (after ≡ before)

-- the value of a `Reroutes` in contracts: the rerouted nodes in push order, and what is pushed in both phases to nodes
-- that hold all their ways
pub record Rerouted : Type 0 where
  pub nodes : List ℕ
  pub shrink : List (ℕ × List ℕ)
  pub grow : List (ℕ × List ℕ)

module _ {T E : Type 0} where
  -- the same for a caller that also asks for the pushes of both phases
  pub record TellsReroutes (old : State) (answer : Result T E) (new : State) (before after : Rerouted) : Type 0 where
    pub rerouted : TellsRerouted old answer new before.nodes after.nodes
    pub ways : IfOk answer (λ _. AreWayChanges old new after.shrink after.grow)
    pub untold : OnErr answer ((after.shrink ≡ before.shrink) × (after.grow ≡ before.grow))

-- how many nodes the network of a session has, 0 without a network
abbrev pub nodes_in : Option State → ℕ
nodes_in None = 0
nodes_in (Some s) = s.nodes

-- the hops of the numbers below n in a session. A number that is not a node is cut off; without a network, all are
abbrev pub AreHopsIn : Option State → ℕ → List Hop → Type 0
AreHopsIn None n hops = hops ≡ replicate n CutOff
AreHopsIn (Some s) n hops = AreHops s n hops

-- the same hops, as a table
pub record IsTableIn (old : Option State) (n : ℕ) (hops : List Hop) : Type 0 where
  pub are : AreHopsIn old n hops
  pub one_each : length hops ≡ n
  pub in_range : IsInRange hops

-- a new network replaces an old one, if there is one: the numbers whose hop differs, in push order
pub record AreReplaced (old : Option State) (new : State) (nodes : List ℕ) : Type 0 where
  pub count : ℕ
  pub before : List Hop
  pub after : List Hop
  pub all : count ≡ max new.nodes (nodes_in old)
  pub were : AreHopsIn old count before
  pub are : AreHops new count after
  pub order : IsPushOrder before after nodes

-- the ways of all nodes in a session. Without a network there are none
abbrev pub AreWaysIn : Option State → List (List ℕ) → Type 0
AreWaysIn None table = table ≡ []
AreWaysIn (Some s) table = AreAllWays s table

-- the pushes of both phases that lead from the ways before a change or a new network to those after it. A number that
-- is not a node has no ways
pub record AreReplacedWays (old : Option State) (new : State) (shrink grow : List (ℕ × List ℕ)) : Type 0 where
  pub before : List (List ℕ)
  pub after : List (List ℕ)
  pub were : AreWaysIn old before
  pub are : AreWaysBelow new (max new.nodes (nodes_in old)) after
  pub shrinks : shrink ≡ shrinks before after
  pub grows : grow ≡ growths before after

-- the same pushes as a plan
pub record LeadFromWays (old : Option State) (new : State) (plan : TwoPhases) : Type 0 where
  pub before : List (List ℕ)
  pub after : List (List ℕ)
  pub were : AreWaysIn old before
  pub are : AreWaysBelow new (max new.nodes (nodes_in old)) after
  pub phases : ArePhases before after plan

-- the nodes whose hop in the state differs from that in the table, in push order
pub record ArePushes (s : State) (table : List Hop) (nodes : List ℕ) : Type 0 where
  pub hops : List Hop
  pub are : AreHops s s.nodes hops
  pub order : IsOrdered table hops nodes

-- why this fails: the table has too few or too many hops, its first out-of-range hop names x, or memory is missing for
-- a table with none of these faults
abbrev pub IsPushesFault : State → List Hop → TableFault → Type 0
IsPushesFault s table Length = length table ≢ s.nodes
IsPushesFault s table (Range x) = (length table ≡ s.nodes) × IsFirstOutside table x
IsPushesFault s table (Loop nodes) = ⊥
IsPushesFault s table Memory = (length table ≡ s.nodes) × IsInRange table

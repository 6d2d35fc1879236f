-- The value of a published session in contracts. This project's own.
use Rattle.std.specs.Prelude.{◌≡◌, ℕ, ◌<◌, ◌≤◌, List, [], Option, Some, None, length, take}
use Rattle.fr_graph.specs.Limits.{most_nodes}
use Rattle.fr_route.specs.Reroutes.{AreHopsIn}
use Rattle.fr_route.specs.States.{State}
use Rattle.fr_route.specs.NodeWays.{AreNodeWays}
use Rattle.fr_route.specs.WayPushes.{AreWayChanges}
use Rattle.fr_shared.specs.HopTables.{HopKnowledge, last_hops}
use Rattle.fr_ways.specs.Ways.{ways}
use Rattle.fr_shared.specs.Histories.{blank}
use Rattle.fr_shared.specs.WayTables.{WayKnowledge, last_ways, way_codec}

-- what has to be pushed to routers that hold all their ways: first nodes shrink, and then nodes grow
pub record WayPushes : Type 0 where
  pub shrink : List (ℕ × List ℕ)
  pub grow : List (ℕ × List ℕ)

abbrev pub no_pushes : WayPushes
no_pushes = record { shrink = []; grow = [] }

-- the session, the nodes that its last accepted round rerouted, once there are readers of hops or of ways, their tables
-- with all pushes, and the pushes of the last change for which a caller asked for them
pub record Published : Type 0 where
  pub session : Option State
  pub rerouted : List ℕ
  pub table : Option HopKnowledge
  pub ways : Option WayKnowledge
  pub pushes : WayPushes

abbrev pub published : Option State → List ℕ → Option HopKnowledge → Option WayKnowledge → WayPushes → Published
published s nodes t w p = record { session = s; rerouted = nodes; table = t; ways = w; pushes = p }

-- the pushes lead from the ways of all nodes in one session to those in another
pub record LeadsBetween (old new : Option State) (p : WayPushes) : Type 0 where
  pub before : State
  pub after : State
  pub was : old ≡ Some before
  pub is : new ≡ Some after
  pub changes : AreWayChanges before after p.shrink p.grow

-- the table has as many nodes as the largest network, and the hops of the session. A number that is not a node is cut
-- off
pub record HasHopsOf (s : Option State) (k : HopKnowledge) : Type 0 where
  pub largest : k.nodes ≡ most_nodes
  pub are : AreHopsIn s most_nodes (last_hops k)

-- the first five ways of each node of a state, or all if there are fewer. A number that is not a node has none
pub record HasFirstWays (s : State) (table : List (List ℕ)) : Type 0 where
  pub one_each : length table ≡ most_nodes
  pub each : (x : ℕ) → x < s.nodes → (list : List ℕ) × AreNodeWays s x list × (ways table x ≡ take 5 list)
  pub others : (x : ℕ) → s.nodes ≤ x → ways table x ≡ []

abbrev pub AreFirstWays : Option State → List (List ℕ) → Type 0
AreFirstWays None table = table ≡ blank way_codec most_nodes
AreFirstWays (Some s) table = HasFirstWays s table

-- the table of ways has as many nodes as the largest network, and the first ways of the session
pub record HasWaysOf (s : Option State) (k : WayKnowledge) : Type 0 where
  pub largest : k.nodes ≡ most_nodes
  pub are : AreFirstWays s (last_ways k)

-- What is pushed into the table of a published session, and when. This project's own.
use Rattle.std.specs.Prelude.{◌≡◌, ℕ, ◌≤◌, ◌⊎◌, ◌++◌, List, [], Option, Some, None, slice_get}
use Rattle.fr_graph.specs.Limits.{most_nodes}
use Rattle.fr_route.specs.Reroutes.{AreHopsIn}
use Rattle.fr_route.specs.Routes.{AreHops}
use Rattle.fr_route.specs.States.{State, IsAfterRound}
use Rattle.fr_route.specs.WayPushes.{AreWayChanges}
use Rattle.fr_tables.specs.Pushes.{IsPushOrder}
use Rattle.fr_tables.specs.declared.hop.Hop.{Hop}
use Rattle.fr_shared.specs.HopTables.{HopKnowledge, last_hops, pushes_of}
use Rattle.fr_shared.specs.WayTables.{WayKnowledge, last_ways, pushes_of as way_pushes}
use Rattle.fr_readers.specs.Published.{HasFirstWays, HasHopsOf, HasWaysOf, Published, WayPushes}

-- the network of a session is the result of a round and within the limit
pub record IsSettled (s : State) : Type 0 where
  pub after : IsAfterRound s
  pub few : s.nodes ≤ most_nodes

abbrev pub IsSettledSession : Option State → Type 0
IsSettledSession None = Unit {0}
IsSettledSession (Some s) = IsSettled s

-- the hops of the network of a session; empty without a network
abbrev pub AreHopsOf : Option State → List Hop → Type 0
AreHopsOf None hops = hops ≡ []
AreHopsOf (Some s) hops = AreHops s s.nodes hops

-- two tables have the same hop of node x, or both have none
abbrev pub HasHopAt : List Hop → List Hop → ℕ → Type 0
HasHopAt table other x = slice_get table x ≡ slice_get other x

-- these nodes are the push order from the table to the hops of the session
pub record LeadsTo (k : HopKnowledge) (s : Option State) (nodes : List ℕ) : Type 0 where
  pub hops : List Hop
  pub are : AreHopsIn s most_nodes hops
  pub order : IsPushOrder (last_hops k) hops nodes

-- the table already has the hops of the session, or these nodes lead to them
pub record CanPublish (k : HopKnowledge) (s : Option State) (nodes : List ℕ) : Type 0 where
  pub largest : k.nodes ≡ most_nodes
  pub can : AreHopsIn s most_nodes (last_hops k) ⊎ LeadsTo k s nodes

-- the table after the pushes of these nodes, with the hops that the session has then
pub record ArePublished (k : HopKnowledge) (s : Option State) (nodes : List ℕ) (k' : HopKnowledge) : Type 0 where
  pub leads : LeadsTo k s nodes
  pub pushed : k' ≡ record k { known = k.known ++ pushes_of leads.hops nodes }

-- the table has the hops of the session: it already had them and nothing was pushed, or exactly these nodes were
-- pushed, in push order
pub record Publishes (k : HopKnowledge) (s : Option State) (nodes : List ℕ) (k' : HopKnowledge) : Type 0 where
  pub has : HasHopsOf s k'
  pub by : (k' ≡ k) ⊎ ArePublished k s nodes k'

-- the same if there is a table
abbrev pub PublishesIn : Option HopKnowledge → Option State → List ℕ → Option HopKnowledge → Type 0
PublishesIn None s nodes table = table ≡ None
PublishesIn (Some k) s nodes table = (k' : HopKnowledge) × (table ≡ Some k') × Publishes k s nodes k'

abbrev pub PublishesTo : Option HopKnowledge → Published → Type 0
PublishesTo table new = PublishesIn table new.session new.rerouted new.table

-- the table of ways has those of the session: it already had them and nothing was pushed, or exactly the pushes that
-- lead to them were made, shrinks before grows
pub record PublishesWays (k : WayKnowledge) (s : Option State) (k' : WayKnowledge) : Type 0 where
  pub has : HasWaysOf s k'
  pub by : (k' ≡ k) ⊎ (k' ≡ record k { known = k.known ++ way_pushes (last_ways k) (last_ways k') })

-- the same if there is such a table
abbrev pub PublishesWaysIn : Option WayKnowledge → Option State → Option WayKnowledge → Type 0
PublishesWaysIn None s ways = ways ≡ None
PublishesWaysIn (Some k) s ways = (k' : WayKnowledge) × (ways ≡ Some k') × PublishesWays k s k'

abbrev pub PublishesWaysTo : Option WayKnowledge → Published → Type 0
PublishesWaysTo ways new = PublishesWaysIn ways new.session new.ways

-- the table has the first ways of an earlier state, and these pushes lead from all ways of that state to those of this
-- one
pub record AlterWays (table : List (List ℕ)) (s : State) (p : WayPushes) : Type 0 where
  pub before : State
  pub had : HasFirstWays before table
  pub nodes : s.nodes ≡ before.nodes
  pub changes : AreWayChanges before s p.shrink p.grow

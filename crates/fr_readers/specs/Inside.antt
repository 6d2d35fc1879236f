-- The values of a `PublishedSession` and of its table of ways in contracts. For proofs only.
use Rattle.std.specs.Prelude.{◌≡◌, ◌+◌, ◌≤◌, IfSome, length, Option, Some, None, vec_capacity}
use Rattle.fr_graph.specs.Limits.{most_nodes}
use Rattle.fr_route.specs.Reroutes.{Rerouted}
use Rattle.fr_shared.specs.WayTables.{WayKnowledge, last_ways}
use Rattle.fr_readers.specs.declared.ways.WayTables.TheInside.{Inside as InTables}
use Rattle.fr_readers.specs.Published.{HasHopsOf, HasWaysOf, Published, WayPushes, no_pushes, published}
use Rattle.fr_readers.specs.declared.session.PublishedSession.TheInside.{Inside}

-- the pushes of the reroutes that a session keeps; none before there are any
abbrev pub pushes_in : Option Rerouted → WayPushes
pushes_in None = no_pushes
pushes_in (Some r) = record { shrink = r.shrink; grow = r.grow }

abbrev pub published_in : Inside → Published
published_in p = published p.session p.rerouted.items p.publisher p.ways (pushes_in p.reroutes)

-- the tables have what the session has
pub record IsInStep (p : Inside) : Type 0 where
  pub hops : IfSome p.publisher (HasHopsOf p.session)
  pub ways : IfSome p.ways (HasWaysOf p.session)

abbrev pub ways_known : InTables → WayKnowledge
ways_known w = w.publisher

-- the tables and the space are for the largest network, and the new table is the one that was pushed last
pub record AreReady (w : InTables) : Type 0 where
  pub table : w.publisher.nodes ≡ most_nodes
  pub wanted : w.wanted ≡ last_ways w.publisher
  pub space : length w.space.items ≡ most_nodes
  pub listed : most_nodes + most_nodes ≤ vec_capacity w.listed

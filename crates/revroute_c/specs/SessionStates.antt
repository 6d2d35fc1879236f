-- The value of a session's handle in contracts. This project's own.
use Rattle.std.specs.Prelude.{ℕ, List, [], Option, None}
use Rattle.fr_route.specs.States.{State}
use Rattle.fr_shared.specs.HopTables.{HopKnowledge}
use Rattle.fr_shared.specs.WayTables.{WayKnowledge}
use Rattle.fr_readers.specs.Published.{Published, WayPushes, no_pushes, published}

-- the session, the nodes that its last accepted round rerouted, once there are readers of hops or of ways, their tables,
-- the pushes of the last change for which a caller asked for them, and the bytes of a line that has begun
pub record Held : Type 0 where
  pub session : Option State
  pub rerouted : List ℕ
  pub table : Option HopKnowledge
  pub ways : Option WayKnowledge
  pub pushes : WayPushes
  pub begun : List ℕ

-- the value of a null handle
abbrev pub no_session : Held
no_session = record { session = None; rerouted = []; table = None; ways = None; pushes = no_pushes; begun = [] }

-- the value of a published session together with the bytes of a line that has begun
abbrev pub held : Published → List ℕ → Held
held p line = record {
  session = p.session;
  rerouted = p.rerouted;
  table = p.table;
  ways = p.ways;
  pushes = p.pushes;
  begun = line;
}

-- the published session
abbrev pub published_of : Held → Published
published_of e = published e.session e.rerouted e.table e.ways e.pushes

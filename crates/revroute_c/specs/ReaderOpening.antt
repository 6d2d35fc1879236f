-- Opening readers of a session. This project's own.
use Rattle.std.specs.Prelude.{◌≡◌, Some, IfSome}
use Rattle.fr_shared.specs.HopTables.{HopKnowledge}
use Rattle.fr_shared.specs.WayTables.{WayKnowledge}
use Rattle.fr_readers.specs.Published.{HasHopsOf, HasWaysOf}
use Rattle.revroute_c.specs.SessionStates.{Held}

-- the session state is unchanged, except that the table for its readers of hops may be new
pub record OpensTable (old new : Held) : Type 0 where
  pub session : new.session ≡ old.session
  pub rerouted : new.rerouted ≡ old.rerouted
  pub ways : new.ways ≡ old.ways
  pub pushes : new.pushes ≡ old.pushes
  pub begun : new.begun ≡ old.begun
  pub table : IfSome old.table (λ k. new.table ≡ Some k)
  -- if there is a table now, it has the hops of the session
  pub has : IfSome new.table (HasHopsOf new.session)

-- the reader reads the session state's table, knows all pushes to it, and reads the hops of the session
pub record ReadsTableOf (state : Held) (reading : HopKnowledge) : Type 0 where
  pub table : state.table ≡ Some reading
  pub hops : HasHopsOf state.session reading

-- the session state is unchanged, except that the table for its readers of ways may be new
pub record OpensWays (old new : Held) : Type 0 where
  pub session : new.session ≡ old.session
  pub rerouted : new.rerouted ≡ old.rerouted
  pub table : new.table ≡ old.table
  pub pushes : new.pushes ≡ old.pushes
  pub begun : new.begun ≡ old.begun
  pub ways : IfSome old.ways (λ k. new.ways ≡ Some k)
  -- if there is a table now, it has the first ways of the session
  pub has : IfSome new.ways (HasWaysOf new.session)

-- the reader reads the session state's table of ways, knows all pushes to it, and reads the first ways of the session
pub record ReadsWaysOf (state : Held) (reading : WayKnowledge) : Type 0 where
  pub table : state.ways ≡ Some reading
  pub ways : HasWaysOf state.session reading

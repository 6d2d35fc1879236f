-- The value of an `SessionState` in contracts. For proofs only.
use Rattle.revroute_c.specs.SessionStates.{Held, held}
use Rattle.revroute_c.specs.declared.session_state.SessionState.TheInside.{Inside}

abbrev pub held_in : Inside → Held
held_in e = held e.published e.begun.items

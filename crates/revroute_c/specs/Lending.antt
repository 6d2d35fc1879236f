-- The value of a handle, and when it is unchanged. This project's own. For proofs only: its value after its pointer was
-- lent for changes.
use Rattle.std.specs.Prelude.{◌≡◌}
use denote.RattleType.{RattleType}
use denote.RawPtr.{null_ptr}
use Rattle.std.specs.Borrow.{Fml, MutBor, Lends}
use Rattle.fr_readers.specs.Published.{published}
use Rattle.revroute_c.specs.SessionStates.{Held, held, no_session}
use Rattle.revroute_c.specs.BoxLending.{pointer_row}
use Rattle.revroute_c.specs.contracts.session_state.SessionState.{the_row as session_row}
use Rattle.revroute_c.specs.declared.box_pointer.BoxPointer.{BoxPointer}
use Rattle.revroute_c.specs.declared.handle.Handle.{Handle}
use Rattle.revroute_c.specs.contracts.handle.Handle.{the_row}

-- the value of a handle
abbrev pub held_by : Handle → Held
held_by h = held (published h.session h.rerouted h.table h.ways h.pushes) h.begun

-- the handle is null, and has the value of null
pub record IsNull (h : Handle) : Type 0 where
  pub at : h.at ≡ null_ptr
  pub held : held_by h ≡ no_session

-- the handle and its value are unchanged
pub record IsUnchanged (old new : Handle) : Type 0 where
  pub at : new.at ≡ old.at
  pub held : held_by new ≡ held_by old

-- the handle of a pointer
abbrev pub handle_of : BoxPointer Held → Handle
handle_of p = record {
  at = p.at;
  session = p.value.session;
  rerouted = p.value.rerouted;
  table = p.value.table;
  ways = p.value.ways;
  pushes = p.value.pushes;
  begun = p.value.begun;
}

abbrev pub session_pointer : RattleType
session_pointer = pointer_row session_row no_session

-- the handle ends as its pointer does
abbrev pub LendsPointer : MutBor Handle → MutBor (BoxPointer Held) → Fml
LendsPointer h p = Lends the_row session_pointer h p handle_of

-- When a reader's handle is unchanged. This project's own. For proofs only: its value after its pointer was lent for
-- changes.
use Rattle.std.specs.Prelude.{◌≡◌}
use denote.RattleType.{RattleType}
use Rattle.std.specs.Borrow.{Fml, MutBor, Lends}
use Rattle.fr_shared.specs.HopTables.{HopKnowledge}
use Rattle.revroute_c.specs.BoxLending.{pointer_row}
use Rattle.revroute_c.specs.Readers.{no_reader}
use Rattle.revroute_c.specs.ReaderRows.{hop_reader}
use Rattle.revroute_c.specs.declared.box_pointer.BoxPointer.{BoxPointer}
use Rattle.revroute_c.specs.declared.reader_handle.ReaderHandle.{ReaderHandle}
use Rattle.revroute_c.specs.contracts.reader_handle.ReaderHandle.{the_row}

-- the handle and its value are unchanged
pub record IsSameReader (old new : ReaderHandle) : Type 0 where
  pub at : new.at ≡ old.at
  pub reading : new.reading ≡ old.reading

-- the handle of a pointer
abbrev pub handle_of : BoxPointer HopKnowledge → ReaderHandle
handle_of p = record { at = p.at; reading = p.value }

abbrev pub reader_pointer : RattleType
reader_pointer = pointer_row hop_reader no_reader

-- the handle ends as its pointer does
abbrev pub LendsPointer : MutBor ReaderHandle → MutBor (BoxPointer HopKnowledge) → Fml
LendsPointer h p = Lends the_row reader_pointer h p handle_of

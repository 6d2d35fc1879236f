-- When the handle of a reader of ways is unchanged. This project's own. For proofs only: its value after its pointer
-- was lent for changes.
use Rattle.std.specs.Prelude.{◌≡◌}
use denote.RattleType.{RattleType}
use Rattle.std.specs.Borrow.{Fml, MutBor, Lends}
use Rattle.fr_shared.specs.WayTables.{WayKnowledge}
use Rattle.revroute_c.specs.BoxLending.{pointer_row}
use Rattle.revroute_c.specs.WayReaders.{no_way_reader}
use Rattle.revroute_c.specs.ReaderRows.{way_reader}
use Rattle.revroute_c.specs.declared.box_pointer.BoxPointer.{BoxPointer}
use Rattle.revroute_c.specs.declared.way_reader_handle.WayReaderHandle.{WayReaderHandle}
use Rattle.revroute_c.specs.contracts.way_reader_handle.WayReaderHandle.{the_row}

-- the handle and its value are unchanged
pub record IsSameWayReader (old new : WayReaderHandle) : Type 0 where
  pub at : new.at ≡ old.at
  pub reading : new.reading ≡ old.reading

-- the handle of a pointer
abbrev pub handle_of : BoxPointer WayKnowledge → WayReaderHandle
handle_of p = record { at = p.at; reading = p.value }

abbrev pub way_reader_pointer : RattleType
way_reader_pointer = pointer_row way_reader no_way_reader

-- the handle ends as its pointer does
abbrev pub LendsPointer : MutBor WayReaderHandle → MutBor (BoxPointer WayKnowledge) → Fml
LendsPointer h p = Lends the_row way_reader_pointer h p handle_of

-- What a pointer to a value in a box lends. For proofs only: its value after that value was lent for changes.
use Rattle.std.specs.Prelude.{Option}
use denote.RattleType.{RattleType}
use Rattle.std.specs.Borrow.{Fml, MutBor, LendsIf}
use Rattle.revroute_c.specs.declared.box_pointer.BoxPointer.{BoxPointer}
use Rattle.revroute_c.specs.declared.box_pointer.NullValue.{Ghosts}
use Rattle.revroute_c.specs.contracts.box_pointer.BoxPointer.{the_row}

-- the same pointer with this value
abbrev pub with_value : {V : Type 0} → BoxPointer V → V → BoxPointer V
with_value p x = record p { value = x }

-- the pointer ends with the last value of what was lent, and is otherwise unchanged; it is unchanged if nothing was
-- lent
abbrev pub LendsValue : (S : RattleType) → Ghosts S.Denot → MutBor (BoxPointer S.Denot) → Option (MutBor S.Denot) → Fml
LendsValue S g p r = LendsIf (the_row S g) S p r (with_value p.now) p.now

-- the type of a pointer to such a value, where null has this one
abbrev pub pointer_row : (S : RattleType) → S.Denot → RattleType
pointer_row S none = the_row S (record { null_value = none })

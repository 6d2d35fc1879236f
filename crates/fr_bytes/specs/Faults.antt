-- When reading an input fails. This project's own.
use Rattle.std.specs.Prelude.{ℕ, List, Option}
use Rattle.fr_bytes.specs.Bytes.{ReadsSome, ReadsOneTooMany}
use Rattle.fr_bytes.specs.declared.fault.RunFault.{RunFault}
use Rattle.fr_bytes.specs.declared.fault.RunFault.TheVariants.{Read, Write, TooLong, Start, Memory}

-- A read can fail at any time. The input is too long only if one byte too many was read. Memory can be missing only if
-- a byte was read. Nothing is written and no thread is started, so the other faults cannot come.
abbrev pub IsInputFault : (before after : Option (List ℕ)) → RunFault → Type 0
IsInputFault before after Read = Unit {0}
IsInputFault before after Write = ⊥
IsInputFault before after TooLong = ReadsOneTooMany before after
IsInputFault before after Start = ⊥
IsInputFault before after Memory = ReadsSome before after

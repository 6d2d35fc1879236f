-- The lines of an input. This project's own; lines end in a newline (byte 10), as in POSIX.
use Rattle.std.specs.Prelude.{ℕ, ◌==◌, List, []}
use Rattle.std.specs.List.{slice_split}
use Rattle.std.specs.Option.{option_copied, option_map_or}
use Rattle.fr_bytes.specs.declared.lines.Lines.{Lines}

-- the input is split at each byte 10. After the last byte 10 there is one more line, which can be empty
abbrev pub lines_of : List ℕ → List (List ℕ)
lines_of bytes = slice_split (λ x. x == 10) bytes

-- the lines that are left to iterate over
abbrev pub lines_left : Lines → List (List ℕ)
lines_left lines = option_map_or lines_of (option_copied lines.rest) []

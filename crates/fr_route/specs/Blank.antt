-- Blank lines, which ask for nothing. This project's own (docs/LINES.md).
use Rattle.std.specs.Prelude.{ℕ, ◌==◌, ◌||◌, Bool, List}
use Rattle.std.specs.List.{list_all}

-- whether a line contains only tabs, carriage returns and spaces
abbrev pub is_blank : List ℕ → Bool
is_blank line = list_all (λ x. x == 9 || x == 13 || x == 32) line

-- The neighbours of a node, as a row. This project's own.
use Rattle.std.specs.Prelude.{ℕ, zero, suc, ◌==◌, ◌&&◌, ◌++◌, Bool, if◌then◌else◌, List}
use Rattle.std.specs.Prelude.{[], length, Option, Some, None, option_to_list, count_by}
use Rattle.std.specs.List.{list_any, range_with_len}
use Rattle.fr_graph.specs.declared.first.First.{First}
use Rattle.fr_graph.specs.declared.first.First.TheVariants.{Outward, Inward}

-- whether a link points from u to v
abbrev pub has_link : List (ℕ × ℕ) → ℕ → ℕ → Bool
has_link links u v = list_any (λ (l : ℕ × ℕ). (l.0 == u) && (l.1 == v)) links

-- the entry of w in the row of x, if a link joins them
abbrev pub row_entry : List (ℕ × ℕ) → ℕ → ℕ → Option (ℕ × First)
row_entry links x w =
    if has_link links x w then Some (w, Outward)
    else if has_link links w x then Some (w, Inward)
    else None

-- the neighbours of x below n in ascending order, each with the direction of its link seen from x
abbrev pub row : ℕ → List (ℕ × ℕ) → ℕ → List (ℕ × First)
row zero links x = []
row (suc w) links x = row w links x ++ option_to_list (row_entry links x w)

-- whether x has no neighbour
abbrev pub has_no_neighbour : ℕ → List (ℕ × ℕ) → ℕ → Bool
has_no_neighbour n links x = length (row n links x) == 0

-- how many of n nodes have no neighbour
abbrev pub alone_count : ℕ → List (ℕ × ℕ) → ℕ
alone_count n links = count_by (has_no_neighbour n links) (range_with_len 0 n)

-- The rows of all nodes, one after the other in one list, and what turns do to an entry. For proofs only, except
-- `opposite`, which is this project's own.
use Rattle.std.specs.Prelude.{ℕ, zero, suc, ◌++◌, ◌==◌, if◌then◌else◌, List, [], slice_index, Option, Some, None}
use Rattle.std.specs.List.{filter_map}
use Rattle.fr_graph.specs.declared.first.First.{First}
use Rattle.fr_graph.specs.declared.first.First.TheVariants.{Outward, Inward}

-- the rows of the nodes below k, one after the other
abbrev pub rows_below : {X : Type 0} → ℕ → (ℕ → List X) → List X
rows_below zero rows = []
rows_below (suc k) rows = rows_below k rows ++ rows k

abbrev pub opposite : First → First
opposite Outward = Inward
opposite Inward = Outward

-- an entry of the row of x, with the direction that the counts give to its link
abbrev pub turned_entry : List ℕ → ℕ → ℕ × First → ℕ × First
turned_entry counts x entry =
    if slice_index counts entry.0 == slice_index counts x then entry else (entry.0, opposite entry.1)

-- the link from x to w, if its direction is outward
abbrev pub link_to : ℕ → ℕ → First → Option (ℕ × ℕ)
link_to x w Outward = Some (x, w)
link_to x w Inward = None

-- the links in the row of x that point away from x
abbrev pub out_links : ℕ → List (ℕ × First) → List (ℕ × ℕ)
out_links x entries = filter_map (λ (entry : ℕ × First). link_to x entry.0 entry.1) entries

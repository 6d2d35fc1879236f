-- New ways in two phases. In the first, routers lose the ways that are none of the new table (they shrink); in the
-- second they get their new lists (they grow). This project's own.
use Rattle.std.specs.Prelude.{◌≡◌, ℕ, ◌⊎◌, ◌&&◌, ◌++◌, Bool, true, false, not, bytes_eq, cond, List, [], ◌∷◌}
use Rattle.std.specs.Prelude.{filter, length, map, nat_eq}
use Rattle.std.specs.List.{list_any, range_with_len}
use Rattle.fr_ways.specs.Ways.{ways}

-- whether y is one of these ways
abbrev pub is_way : List ℕ → ℕ → Bool
is_way list y = list_any (nat_eq y) list

-- the ways of x in the new table that it had in the old one too, in the order of the new table
abbrev pub kept : List (List ℕ) → List (List ℕ) → ℕ → List ℕ
kept old new x = filter (is_way (ways old x)) (ways new x)

-- whether x loses a way: one of the old table that is none of the new one
abbrev pub loses : List (List ℕ) → List (List ℕ) → ℕ → Bool
loses old new x = list_any (λ y. not (is_way (ways new x) y)) (ways old x)

-- the ways of x after the first phase
abbrev pub shrunk : List (List ℕ) → List (List ℕ) → ℕ → List ℕ
shrunk old new x = cond (loses old new x) (kept old new x) (ways old x)

-- a moment of the first phase: any nodes have shrunk, and the others have their old ways
abbrev pub IsShrinking : List (List ℕ) → List (List ℕ) → List (List ℕ) → Type 0
IsShrinking old new table = (x : ℕ) → (ways table x ≡ ways old x) ⊎ (ways table x ≡ shrunk old new x)

-- a moment of the second phase: all nodes have shrunk, and any have their new ways
abbrev pub IsGrowing : List (List ℕ) → List (List ℕ) → List (List ℕ) → Type 0
IsGrowing old new table = (x : ℕ) → (ways table x ≡ shrunk old new x) ⊎ (ways table x ≡ ways new x)

-- any nodes have their new ways, and the others their old ones
abbrev pub IsMixed : List (List ℕ) → List (List ℕ) → List (List ℕ) → Type 0
IsMixed old new table = (x : ℕ) → (ways table x ≡ ways old x) ⊎ (ways table x ≡ ways new x)

abbrev pub is_empty : List ℕ → Bool
is_empty [] = true
is_empty (y ∷ ys) = false

-- whether x loses ways and keeps others
abbrev pub sheds : List (List ℕ) → List (List ℕ) → ℕ → Bool
sheds old new x = loses old new x && not (is_empty (kept old new x))

-- whether x loses ways and keeps none
abbrev pub empties : List (List ℕ) → List (List ℕ) → ℕ → Bool
empties old new x = loses old new x && is_empty (kept old new x)

abbrev pub differs : List ℕ → List ℕ → Bool
differs some other = not (bytes_eq some other)

-- whether the new ways of x differ from those after the first phase
abbrev pub grows : List (List ℕ) → List (List ℕ) → ℕ → Bool
grows old new x = differs (shrunk old new x) (ways new x)

-- the nodes of a table, by number
abbrev pub nodes_of : List (List ℕ) → List ℕ
nodes_of table = range_with_len 0 (length table)

-- the nodes that shrink: by number those that keep a way, and then those that keep none. So a node is left without a way
-- only once each node that keeps one has lost the others
abbrev pub shrinking_nodes : List (List ℕ) → List (List ℕ) → List ℕ
shrinking_nodes old new = filter (sheds old new) (nodes_of new) ++ filter (empties old new) (nodes_of new)

-- the nodes that grow, by number
abbrev pub growing_nodes : List (List ℕ) → List (List ℕ) → List ℕ
growing_nodes old new = filter (grows old new) (nodes_of new)

-- the pushes of the first phase: nodes, each with the list that it gets
abbrev pub shrinks : List (List ℕ) → List (List ℕ) → List (ℕ × List ℕ)
shrinks old new = map (λ x. (x, kept old new x)) (shrinking_nodes old new)

-- the pushes of the second phase
abbrev pub growths : List (List ℕ) → List (List ℕ) → List (ℕ × List ℕ)
growths old new = map (λ x. (x, ways new x)) (growing_nodes old new)

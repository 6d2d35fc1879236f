-- Nodes that have turned and are not linked with the others. For proofs only.
use Rattle.std.specs.Prelude.{ℕ, ◌<◌, List, slice_index}
use Rattle.fr_graph.specs.Links.{Joins}
use Rattle.fr_graph.specs.declared.first.First.{First}

-- the neighbour of a row's entry has turned
abbrev pub HasTurned : List ℕ → ℕ × First → Type 0
HasTurned counts entry = 0 < slice_index counts entry.0

-- each neighbour of a node that has turned has turned, too
abbrev pub AreApart : List (ℕ × ℕ) → List ℕ → Type 0
AreApart first counts = (x w : ℕ) → Joins first x w → 0 < slice_index counts x → 0 < slice_index counts w

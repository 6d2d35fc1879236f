-- The links at a node, by its row.
use Rattle.std.proofs.Common.{All, Contains, List, ℕ, ◌<◌}
use Rattle.std.proofs.lemmas.List.Elements.{Contains-get_or}
use Rattle.fr_core.specs.Senses.{first_link}
use Rattle.fr_graph.proofs.Neighbours.{in_of_row, out_of_row, row_holds}
use Rattle.fr_graph.specs.Rows.{row}
use Rattle.fr_graph.specs.declared.first.First.{First}
use Rattle.fr_graph.specs.declared.first.First.TheVariants.{Inward, Outward}

-- each entry of a row is a link
pub link_of_row : (n : ℕ) (links : List (ℕ × ℕ)) (x w : ℕ) (f : First) → Contains (row n links x) (w, f)
    → Contains links (first_link x w f)
link_of_row n links x w Outward h = out_of_row n links x w h
link_of_row n links x w Inward h = in_of_row n links x w h

pub row_below : (n : ℕ) (links : List (ℕ × ℕ)) (x : ℕ) → All (λ (e : ℕ × First). e.0 < n) (row n links x)
row_below n links x = λ k d l. (row_holds n links x _ (Contains-get_or (row n links x) k d l)).0

-- The nodes whose ways a change may have altered. This project's own.
use Rattle.std.specs.Prelude.{◌≡◌, ◌≢◌, ℕ, ◌<◌, ◌⊎◌, ◌↔◌, List, slice_index}
use Rattle.std.specs.List.{All, Contains}
use Rattle.std.specs.List.Sorted.{IsStrictlyIncreasing}
use Rattle.fr_graph.specs.Links.{Joins, Points}
use Rattle.fr_graph.specs.Network.{Network}
use Rattle.fr_graph.specs.declared.edit.Edit.{Edit}
use Rattle.fr_graph.specs.declared.edit.Edit.TheVariants.{Add, Cut, Join}
use Rattle.fr_nearest.specs.Distances.{AreDistances}
use Rattle.fr_nearest.specs.LinkChanges.{AreKept, AreNew}
use Rattle.fr_nearest.specs.Ways.{AreWays}
use Rattle.fr_nearest.specs.declared.update.LinkChanges.{LinkChanges}

-- the value of an `Affected` in contracts: the listed nodes, and the number of nodes that there is room for
pub record Affecting : Type 0 where
  pub nodes : List ℕ
  pub room : ℕ

-- both ends of the edited link are listed
abbrev pub HasEnds : List ℕ → Edit → Type 0
HasEnds list (Cut u v) = Contains list u × Contains list v
HasEnds list (Add u v) = Contains list u × Contains list v
HasEnds list (Join u v) = Contains list u × Contains list v

-- x has the same list of ways to d by these links as to e by the others
abbrev pub KeepsWays : List (ℕ × ℕ) → ℕ → List (ℕ × ℕ) → ℕ → ℕ → Type 0
KeepsWays links d others e x = (list : List ℕ) → AreWays links d x list ↔ AreWays others e x list

-- P holds of y and one of these
abbrev pub HasOne : {A : Type 0} → (A → ℕ → Type 0) → List A → ℕ → Type 0
HasOne {A} P xs y = (x : A) × Contains xs x × P x y

-- y is an end of the edited link
abbrev pub IsEnd : Edit → ℕ → Type 0
IsEnd (Cut u v) y = (y ≡ u) ⊎ (y ≡ v)
IsEnd (Add u v) y = (y ≡ u) ⊎ (y ≡ v)
IsEnd (Join u v) y = (y ≡ u) ⊎ (y ≡ v)

-- y is x or a neighbour of x
abbrev pub IsNextTo : List (ℕ × ℕ) → ℕ → ℕ → Type 0
IsNextTo links x y = (y ≡ x) ⊎ Joins links x y

-- y is an end of an edited link, a node that has turned, or a neighbour of one
abbrev pub IsTouchedBy : Network → LinkChanges → ℕ → Type 0
IsTouchedBy net touched y = HasOne IsEnd touched.edits.now y ⊎ HasOne (IsNextTo net.links) touched.turned.now y

-- y has a link to a node whose distance has changed
abbrev pub IsBehindChange : List (ℕ × ℕ) → List ℕ → List ℕ → ℕ → Type 0
IsBehindChange links before table y = (w : ℕ) × Points links y w × (slice_index table w ≢ slice_index before w)

-- Nodes in ascending order, with the ends of each edit. Only nodes near a change are listed, and each node that is not
-- listed has kept its ways, whatever the earlier links and destination were.
pub record AreAffected (net : Network) (touched : LinkChanges) (before table list : List ℕ) : Type 0 where
  pub order : IsStrictlyIncreasing list
  pub below : All (λ (x : ℕ). x < net.nodes) list
  pub ends : (e : Edit) → Contains touched.edits.now e → HasEnds list e
  pub just : (x : ℕ) → Contains list x → IsTouchedBy net touched x ⊎ IsBehindChange net.links before table x
  pub others : (links : List (ℕ × ℕ)) (d e : ℕ) → AreDistances net.nodes links d before
      → AreDistances net.nodes net.links e table → AreKept net.links touched links → AreNew net.links touched links
      → (x : ℕ) → x < net.nodes → ¬ Contains list x → KeepsWays links d net.links e x

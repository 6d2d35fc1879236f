-- How links change between two updates, and when a table is out of date only for that. This project's own.
use Rattle.std.specs.Prelude.{◌≡◌, ◌≢◌, ℕ, ◌<◌, ◌⊎◌, ◌↔◌, List, slice_index}
use Rattle.std.specs.List.{All, Contains}
use Rattle.fr_graph.specs.Links.{Points}
use Rattle.fr_graph.specs.Network.{Network}
use Rattle.fr_graph.specs.declared.edit.Edit.{Edit}
use Rattle.fr_graph.specs.declared.edit.Edit.TheVariants.{Add, Cut, Join}
use Rattle.fr_nearest.specs.Distances.{AreDistances}
use Rattle.fr_nearest.specs.declared.update.LinkChanges.{LinkChanges}

-- x and w are u and v, in either order
abbrev pub AreEnds : ℕ → ℕ → ℕ → ℕ → Type 0
AreEnds u v x w = ((x ≡ u) × (w ≡ v)) ⊎ ((x ≡ v) × (w ≡ u))

-- the edit removes the link between x and w
abbrev pub Cuts : Edit → ℕ → ℕ → Type 0
Cuts (Cut u v) x w = AreEnds u v x w
Cuts (Add u v) x w = ⊥
Cuts (Join u v) x w = ⊥

-- the edit adds a link between x and w
abbrev pub Adds : Edit → ℕ → ℕ → Type 0
Adds (Cut u v) x w = ⊥
Adds (Add u v) x w = AreEnds u v x w
Adds (Join u v) x w = AreEnds u v x w

-- one of these edits removes a link between x and w
abbrev pub IsCut : List Edit → ℕ → ℕ → Type 0
IsCut edits x w = (e : Edit) × Contains edits e × Cuts e x w

-- one of these edits adds a link between x and w
abbrev pub IsAdded : List Edit → ℕ → ℕ → Type 0
IsAdded edits x w = (e : Edit) × Contains edits e × Adds e x w

-- the ends of the edited link are nodes
abbrev pub HasEndsBelow : ℕ → Edit → Type 0
HasEndsBelow n (Cut u v) = (u < n) × (v < n)
HasEndsBelow n (Add u v) = (u < n) × (v < n)
HasEndsBelow n (Join u v) = (u < n) × (v < n)

-- x or w has turned
abbrev pub HasTurned : LinkChanges → ℕ → ℕ → Type 0
HasTurned touched x w = Contains touched.turned.now x ⊎ Contains touched.turned.now w

-- These are the links of x before a round in which each node turned so often. A link between nodes that turned equally
-- often points now as it did then, and each other link has been reversed.
abbrev pub HadLinks : List (ℕ × ℕ) → List ℕ → List (ℕ × ℕ) → ℕ → Type 0
HadLinks now counts before x = (w : ℕ) → Points before x w
    ↔ ((Points now x w × (slice_index counts x ≡ slice_index counts w))
    ⊎ (Points now w x × (slice_index counts x ≢ slice_index counts w)))

-- each of the earlier links has been cut, or it is there now, or it has been reversed at an end that has turned
abbrev pub AreKept : List (ℕ × ℕ) → LinkChanges → List (ℕ × ℕ) → Type 0
AreKept now touched links = (x w : ℕ) → Points links x w
    → IsCut touched.edits.now x w ⊎ (Points now x w ⊎ (Points now w x × HasTurned touched x w))

-- each link now has been added, or it was there, or an end of it has turned
abbrev pub AreNew : List (ℕ × ℕ) → LinkChanges → List (ℕ × ℕ) → Type 0
AreNew now touched links = (x w : ℕ) → Points now x w
    → IsAdded touched.edits.now x w ⊎ (Points links x w ⊎ HasTurned touched x w)

-- the table has the distances in earlier links to d, which differ from those now only by what the changes touched
pub record IsOutOfDate (net : Network) (touched : LinkChanges) (d : ℕ) (table : List ℕ) : Type 0 where
  pub links : List (ℕ × ℕ)
  pub node : d < net.nodes
  pub were : AreDistances net.nodes links d table
  pub edits : All (HasEndsBelow net.nodes) touched.edits.now
  pub turned : All (λ (x : ℕ). x < net.nodes) touched.turned.now
  pub kept : AreKept net.links touched links
  pub new : AreNew net.links touched links

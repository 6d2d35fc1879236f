-- The ways of a node: the nodes to which its links point and from which links lead to the destination, nearest first.
-- This project's own. A way that is not the first is an alternate; with shortest paths it is a loop-free alternate in
-- the sense of RFC 5286.
use Rattle.std.specs.Prelude.{◌≡◌, ℕ, ◌<◌, ◌⊎◌, ◌↔◌, List, [], ◌∷◌, length, slice_index}
use Rattle.std.specs.List.{Contains}
use Rattle.fr_graph.specs.Links.{HasPath, Points}
use Rattle.fr_nearest.specs.Distances.{IsDistance}

-- w is a way of x
pub record IsWay (links : List (ℕ × ℕ)) (d x w : ℕ) : Type 0 where
  pub link : Points links x w
  pub leads : HasPath links w d

-- w comes before u: it has a smaller distance, or the same distance and a lower number
pub record IsNearer (links : List (ℕ × ℕ)) (d w u : ℕ) : Type 0 where
  pub near : ℕ
  pub far : ℕ
  pub this : IsDistance links d w near
  pub other : IsDistance links d u far
  pub before : (near < far) ⊎ ((near ≡ far) × (w < u))

-- exactly the ways of x, nearest first
pub record AreWays (links : List (ℕ × ℕ)) (d x : ℕ) (list : List ℕ) : Type 0 where
  pub just : (w : ℕ) → Contains list w ↔ IsWay links d x w
  pub order : (i j : ℕ) → i < j → j < length list → IsNearer links d (slice_index list i) (slice_index list j)

-- w is the nearest way of x
pub record IsFirstWay (links : List (ℕ × ℕ)) (d x w : ℕ) : Type 0 where
  pub way : IsWay links d x w
  pub first : (u : ℕ) → IsWay links d x u → ¬ (u ≡ w) → IsNearer links d w u

-- the walk from x along these nodes to d, each the first way of the one before
abbrev pub IsNearestWalk : List (ℕ × ℕ) → ℕ → ℕ → List ℕ → Type 0
IsNearestWalk links d x [] = x ≡ d
IsNearestWalk links d x (y ∷ ys) = ¬ (x ≡ d) × IsFirstWay links d x y × IsNearestWalk links d y ys

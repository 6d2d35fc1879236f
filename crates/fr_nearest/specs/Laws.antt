-- The laws of ways. Each one is a clause of a function of src/laws.rt. This project's own.
use Rattle.std.specs.Prelude.{◌≡◌, ℕ, ◌<◌, ◌≤◌, ◌+◌, List, [], ◌∷◌, length, nat_eq, slice_index_or}
use Rattle.std.specs.List.{IsDistinct, concat}
use Rattle.fr_graph.specs.Links.{IsAcyclic, IsPath, end_of}
use Rattle.fr_nearest.specs.Distances.{AreDistances, IsDistance}
use Rattle.fr_nearest.specs.Ways.{AreWays, IsFirstWay, IsNearestWalk, IsWay}

-- Distances

-- No node has two distances.
abbrev pub DistanceIsUnique : Type 0
DistanceIsUnique = (links : List (ℕ × ℕ)) (d x k l : ℕ) → IsDistance links d x k → IsDistance links d x l → k ≡ l

-- There is one table of distances.
abbrev pub TableIsUnique : Type 0
TableIsUnique = (n : ℕ) (links : List (ℕ × ℕ)) (d : ℕ) (some other : List ℕ) → AreDistances n links d some
    → AreDistances n links d other → some ≡ other

-- Ways

-- A node has one list of ways.
abbrev pub WaysAreUnique : Type 0
WaysAreUnique = (links : List (ℕ × ℕ)) (d x : ℕ) (some other : List ℕ) → AreWays links d x some
    → AreWays links d x other → some ≡ other

-- A table with the ways of each node has at most as many ways as there are links.
abbrev pub WaysAreFew : Type 0
WaysAreFew = (links : List (ℕ × ℕ)) (d : ℕ) (table : List (List ℕ))
    → ((x : ℕ) → x < length table → AreWays links d x (slice_index_or table x [])) → length (concat table) ≤ length links

-- The first way of a node is one link nearer to the destination.
abbrev pub FirstWayIsNearer : Type 0
FirstWayIsNearer = (links : List (ℕ × ℕ)) (d x y k : ℕ) → ¬ (x ≡ d) → IsFirstWay links d x y → IsDistance links d x k
    → (j : ℕ) × IsDistance links d y j × (k ≡ j + 1)

-- The walk by first ways is a path to the destination, and no path is shorter.
abbrev pub WalkIsShortest : Type 0
WalkIsShortest = (links : List (ℕ × ℕ)) (d x : ℕ) (rest : List ℕ) → IsNearestWalk links d x rest
    → IsPath links x rest × (end_of x rest ≡ d) × IsDistance links d x (length rest)

-- each node of the list is a way of the one before, and the first a way of x
abbrev pub IsWalkByWays : List (ℕ × ℕ) → ℕ → ℕ → List ℕ → Type 0
IsWalkByWays links d x [] = Unit {0}
IsWalkByWays links d x (y ∷ ys) = IsWay links d x y × IsWalkByWays links d y ys

-- Whichever ways a packet takes, it visits no node twice.
abbrev pub WaysHaveNoLoop : Type 0
WaysHaveNoLoop = (links : List (ℕ × ℕ)) (d x : ℕ) (rest : List ℕ) → IsAcyclic links → IsWalkByWays links d x rest
    → IsDistinct nat_eq (x ∷ rest)

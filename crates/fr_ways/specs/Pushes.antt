-- A router gets its new ways by a push. This file defines which nodes have to be pushed and in which order, what the
-- mixed table is meanwhile, and how a packet moves through it. RFC 6976 also updates downstream routers first. Waves,
-- and sets that are closed downstream, are this project's own.
use Rattle.std.specs.Prelude.{◌≡◌, ℕ, ◌<◌, ◌≤◌, ◌+◌, ◌↔◌, ◌⊎◌, Bool, not, List, [], ◌∷◌, bytes_eq}
use Rattle.std.specs.Prelude.{Contains, length, slice_index, count_by}
use Rattle.fr_tables.specs.Walks.{IsDownstream, IsWalk}
use Rattle.fr_ways.specs.Ways.{Sends, ways}

-- the tables differ at node x
abbrev pub DifferAt : List (List ℕ) → List (List ℕ) → ℕ → Type 0
DifferAt old new x = ¬ (ways old x ≡ ways new x)

-- the same, as a test
abbrev pub differ_at : List (List ℕ) → List (List ℕ) → ℕ → Bool
differ_at old new x = not (bytes_eq (ways old x) (ways new x))

-- the wave of node x: the greatest number of differing nodes on a walk from x in the new table, x itself included
pub record IsWave (old new : List (List ℕ)) (x wave : ℕ) : Type 0 where
  pub walk : List ℕ
  pub goes : IsWalk (Sends new) x walk
  pub number : count_by (differ_at old new) (x ∷ walk) ≡ wave
  pub most : (other : List ℕ) → IsWalk (Sends new) x other → count_by (differ_at old new) (x ∷ other) ≤ wave

-- x is pushed before y: its wave is less, or the waves are equal and its number is less
pub record IsBefore (old new : List (List ℕ)) (x y : ℕ) : Type 0 where
  pub wave_x : ℕ
  pub wave_y : ℕ
  pub of_x : IsWave old new x wave_x
  pub of_y : IsWave old new y wave_y
  pub earlier : wave_x ≤ wave_y
  pub lower : wave_x ≡ wave_y → x < y

-- the nodes at which the tables differ, each once, by wave and then by number
pub record IsPushOrder (old new : List (List ℕ)) (order : List ℕ) : Type 0 where
  pub these : (x : ℕ) → Contains order x ↔ DifferAt old new x
  pub sorted : (i j : ℕ) → i < j → j < length order → IsBefore old new (slice_index order i) (slice_index order j)

-- y is ready: each differing node downstream of it in the new table was pushed
abbrev pub IsReady : List (List ℕ) → List (List ℕ) → List ℕ → ℕ → Type 0
IsReady old new nodes y = (z : ℕ) → IsDownstream (Sends new) y z → DifferAt old new z → Contains nodes z

-- the nodes include every differing node downstream of one of them in the new table
abbrev pub IsClosedDownstream : List (List ℕ) → List (List ℕ) → List ℕ → Type 0
IsClosedDownstream old new nodes = (x : ℕ) → Contains nodes x → IsReady old new nodes x

-- the old table, with the new ways of these nodes
pub record IsPushed (old new : List (List ℕ)) (nodes : List ℕ) (table : List (List ℕ)) : Type 0 where
  pub one_length : length table ≡ length old
  pub these : (x : ℕ) → Contains nodes x → ways table x ≡ ways new x
  pub others : (x : ℕ) → ¬ Contains nodes x → ways table x ≡ ways old x

-- these are all differing nodes of earlier waves, and any differing nodes of this wave
pub record IsUpToWave (old new : List (List ℕ)) (nodes : List ℕ) (wave : ℕ) : Type 0 where
  pub before : (x k : ℕ) → DifferAt old new x → IsWave old new x k → k < wave → Contains nodes x
  pub differ : (x : ℕ) → Contains nodes x → DifferAt old new x
  pub others : (x : ℕ) → Contains nodes x → (k : ℕ) × IsWave old new x k × (k ≤ wave)

-- x may send on to y once these nodes are pushed
pub record SendsOncePushed (old new : List (List ℕ)) (nodes : List ℕ) (x y : ℕ) : Type 0 where
  pub pushed : Contains nodes x → Sends new x y
  pub other : ¬ Contains nodes x → Sends old x y

-- the same while ways are written one by one: a node that is not pushed yet may also have new ways that lead to ready
-- nodes
pub record SendsMeanwhile (old new : List (List ℕ)) (nodes : List ℕ) (x y : ℕ) : Type 0 where
  pub pushed : Contains nodes x → Sends new x y
  pub other : ¬ Contains nodes x → Sends old x y ⊎ (Sends new x y × IsReady old new nodes y)

-- a packet moves from x along these nodes while ways are pushed, and at each step may take any way: before its step k,
-- the nodes `pushed k` have been pushed
abbrev pub Moves : List (List ℕ) → List (List ℕ) → (ℕ → List ℕ) → ℕ → List ℕ → Type 0
Moves old new pushed x [] = Unit {0}
Moves old new pushed x (y ∷ ys) = SendsMeanwhile old new (pushed 0) x y × Moves old new (λ k. pushed (k + 1)) y ys

-- nodes that have been pushed stay pushed
abbrev pub Grows : (ℕ → List ℕ) → Type 0
Grows pushed = (k x : ℕ) → Contains (pushed k) x → Contains (pushed (k + 1)) x

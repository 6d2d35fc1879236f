-- How much work full reversal can be, as in C. Busch, S. Surapaneni and S. Tirthapura, "Analysis of Link Reversal
-- Routing Algorithms for Mobile Ad Hoc Networks" (2003), and C. Busch and S. Tirthapura, "Analysis of Link Reversal
-- Routing Algorithms" (2005). They speak of connected networks. Here a part without the destination turns up to the cap.
use Rattle.std.specs.Prelude.{◌≡◌, ℕ, ◌<◌, ◌≤◌, ◌+◌, ◌-◌, ◌*◌, ◌↔◌, Bool, List, replicate, slice_index, sum}
use Rattle.std.specs.Bool.{IsTrue}
use Rattle.std.specs.List.{count_by, range_with_len}
use Rattle.fr_graph.specs.Counts.{AreLawful}
use Rattle.fr_graph.specs.Links.{HasPath, IsAlone, IsNet}
use Rattle.fr_core.specs.History.{moment_of, turn_count}
use Rattle.fr_core.specs.Legal.{IsRun}
use Rattle.fr_core.specs.Settled.{AreSettled}
use Rattle.fr_core.specs.Walks.{IsConnected}
use Rattle.fr_core.specs.declared.entry.Entry.{Entry}

-- a bad node, as it is called in the literature: it is connected to the destination d, but no path along the links leads
-- to d
abbrev pub IsBad : ℕ → List (ℕ × ℕ) → ℕ → Type 0
IsBad d links x = IsConnected links d x × ¬ HasPath links x d

-- a stranded node: it has links, but is not connected to d
abbrev pub IsStranded : ℕ → List (ℕ × ℕ) → ℕ → Type 0
IsStranded d links x = ¬ IsAlone links x × ¬ IsConnected links d x

-- exactly k of the nodes below n have the property P
pub record IsNumberOf (n : ℕ) (P : ℕ → Type 0) (k : ℕ) : Type 0 where
  pub test : ℕ → Bool
  pub just : (x : ℕ) → x < n → IsTrue (test x) ↔ P x
  pub number : k ≡ count_by test (range_with_len 0 n)

-- b of the n nodes are bad, and c are stranded
pub record AreCounted (n d : ℕ) (links : List (ℕ × ℕ)) (b c : ℕ) : Type 0 where
  pub bad : IsNumberOf n (IsBad d links) b
  pub stranded : IsNumberOf n (IsStranded d links) c

-- so many turns are at most 1 + 2 + .. + b, for b bad nodes, and n more for each stranded node,
pub record IsWithinWork (n d : ℕ) (first : List (ℕ × ℕ)) (total : ℕ) : Type 0 where
  pub bad : ℕ
  pub stranded : ℕ
  pub counted : AreCounted n d first bad stranded
  pub most : 2 * total ≤ bad * (bad + 1) + 2 * (stranded * n)
  -- so at most n * (n - 1), since the destination is neither bad nor stranded
  pub below : total ≤ n * (n - 1)

-- a network of n nodes that are all connected to d, in whatever directions its links point
pub record IsConnectedNet (n d : ℕ) (links : List (ℕ × ℕ)) : Type 0 where
  pub is_net : IsNet n links
  pub dest : d < n
  pub joined : (x : ℕ) → x < n → IsConnected links d x

-- Each network has exactly one number of bad nodes and one of stranded nodes. Together they are fewer than the nodes.
abbrev pub BadAreCounted : Type 0
BadAreCounted = (n d : ℕ) (first : List (ℕ × ℕ)) → IsNet n first → d < n
    → (b c : ℕ) × AreCounted n d first b c × (b + c < n)
    × ((k l : ℕ) → AreCounted n d first k l → (k ≡ b) × (l ≡ c))

-- The connected nodes lie in levels, by their settled counts. If level k + 1 has a node, level k has one too.
abbrev pub NoLevelIsEmpty : Type 0
NoLevelIsEmpty = (n d : ℕ) (first : List (ℕ × ℕ)) (counts : List ℕ) (x k : ℕ) → IsNet n first → d < n
    → AreSettled n d first counts → IsConnected first d x → slice_index counts x ≡ k + 1
    → (y : ℕ) × (y < n) × IsConnected first d y × (slice_index counts y ≡ k)

-- No connected node turns more often than there are bad nodes.
abbrev pub EachIsAtMostBad : Type 0
EachIsAtMostBad = (n d : ℕ) (first : List (ℕ × ℕ)) (counts : List ℕ) (b c x : ℕ) → IsNet n first → d < n
    → AreCounted n d first b c → AreSettled n d first counts → IsConnected first d x → slice_index counts x ≤ b

-- No run makes more than 1 + 2 + .. + b turns, and n for each stranded node, in whatever order it turns nodes. This
-- includes the turns that led to the counts at its start. So the bound also holds of the sum of the settled counts:
-- they are lawful, and the empty run starts from them.
abbrev pub RunIsAtMostTriangle : Type 0
RunIsAtMostTriangle = (n d : ℕ) (first : List (ℕ × ℕ)) (counts : List ℕ) (h : List Entry) (b c : ℕ)
    → IsNet n first → d < n → AreCounted n d first b c → AreLawful n d first counts
    → IsRun n d (moment_of first counts) h → 2 * (sum counts + turn_count h) ≤ b * (b + 1) + 2 * (c * n)

-- In a connected network no run makes more than n * (n - 1) / 2 turns.
abbrev pub ConnectedIsAtMostHalfSquare : Type 0
ConnectedIsAtMostHalfSquare = (n d : ℕ) (first : List (ℕ × ℕ)) (counts : List ℕ) (h : List Entry)
    → IsConnectedNet n d first → AreLawful n d first counts → IsRun n d (moment_of first counts) h
    → 2 * (sum counts + turn_count h) ≤ n * (n - 1)

-- The bound for bad nodes is reached. For each b, there is a connected network, a chain, of b + 1 nodes, of which b are
-- bad and none is stranded. From its first links a run makes exactly 1 + 2 + .. + b turns. So in connected networks no
-- smaller bound holds, neither by b nor by n. This does not say that the bound for stranded nodes is reached.
abbrev pub TriangleIsMet : Type 0
TriangleIsMet = (b : ℕ) → (first : List (ℕ × ℕ)) × (h : List Entry) × IsConnectedNet (b + 1) 0 first
    × AreCounted (b + 1) 0 first b 0 × IsRun (b + 1) 0 (moment_of first (replicate (b + 1) 0)) h
    × (2 * turn_count h ≡ b * (b + 1))

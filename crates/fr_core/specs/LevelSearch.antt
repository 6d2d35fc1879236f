-- The state of the search by levels. The queue has each reached node once, in ascending order of the counts. For
-- proofs only.
use Rattle.std.specs.Prelude.{◌≡◌, ℕ, ◌+◌, ◌<◌, ◌≤◌, ◌⊎◌, List, length, slice_index}
use Rattle.fr_graph.specs.Links.{Points, IsAlone}
use Rattle.fr_core.specs.Reaching.{IsQueued, unreached_count}
use Rattle.fr_core.specs.Walks.{HasUndirectedWalk}

-- a node without a link, a node that is not reached, or a node of the queue
abbrev pub IsSeen : ℕ → List (ℕ × ℕ) → List ℕ → List ℕ → ℕ → Type 0
IsSeen n first counts queue x =
    (IsAlone first x × (slice_index counts x ≡ 0))
    ⊎ (¬ IsAlone first x × (slice_index counts x ≡ n))
    ⊎ IsQueued queue x

-- The search began at d. The nodes of the queue before place `closed` have been followed from head to tail, and those
-- before `opened` from tail to head. The nodes from `start` on have the count `level`, and those from `opened` to
-- `start` have one less.
pub record IsLevelSearch (n d : ℕ) (first : List (ℕ × ℕ)) (counts queue : List ℕ)
    (closed opened start level : ℕ) : Type 0 where
  pub one_each : length counts ≡ n
  pub begun : 0 < length queue
  pub head : slice_index queue 0 ≡ d
  pub zero : slice_index counts d ≡ 0
  pub seen : (x : ℕ) → x < n → IsSeen n first counts queue x
  pub nodes : (i : ℕ) → i < length queue → slice_index queue i < n
  pub walks : (i : ℕ) → i < length queue
      → HasUndirectedWalk first d (slice_index queue i) (slice_index counts (slice_index queue i))
  pub most : (i : ℕ) → i < length queue → slice_index counts (slice_index queue i) ≤ level
  pub reached : (i : ℕ) → i < length queue → slice_index counts (slice_index queue i) < n
  pub before : (i : ℕ) → opened ≤ i → i < start → slice_index counts (slice_index queue i) + 1 ≡ level
  pub here : (i : ℕ) → start ≤ i → i < length queue → slice_index counts (slice_index queue i) ≡ level
  pub against : (i : ℕ) → i < closed → (w : ℕ) → Points first w (slice_index queue i)
      → IsQueued queue w × (slice_index counts w ≤ slice_index counts (slice_index queue i))
  pub along : (i : ℕ) → i < opened → (w : ℕ) → Points first (slice_index queue i) w
      → IsQueued queue w × (slice_index counts w ≤ slice_index counts (slice_index queue i) + 1)
  pub closed_in : closed ≤ length queue
  pub opened_in : opened ≤ start
  pub start_in : start ≤ length queue
  pub few : length queue + unreached_count n counts ≤ n
  pub low : level ≤ start

-- The counts at which every schedule ends. The settled count of a node is its work under full reversal (J. Welch and J.
-- Walter, "Link Reversal Algorithms", 2011), where the turns of a part without the destination stop at the cap.
use Rattle.std.specs.Prelude.{◌≡◌, ℕ, ◌<◌, ◌⊎◌, List, length, slice_index}
use Rattle.fr_graph.specs.Links.{IsAlone}
use Rattle.fr_core.specs.Walks.{IsConnected, IsLeastAway}

-- 0 for a node without a link; the least away number for a node that is connected to the destination d (so 0 for d
-- itself, by the walk without steps); and n for every other node
abbrev pub IsSettledCount : ℕ → ℕ → List (ℕ × ℕ) → ℕ → ℕ → Type 0
IsSettledCount n d links x k =
    (IsAlone links x × (k ≡ 0))
    ⊎ (¬ IsAlone links x × IsLeastAway links d x k)
    ⊎ (¬ IsAlone links x × ¬ IsConnected links d x × (k ≡ n))

-- one settled count for each of n nodes
pub record AreSettled (n d : ℕ) (links : List (ℕ × ℕ)) (counts : List ℕ) : Type 0 where
  pub one_each : length counts ≡ n
  pub settled : (x : ℕ) → x < n → IsSettledCount n d links x (slice_index counts x)

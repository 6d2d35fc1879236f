-- The links after each node has turned so often. The first links and one count a node determine them, as in the work of
-- J. Welch and J. Walter ("Link Reversal Algorithms", 2011).
use Rattle.std.specs.Prelude.{◌≡◌, ℕ, ◌+◌, ◌≤◌, ◌⊎◌, ◌==◌, if◌then◌else◌, List, length, Option, Some, None, slice_index}
use Rattle.std.specs.List.{All, filter_map}
use Rattle.fr_graph.specs.Links.{IsAlone}

-- the direction of a first link at these counts: unchanged if its ends have turned equally often, reversed if its head
-- has turned once more. Other counts give it no direction
abbrev pub link_at : List ℕ → ℕ × ℕ → Option (ℕ × ℕ)
link_at counts first =
    if slice_index counts first.1 == slice_index counts first.0 then Some first
    else if slice_index counts first.1 == slice_index counts first.0 + 1 then Some (first.1, first.0)
    else None

-- the links that the counts give
abbrev pub links_at : List (ℕ × ℕ) → List ℕ → List (ℕ × ℕ)
links_at first counts = filter_map (link_at counts) first

-- the counts give the first link a direction
abbrev pub IsKept : List ℕ → ℕ × ℕ → Type 0
IsKept counts first =
    (slice_index counts first.1 ≡ slice_index counts first.0)
    ⊎ (slice_index counts first.1 ≡ slice_index counts first.0 + 1)

-- counts that turns can lead to: one for each of n nodes, at most n, 0 at the destination d and at nodes without a
-- link, and each first link has a direction
pub record AreLawful (n d : ℕ) (first : List (ℕ × ℕ)) (counts : List ℕ) : Type 0 where
  pub one_each : length counts ≡ n
  pub destination : slice_index counts d ≡ 0
  pub alone : (x : ℕ) → IsAlone first x → slice_index counts x ≡ 0
  pub capped : (x : ℕ) → slice_index counts x ≤ n
  pub kept : All (IsKept counts) first

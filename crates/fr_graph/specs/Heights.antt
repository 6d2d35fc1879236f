-- Heights of the nodes, such that each link leads from a higher node to a lower one: it falls. For proofs only. The
-- idea is that of Gafni and Bertsekas (1981): a sink that turns is lifted above its neighbours.
use Rattle.std.specs.Prelude.{◌≡◌, ℕ, ◌<◌, ◌≤◌, ◌+◌, ◌*◌, ◌⊎◌, Bool, true, List, length, slice_index, vec_capacity}
use Rattle.std.specs.List.{All, Contains}
use Rattle.fr_graph.specs.Limits.{most_nodes}
use Rattle.fr_graph.specs.Links.{Points}
use Rattle.fr_graph.specs.declared.heights.Heights.TheInside.{Inside}

-- the heights of the nodes, and whether each link falls
pub record Levels : Type 0 where
  pub heights : List ℕ
  pub known : Bool

-- what the fields of a `Heights` show
abbrev pub levels_of : Inside → Levels
levels_of s = record { heights = s.of.items; known = s.known }

-- no height is greater than the top, there are at most as many nodes as the limit, and there is room for a list of all
-- of them
pub record AreSound (s : Inside) : Type 0 where
  pub few : length s.of.items ≤ most_nodes
  pub below : (x : ℕ) → slice_index s.of.items x ≤ s.top
  pub room : length s.of.items ≤ vec_capacity s.list

-- each link falls: its head is lower than its tail
abbrev pub AreFalling : List ℕ → List (ℕ × ℕ) → Type 0
AreFalling heights links = (u v : ℕ) → Points links u v → slice_index heights v < slice_index heights u

-- if the heights are known, each link falls
abbrev pub Fit : List (ℕ × ℕ) → Levels → Type 0
Fit links levels = levels.known ≡ true → AreFalling levels.heights links

-- each node of the list is one step above the one before it, the first one a step above the base, and the other heights
-- are unchanged
abbrev pub AreStacked : List ℕ → ℕ → ℕ → List ℕ → List ℕ → Type 0
AreStacked nodes base step before after =
    (x : ℕ) → ((i : ℕ) × (i < length nodes) × (slice_index nodes i ≡ x) × (slice_index after x ≡ base + (i + 1) * step))
    ⊎ (¬ Contains nodes x × (slice_index after x ≡ slice_index before x))

-- each node of the list is above the base, first by its number of turns and then by its place in the list, and the
-- other heights are unchanged
abbrev pub AreLifted : List ℕ → List ℕ → ℕ → ℕ → List ℕ → List ℕ → Type 0
AreLifted nodes counts base step before after =
    (x : ℕ) → ((i : ℕ) × (i < length nodes) × (slice_index nodes i ≡ x)
    × (slice_index after x ≡ base + (slice_index counts x * length nodes + i + 1) * step))
    ⊎ (¬ Contains nodes x × (slice_index after x ≡ slice_index before x))

-- an order of all n nodes that lists the head of each link before its tail
pub record HasHeadsFirst (n : ℕ) (links : List (ℕ × ℕ)) (order : List ℕ) : Type 0 where
  pub few : length order ≤ n
  pub below : All (λ (x : ℕ). x < n) order
  pub all : (x : ℕ) → x < n → Contains order x
  pub heads : (i j : ℕ) → i < length order → j < length order
      → Points links (slice_index order i) (slice_index order j) → j < i

-- links into the set come from a height of at least `high`, links out of it lead to a height of at most `low`, and all
-- other links fall. So all links fall once the nodes of the set are put between low and high, in the order of their
-- heights
pub record FitBetween (links : List (ℕ × ℕ)) (heights : List ℕ) (nodes : List ℕ) (low high : ℕ) : Type 0 where
  pub into : (u v : ℕ) → Points links u v → ¬ Contains nodes u → Contains nodes v → high ≤ slice_index heights u
  pub out : (u v : ℕ) → Points links u v → Contains nodes u → ¬ Contains nodes v → slice_index heights v ≤ low
  pub within : (u v : ℕ) → Points links u v → Contains nodes u → Contains nodes v
      → slice_index heights v < slice_index heights u
  pub outside : (u v : ℕ) → Points links u v → ¬ Contains nodes u → ¬ Contains nodes v
      → slice_index heights v < slice_index heights u

-- The turns of a round: how often each node has turned, and which nodes have turned. A turn is a reversal in the sense
-- of Gafni and Bertsekas (1981).
use Rattle.std.specs.Prelude.{◌≡◌, ℕ, ◌<◌, ◌≤◌, ◌==◌, ◌↔◌, if◌then◌else◌, List, length, slice_index, vec_capacity}
use Rattle.std.specs.List.{Contains}
use Rattle.fr_graph.specs.Limits.{most_nodes}
use Rattle.fr_graph.specs.declared.turns.Turns.TheInside.{Inside}

-- these are the nodes that have turned, each once
pub record AreTurned (counts nodes : List ℕ) : Type 0 where
  pub once : (i j : ℕ) → i < j → j < length nodes → ¬ (slice_index nodes i ≡ slice_index nodes j)
  pub each : (x : ℕ) → Contains nodes x ↔ (0 < slice_index counts x)

-- the value of a `Turns` in contracts
abbrev pub counts_in : Inside → List ℕ
counts_in s = s.counts.items

-- the list has exactly the nodes that have turned, and room for all nodes
pub record AreSound (s : Inside) : Type 0 where
  pub few : length s.counts.items ≤ most_nodes
  pub turned : AreTurned s.counts.items s.nodes.items
  pub room : length s.counts.items ≤ vec_capacity s.nodes

-- these nodes have this count, and the counts of the others are unchanged
pub record AreSet (nodes : List ℕ) (count : ℕ) (before after : List ℕ) : Type 0 where
  pub these : (x : ℕ) → Contains nodes x → slice_index after x ≡ count
  pub others : (x : ℕ) → ¬ Contains nodes x → slice_index after x ≡ slice_index before x

-- `count` for a node that has turned, and 0 for any other
abbrev pub set_to : ℕ → ℕ → ℕ
set_to count before = if before == 0 then 0 else count

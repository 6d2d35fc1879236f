-- The value of a `Distances` in contracts. For proofs only.
use Rattle.std.specs.Prelude.{◌≤◌, length, vec_capacity}
use Rattle.fr_graph.specs.Limits.{most_nodes}
use Rattle.fr_nearest.specs.Changes.{AreAllNoted}
use Rattle.fr_nearest.specs.Distances.{Measured}
use Rattle.fr_nearest.specs.Local.{IsSmall}
use Rattle.fr_nearest.specs.declared.distances.Distances.TheInside.{Inside}

abbrev pub measured_in : Inside → Measured
measured_in s = record {
  dest = s.dest;
  table = s.of.items;
  before = s.changes.before.items;
  changed = s.changes.nodes.items;
}

-- the numbers are small, and there is room for an update
pub record IsKept (s : Inside) : Type 0 where
  pub few : length s.of.items ≤ most_nodes
  pub small : IsSmall (length s.of.items) s.of.items
  pub changes : AreAllNoted s.of.items s.changes
  pub room : length s.of.items ≤ vec_capacity s.list

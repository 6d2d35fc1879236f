-- The value of `WayChanges` in contracts. For proofs only.
use Rattle.std.specs.Prelude.{◌≡◌, ◌≤◌, ◌+◌, false, length, min, replicate, vec_capacity}
use Rattle.fr_ways.specs.Changes.{Noted}
use Rattle.fr_ways.specs.declared.changes.WayChanges.TheInside.{Inside}

abbrev pub noted_in : Inside → Noted
noted_in s = record {
  shrink = s.shrink.pairs;
  emptied = s.emptied.items;
  grow = s.grow.pairs;
  nodes = length s.marks.items;
  ways = min s.shrink.ways s.grow.ways;
}

-- no node is marked, there is room for a push to each node in each phase, and for the emptied nodes after the others
pub record IsSound (s : Inside) : Type 0 where
  pub clear : s.marks.items ≡ replicate (length s.marks.items) false
  pub shrink : length s.marks.items ≤ s.shrink.nodes
  pub grow : length s.marks.items ≤ s.grow.nodes
  pub emptied : length s.marks.items ≤ vec_capacity s.emptied
  pub few : length s.shrink.pairs + length s.emptied.items ≤ length s.marks.items

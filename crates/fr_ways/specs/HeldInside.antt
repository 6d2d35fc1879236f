-- How lists for nodes lie in memory. For proofs only.
use Rattle.std.specs.Prelude.{◌≡◌, ◌+◌, ◌-◌, length, min, vec_capacity}
use Rattle.fr_ways.specs.Held.{Held, paired}
use Rattle.fr_ways.specs.Rows.{AreRows, rows_of}
use Rattle.fr_ways.specs.declared.reserved_rows.Rows.TheInside.{Inside}

abbrev pub held_in : Inside → Held
held_in s = record {
  pairs = paired s.nodes.items (rows_of s.list.items s.starts.items);
  nodes = min (vec_capacity s.nodes) (vec_capacity s.starts - 1);
  ways = vec_capacity s.list;
}

-- the lists lie one after another, one for each node
pub record IsHeld (s : Inside) : Type 0 where
  pub rows : AreRows s.list.items s.starts.items
  pub one_each : length s.starts.items ≡ length s.nodes.items + 1

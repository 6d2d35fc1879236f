-- How far the rows of a network are turned while they turn in place. For proofs only.
use Rattle.std.specs.Prelude.{◌≡◌, ℕ, ◌<◌, ◌==◌, ◌||◌, if◌then◌else◌, Bool, false, true, List, length, map, slice_index}
use Rattle.fr_graph.specs.Links.{IsNet}
use Rattle.fr_graph.specs.Network.{Network}
use Rattle.fr_graph.specs.RowLists.{opposite, turned_entry}
use Rattle.fr_graph.specs.Rows.{row}
use Rattle.fr_graph.specs.Tables.{Table, row_of}
use Rattle.fr_graph.specs.declared.first.First.{First}

-- whether the entry of w in the row of y is done, given the nodes that have been handled. A node that has turned
-- handles its own row, and its entries in the rows of nodes that have not turned
abbrev pub is_done : List ℕ → (ℕ → Bool) → ℕ → ℕ → Bool
is_done counts seen y w = if slice_index counts y == 0 then seen w else seen y

-- x is handled too
abbrev pub seen_too : ℕ → (ℕ → Bool) → ℕ → Bool
seen_too x seen y = y == x || seen y

-- no entry is done, and every entry is done
abbrev pub none_done : ℕ → ℕ → Bool
none_done y w = false

abbrev pub all_done : ℕ → ℕ → Bool
all_done y w = true

-- an entry of the row of y, turned if it is done
abbrev pub entry_done : (ℕ → ℕ → Bool) → List ℕ → ℕ → ℕ × First → ℕ × First
entry_done done counts y entry = if done y entry.0 then turned_entry counts y entry else entry

-- the entry of w reversed, and any other unchanged
abbrev pub reversed_at : ℕ → ℕ × First → ℕ × First
reversed_at w entry = if entry.0 == w then (entry.0, opposite entry.1) else entry

-- the table has the rows of the network, with the entries turned that are done
pub record ArePartTurned (net : Network) (counts : List ℕ) (done : ℕ → ℕ → Bool) (table : Table) : Type 0 where
  pub is_net : IsNet net.nodes net.links
  pub counted : length counts ≡ net.nodes
  pub one_each : length table.rows ≡ net.nodes
  pub shown : (y : ℕ) → y < net.nodes → row_of table y ≡ map (entry_done done counts y) (row net.nodes net.links y)

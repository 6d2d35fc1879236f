-- The rows of a network in a table, and the links that rows contain. For proofs only.
use Rattle.std.specs.Prelude.{◌≡◌, ℕ, ◌<◌, List, length}
use Rattle.fr_graph.specs.Halves.{AreUnjoined}
use Rattle.fr_graph.specs.Links.{IsNet, Joins}
use Rattle.fr_graph.specs.Network.{Network}
use Rattle.fr_graph.specs.RowLists.{out_links, rows_below}
use Rattle.fr_graph.specs.Rows.{row}
use Rattle.fr_graph.specs.Tables.{Table, row_of}

-- the table has exactly the rows of n nodes
pub record AreRows (n : ℕ) (links : List (ℕ × ℕ)) (table : Table) : Type 0 where
  pub one_each : length table.rows ≡ n
  pub shown : (x : ℕ) → x < n → row_of table x ≡ row n links x

-- the table has the rows of the network, in which a link joins u and v
pub record ShowsLink (net : Network) (u v : ℕ) (table : Table) : Type 0 where
  pub is_net : IsNet net.nodes net.links
  pub joins : Joins net.links u v
  pub rows : AreRows net.nodes net.links table

-- the table has the rows of the network, in which no link joins its nodes u and v
pub record ShowsNoLink (net : Network) (u v : ℕ) (table : Table) : Type 0 where
  pub nodes : AreUnjoined net.nodes net.links u v
  pub rows : AreRows net.nodes net.links table

-- the links in the rows of n nodes, row by row, each in the row of its tail
abbrev pub links_in : ℕ → Table → List (ℕ × ℕ)
links_in n table = rows_below n (λ x. out_links x (row_of table x))

-- the network of the links in a table of rows
abbrev pub net_in : Table → Network
net_in table = record { nodes = length table.rows; links = links_in (length table.rows) table }

-- the table has the rows of its own network
pub record ShowsNet (table : Table) : Type 0 where
  pub is_net : IsNet (net_in table).nodes (net_in table).links
  pub rows : AreRows (net_in table).nodes (net_in table).links table

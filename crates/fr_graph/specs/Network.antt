-- The value of a network in contracts: the number of its nodes, and its links in order. The definition is this
-- project's own.
use Rattle.std.specs.Prelude.{ℕ, List}
use Rattle.fr_graph.specs.Order.{in_order}

pub record Network : Type 0 where
  pub nodes : ℕ
  pub links : List (ℕ × ℕ)

-- the network with these links, listed in any order
abbrev pub net_of : ℕ → List (ℕ × ℕ) → Network
net_of n listed = record { nodes = n; links = in_order listed }

-- How the pushes of a phase lie in three lists: the nodes, and their rows, each from its start on. The definition is
-- this project's own.
use Rattle.std.specs.Prelude.{◌≡◌, ℕ, List, map}
use Rattle.fr_ways.specs.Rows.{IsLaidOut}
use Rattle.fr_ways.specs.declared.push_list.PushList.{PushList}

-- these pushes, each a node with its list, lie in the lists in this order
pub record AreListed (pushes : List (ℕ × List ℕ)) (lists : PushList) : Type 0 where
  pub nodes : lists.nodes.now ≡ map (λ p. p.0) pushes
  pub rows : IsLaidOut lists.starts.now lists.list.now (map (λ p. p.1) pushes)

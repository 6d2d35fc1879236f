-- The value of a `NodeState` in contracts, and what holds of its fields. For proofs only.
use Rattle.std.specs.Prelude.{Some, vec_capacity, vec_len, ◌≤◌}
use Rattle.revroute_c.specs.NodeStates.{HeldNode}
use Rattle.revroute_c.specs.declared.node_state.NodeState.TheInside.{Inside}

abbrev pub kept_in : Inside → HeldNode
kept_in m = Some m.node

-- the lists have capacity for as many entries as there are known neighbours
pub record HasCapacity (m : Inside) : Type 0 where
  pub ways : vec_len m.node.links ≤ vec_capacity m.ways
  pub gates : vec_len m.node.links ≤ vec_capacity m.gates

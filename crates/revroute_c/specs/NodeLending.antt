-- When a node's handle is unchanged. This project's own. For proofs only: its value after its pointer was lent for
-- changes.
use Rattle.std.specs.Prelude.{◌≡◌}
use denote.RattleType.{RattleType}
use Rattle.std.specs.Borrow.{Fml, MutBor, Lends}
use Rattle.revroute_c.specs.BoxLending.{pointer_row}
use Rattle.revroute_c.specs.NodeStates.{HeldNode, no_node}
use Rattle.revroute_c.specs.contracts.node_state.NodeState.{the_row as node_row}
use Rattle.revroute_c.specs.declared.box_pointer.BoxPointer.{BoxPointer}
use Rattle.revroute_c.specs.declared.node_handle.NodeHandle.{NodeHandle}
use Rattle.revroute_c.specs.contracts.node_handle.NodeHandle.{the_row}

-- the handle and its value are unchanged
pub record IsSameNode (old new : NodeHandle) : Type 0 where
  pub at : new.at ≡ old.at
  pub node_state : new.node_state ≡ old.node_state

-- the handle of a pointer
abbrev pub handle_of : BoxPointer HeldNode → NodeHandle
handle_of p = record { at = p.at; node_state = p.value }

abbrev pub node_pointer : RattleType
node_pointer = pointer_row node_row no_node

-- the handle ends as its pointer does
abbrev pub LendsPointer : MutBor NodeHandle → MutBor (BoxPointer HeldNode) → Fml
LendsPointer h p = Lends the_row node_pointer h p handle_of

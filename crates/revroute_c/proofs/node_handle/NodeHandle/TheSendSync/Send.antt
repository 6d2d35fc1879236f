-- A node's handle may go to another thread, because a node state may.
use denote.Param.Send.{IsSend, owning_send, sendable}
use Rattle.revroute_c.specs.contracts.node_state.NodeState.{the_row as S}
use Rattle.revroute_c.proofs.node_state.NodeState.TheSendSync as node_state
use Rattle.revroute_c.proofs.Owned.{owned_keyless}
use Rattle.revroute_c.specs.NodeStates.{no_node}
use Rattle.revroute_c.specs.contracts.node_handle.NodeHandle.{the_row, the_type}

pub send : IsSend the_row
send =
    owning_send the_type (search sendable, tt) (λ d. owned_keyless S no_node node_state.the_send d.at d.node_state)
    (λ k x w. tt)

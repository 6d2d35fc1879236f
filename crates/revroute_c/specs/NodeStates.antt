-- The value of a node's handle in contracts. This project's own.
use Rattle.std.specs.Prelude.{Option, None}
use Rattle.fr_node.specs.declared.node.Node.{Node}

-- the value of a handle
abbrev pub HeldNode : Type 0
HeldNode = Option Node

-- the value of a null handle
abbrev pub no_node : HeldNode
no_node = None

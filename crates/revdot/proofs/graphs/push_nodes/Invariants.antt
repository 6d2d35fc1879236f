use Rattle.std.proofs.Common.{◌≡◌, ◌++◌, drop, string_bytes}
use Rattle.std.specs.List.{flat_map}
use Rattle.revdot.specs.Graphs.{node_line}
use Rattle.revdot.proofs.graphs.push_nodes.Given as goal

abbrev pub invariant-loop-node : goal.invariant-loop-node
invariant-loop-node l =
    string_bytes l.text ++ flat_map node_line (drop l.node-index l.nodes) ≡ string_bytes l.fn.text
    ++ flat_map node_line l.nodes

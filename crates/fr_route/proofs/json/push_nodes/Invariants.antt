use Rattle.std.proofs.Common.{◌≡◌, ◌≤◌, ◌+◌, ◌*◌, ◌++◌, decimal, drop, string_bytes}
use Rattle.std.specs.Prelude.{string_capacity, string_len}
use Rattle.fr_route.specs.Separated.{listed, separated}
use Rattle.fr_route.proofs.json.push_nodes.Given as goal

abbrev pub invariant-loop-node : goal.invariant-loop-node
invariant-loop-node l = record {
  text : string_bytes l.line ++ separated decimal l.first (drop l.node-index l.nodes) ≡ string_bytes l.fn.line
      ++ listed decimal l.nodes;
  written : string_len l.line ≤ string_len l.fn.line + 11 * l.node-index;
  capacity : string_capacity l.fn.line ≤ string_capacity l.line;
}

use Rattle.std.proofs.Common.{filter, length, map, take, vec_capacity, ◌≡◌, ◌≤◌}
use Rattle.fr_node.specs.declared.link.Link.{Link}
use Rattle.fr_node.specs.Events.{is_gate}
use Rattle.fr_node.proofs.node.Node.push_gates.Given as goal

abbrev pub invariant-loop-link : goal.invariant-loop-link
invariant-loop-link l = record {
  room : vec_capacity l.gates ≡ vec_capacity l.fn.gates;
  few : length l.gates.items ≤ l.link-index;
  listed : l.gates.items ≡ map (λ (k : Link). k.neighbour) (filter (is_gate l.self) (take l.link-index l.links));
}

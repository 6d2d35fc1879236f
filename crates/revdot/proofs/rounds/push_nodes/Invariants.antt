use Rattle.std.proofs.Common.{◌≡◌, ◌++◌, drop, string_bytes}
use Rattle.fr_route.specs.Texts.{spaced}
use Rattle.revdot.proofs.rounds.push_nodes.Given as goal

abbrev pub invariant-loop-node : goal.invariant-loop-node
invariant-loop-node l =
    string_bytes l.story ++ spaced (drop l.node-index l.nodes) ≡ string_bytes l.fn.story ++ spaced l.nodes

use Rattle.std.proofs.Common.{◌≡◌, ◌++◌, drop, string_bytes}
use Rattle.revdot.specs.Changes.{spaced_pushes}
use Rattle.revdot.proofs.changes.push_hops.Given as goal

abbrev pub invariant-loop-node : goal.invariant-loop-node
invariant-loop-node l =
    string_bytes l.story ++ spaced_pushes l.hops (drop l.node-index l.nodes) ≡ string_bytes l.fn.story
    ++ spaced_pushes l.hops l.nodes

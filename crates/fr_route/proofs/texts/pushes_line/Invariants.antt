use Rattle.std.proofs.Common.{◌≡◌, ◌++◌, drop, string_bytes}
use Rattle.fr_route.specs.Pushing.{changes_of}
use Rattle.fr_route.specs.Texts.{pushes_text, spaced_pushes}
use Rattle.fr_route.proofs.texts.pushes_line.Given as goal

abbrev pub invariant-loop-node : goal.invariant-loop-node
invariant-loop-node l = string_bytes l.line ++ spaced_pushes (changes_of l.hops (drop l.node-index l.nodes))
    ≡ pushes_text (changes_of l.hops l.nodes)

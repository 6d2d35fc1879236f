use Rattle.std.proofs.Common.{◌≡◌, ◌++◌, drop, string_bytes}
use Rattle.fr_route.specs.Texts.{nearest_text, spaced}
use Rattle.fr_route.proofs.texts.nearest_line.Given as goal

abbrev pub invariant-loop-node : goal.invariant-loop-node
invariant-loop-node l = string_bytes l.line ++ spaced (drop l.node-index l.nodes) ≡ nearest_text l.nodes

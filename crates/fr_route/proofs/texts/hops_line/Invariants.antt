use Rattle.std.proofs.Common.{◌≡◌, ◌++◌, drop, string_bytes}
use Rattle.fr_route.specs.Texts.{hops_text, spaced_hops}
use Rattle.fr_route.proofs.texts.hops_line.Given as goal

abbrev pub invariant-loop-hop : goal.invariant-loop-hop
invariant-loop-hop l = string_bytes l.line ++ spaced_hops (drop l.hop-index l.hops) ≡ hops_text l.hops

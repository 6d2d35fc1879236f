use Rattle.std.proofs.Common.{◌≡◌, ◌++◌, string_bytes}
use Rattle.fr_route.specs.Texts.{spaced_links}
use Rattle.fr_route.proofs.texts.push_links.Given as goal

abbrev pub invariant-loop-tail : goal.invariant-loop-tail
invariant-loop-tail l =
    string_bytes l.line ++ spaced_links l.tail-iterator ≡ string_bytes l.fn.line ++ spaced_links l.fn.links

use Rattle.std.proofs.Common.{◌≡◌, ◌++◌, drop, string_bytes}
use Rattle.fr_route.specs.Texts.{spaced_links}
use Rattle.revdot.proofs.links.push_links.Given as goal

abbrev pub invariant-loop-link : goal.invariant-loop-link
invariant-loop-link l =
    string_bytes l.story ++ spaced_links (drop l.link-index l.links) ≡ string_bytes l.fn.story ++ spaced_links l.links

use Rattle.std.proofs.Common.{◌≡◌, ◌++◌, drop, string_bytes}
use Rattle.std.specs.List.{flat_map}
use Rattle.revdot.specs.Graphs.{link_line}
use Rattle.revdot.proofs.graphs.push_links.Given as goal

abbrev pub invariant-loop-link : goal.invariant-loop-link
invariant-loop-link l =
    string_bytes l.text ++ flat_map link_line (drop l.link-index l.links) ≡ string_bytes l.fn.text
    ++ flat_map link_line l.links

use Rattle.std.proofs.Common.{drop, map, take, ◌++◌, ◌≡◌}
use Rattle.fr_node.specs.Links.{after_tick}
use Rattle.fr_node.proofs.node.tick_links.Given as goal

abbrev pub invariant-loop-link : goal.invariant-loop-link
invariant-loop-link l =
    l.links ≡ map (after_tick l.patience) (take l.link-index l.fn.links) ++ drop l.link-index l.fn.links

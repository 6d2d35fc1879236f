use Rattle.std.proofs.Common.{◌≡◌, ◌++◌, map}
use Rattle.revdot.specs.Settled.{way_link}
use Rattle.revdot.proofs.settled.way_links.Given as goal

abbrev pub invariant-loop-tail : goal.invariant-loop-tail
invariant-loop-tail l =
    l.links.items ++ map (way_link l.hops l.table) l.tail-iterator ≡ map (way_link l.hops l.table) l.router.links

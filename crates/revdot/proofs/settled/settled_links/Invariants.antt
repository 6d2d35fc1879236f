use Rattle.std.proofs.Common.{◌≡◌, ◌++◌, map}
use Rattle.revdot.specs.Settled.{settled_link}
use Rattle.revdot.proofs.settled.settled_links.Given as goal

abbrev pub invariant-loop-tail : goal.invariant-loop-tail
invariant-loop-tail l =
    l.links.items ++ map (settled_link l.hops) l.tail-iterator ≡ map (settled_link l.hops) l.router.links

use Rattle.std.proofs.Common.{◌≡◌, ◌++◌, map}
use Rattle.std.specs.List.{zip}
use Rattle.revdot.specs.Strips.{turn_link}
use Rattle.revdot.proofs.strips.turn_links.Given as goal

abbrev pub invariant-loop-stands : goal.invariant-loop-stands
invariant-loop-stands l = l.drawn.items ++ map (turn_link l.x)
    (zip l.stands-iterator.a.rest.now l.stands-iterator.b.rest.now) ≡ map (turn_link l.x) (zip l.settled l.links)

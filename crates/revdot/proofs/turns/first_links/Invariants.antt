use Rattle.std.proofs.Common.{◌≡◌, map, take}
use Rattle.revdot.specs.Strips.{first_link}
use Rattle.revdot.proofs.turns.first_links.Given as goal

abbrev pub invariant-loop-link : goal.invariant-loop-link
invariant-loop-link l = l.links.items ≡ map (first_link l.counts) (take l.link-index l.settled)

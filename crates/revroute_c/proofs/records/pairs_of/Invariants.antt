use Rattle.std.proofs.Common.{◌≡◌, ◌++◌, drop, map}
use Rattle.revroute_c.specs.Records.{link_of}
use Rattle.revroute_c.proofs.records.pairs_of.Given as goal

abbrev pub invariant-loop-link : goal.invariant-loop-link
invariant-loop-link l = l.pairs.items ++ map link_of (drop l.link-index l.links) ≡ map link_of l.links

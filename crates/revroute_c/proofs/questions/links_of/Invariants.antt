use Rattle.std.proofs.Common.{◌≡◌, ◌++◌, map}
use Rattle.revroute_c.specs.Records.{link_of}
use Rattle.revroute_c.proofs.questions.links_of.Given as goal

abbrev pub invariant-loop-tail : goal.invariant-loop-tail
invariant-loop-tail l = map link_of l.found.items ++ l.tail-iterator ≡ l.router.links

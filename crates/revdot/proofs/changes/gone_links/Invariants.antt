use Rattle.std.proofs.Common.{◌≡◌, ◌++◌}
use Rattle.revdot.specs.Changes.{gone_links}
use Rattle.revdot.proofs.changes.gone_links.Given as goal

abbrev pub invariant-loop-tail : goal.invariant-loop-tail
invariant-loop-tail l =
    l.links.items ++ gone_links l.tail-iterator l.after.links ≡ gone_links l.before.links l.after.links

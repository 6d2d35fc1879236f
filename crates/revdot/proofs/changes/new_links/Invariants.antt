use Rattle.std.proofs.Common.{◌≡◌, ◌++◌}
use Rattle.revdot.specs.Changes.{new_links}
use Rattle.revdot.proofs.changes.new_links.Given as goal

abbrev pub invariant-loop-tail : goal.invariant-loop-tail
invariant-loop-tail l =
    l.links.items ++ new_links l.before.links l.tail-iterator ≡ new_links l.before.links l.after.links

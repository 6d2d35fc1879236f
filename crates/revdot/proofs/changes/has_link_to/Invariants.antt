use Rattle.std.proofs.Common.{◌≡◌, drop}
use Rattle.std.specs.List.{list_any}
use Rattle.revdot.specs.Changes.{leads_to}
use Rattle.revdot.proofs.changes.has_link_to.Given as goal

abbrev pub invariant-loop-entry : goal.invariant-loop-entry
invariant-loop-entry l = list_any (leads_to l.v) l.row ≡ list_any (leads_to l.v) (drop l.entry-index l.row)

use Rattle.std.proofs.Common.{◌≡◌, ◌++◌, drop, map}
use Rattle.revroute_c.specs.Records.{edit_of}
use Rattle.revroute_c.proofs.records.edits_of.Given as goal

abbrev pub invariant-loop-edit : goal.invariant-loop-edit
invariant-loop-edit l = l.made.items ++ map edit_of (drop l.edit-index l.edits) ≡ map edit_of l.edits

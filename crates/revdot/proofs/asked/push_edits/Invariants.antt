use Rattle.std.proofs.Common.{◌≡◌, ◌++◌, drop, string_bytes}
use Rattle.revdot.specs.Asked.{spaced_edits}
use Rattle.revdot.proofs.asked.push_edits.Given as goal

abbrev pub invariant-loop-edit : goal.invariant-loop-edit
invariant-loop-edit l =
    string_bytes l.story ++ spaced_edits (drop l.edit-index l.edits) ≡ string_bytes l.fn.story ++ spaced_edits l.edits

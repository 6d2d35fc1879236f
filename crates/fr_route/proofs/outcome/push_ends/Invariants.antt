use Rattle.std.proofs.Common.{take, ◌++◌, ◌≡◌}
use Rattle.fr_route.specs.Ends.{ends_of}
use Rattle.fr_route.proofs.outcome.push_ends.Given as goal

abbrev pub invariant-loop-edit : goal.invariant-loop-edit
invariant-loop-edit l = l.nodes.items ≡ l.fn.nodes.items ++ ends_of (take l.edit-index l.edits)

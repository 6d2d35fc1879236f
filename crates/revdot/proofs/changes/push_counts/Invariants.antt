use Rattle.std.proofs.Common.{◌≡◌, ◌++◌, drop, string_bytes}
use Rattle.revdot.specs.Changes.{spaced_counts}
use Rattle.revdot.proofs.changes.push_counts.Given as goal

abbrev pub invariant-loop-x : goal.invariant-loop-x
invariant-loop-x l =
    string_bytes l.story ++ spaced_counts l.x-counter (drop l.x-counter l.counts) ≡ string_bytes l.fn.story
    ++ spaced_counts 0 l.counts

use Rattle.std.proofs.Common.{List, take, ℕ, ◌≡◌}
use Rattle.fr_ways.specs.PushLists.{AreListed}
use Rattle.revroute_c.specs.Phases.{numbers_of}
use Rattle.revroute_c.proofs.phases.numbers_of_pushes.Given as goal

abbrev pub invariant-loop-k : goal.invariant-loop-k
invariant-loop-k l =
    (pushes : List (ℕ × List ℕ)) → AreListed pushes l.list → l.numbers.items ≡ numbers_of (take l.k pushes)

use Rattle.std.proofs.Common.{length, ◌≡◌}
use Rattle.fr_requests.specs.LineLexemes.{unspaced}
use Rattle.fr_requests.proofs.fronts.skip_some_space.Given as goal

-- there is only white space before the rest
abbrev pub invariant-spaces : goal.invariant-spaces
invariant-spaces l = unspaced l.text ≡ unspaced l.rest

abbrev pub decreases-spaces : goal.decreases-spaces
decreases-spaces l = length l.rest

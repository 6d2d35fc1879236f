use Rattle.std.proofs.Common.{decimal, length, ◌++◌, ◌<◌, ◌^◌, ◌≡◌}
use Rattle.fr_requests.proofs.fronts.more_digits.Given as goal

-- the digits so far are those of the number, and the others follow
abbrev pub invariant-more : goal.invariant-more
invariant-more l = (0 < l.number) × (l.number < 2 ^ 40) × (decimal l.start ++ l.digits ≡ decimal l.number ++ l.rest)

abbrev pub decreases-more : goal.decreases-more
decreases-more l = length l.rest

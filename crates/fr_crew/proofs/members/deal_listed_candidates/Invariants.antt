use Rattle.std.proofs.Common.{◌≡◌, length}
use Rattle.std.specs.List.{AllByRecursion as Each}
use Rattle.fr_round.specs.Knowledge.{OpenRound}
use Rattle.fr_crew.specs.Crews.{IsOwnMember}
use Rattle.fr_crew.proofs.members.deal_listed_candidates.Given as goal

abbrev pub invariant-loop-turn : goal.invariant-loop-turn
invariant-loop-turn g l = record {
  long : length l.members ≡ length l.fn.members;
  own : (own : OpenRound) → Each (IsOwnMember own) l.fn.members → Each (IsOwnMember own) l.members;
}

use Rattle.std.proofs.Common.{◌≡◌, length}
use Rattle.std.specs.List.{AllByRecursion as Each}
use Rattle.fr_round.specs.Knowledge.{OpenRound}
use Rattle.fr_crew.specs.Crews.{IsOwnMember}
use Rattle.fr_crew.proofs.members.deal_all_candidates.Given as goal

abbrev pub invariant-loop-x : goal.invariant-loop-x
invariant-loop-x g l = record {
  long : length l.members ≡ length l.fn.members;
  own : (own : OpenRound) → Each (IsOwnMember own) l.fn.members → Each (IsOwnMember own) l.members;
}

use Rattle.fr_ways.proofs.Shrinking.{growing_new, loser_done, one_phase, phases_free, shrinking_old}
use Rattle.fr_ways.proofs.laws.phase_law.Goals as goal

pub returns-clause-shrinking : goal.returns-clause-shrinking
returns-clause-shrinking c = shrinking_old

pub returns-clause-growing : goal.returns-clause-growing
returns-clause-growing c = growing_new

pub returns-clause-cycle_free : goal.returns-clause-cycle_free
returns-clause-cycle_free c = phases_free

pub returns-clause-losers : goal.returns-clause-losers
returns-clause-losers c = loser_done

pub returns-clause-one_phase : goal.returns-clause-one_phase
returns-clause-one_phase c = one_phase

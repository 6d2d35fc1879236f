use Rattle.fr_round.proofs.Standing.{first_holds, one_history, only_first, steps_grow, steps_keep}
use Rattle.fr_round.proofs.laws.round_law.Goals as goal

pub returns-clause-run : goal.returns-clause-run
returns-clause-run c = one_history

pub returns-clause-first : goal.returns-clause-first
returns-clause-first c = first_holds

pub returns-clause-only : goal.returns-clause-only
returns-clause-only c = only_first

pub returns-clause-kept : goal.returns-clause-kept
returns-clause-kept c = steps_keep

pub returns-clause-grows : goal.returns-clause-grows
returns-clause-grows c = steps_grow

use Rattle.fr_ways.proofs.Tables.{moves_twice, never_cycles, no_new_cycle, push_is_one_more, pushed_right}
use Rattle.fr_ways.proofs.Tables.{starts_as_old}
use Rattle.fr_ways.proofs.laws.push_law.Goals as goal

pub returns-clause-start : goal.returns-clause-start
returns-clause-start c = starts_as_old

pub returns-clause-step : goal.returns-clause-step
returns-clause-step c = push_is_one_more

pub returns-clause-cycles : goal.returns-clause-cycles
returns-clause-cycles c = no_new_cycle

pub returns-clause-cycle_free : goal.returns-clause-cycle_free
returns-clause-cycle_free c = never_cycles

pub returns-clause-right : goal.returns-clause-right
returns-clause-right c = pushed_right

pub returns-clause-twice : goal.returns-clause-twice
returns-clause-twice c = moves_twice

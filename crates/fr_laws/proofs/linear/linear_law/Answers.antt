use Rattle.fr_laws.proofs.InOrder.{held_after_a_turn, knowledge_is_kept, later_is_behind, later_is_fresh}
use Rattle.fr_laws.proofs.InOrder.{none_holds_the_destination}
use Rattle.fr_laws.proofs.InTime.{calls_are_linearizable}
use Rattle.fr_laws.proofs.linear.linear_law.Goals as goal

pub returns-clause-time : goal.returns-clause-time
returns-clause-time c = calls_are_linearizable

pub returns-clause-kept : goal.returns-clause-kept
returns-clause-kept c = knowledge_is_kept

pub returns-clause-order : goal.returns-clause-order
returns-clause-order c = later_is_behind

pub returns-clause-fresh : goal.returns-clause-fresh
returns-clause-fresh c = later_is_fresh

pub returns-clause-held : goal.returns-clause-held
returns-clause-held c = held_after_a_turn

pub returns-clause-destination : goal.returns-clause-destination
returns-clause-destination c = none_holds_the_destination

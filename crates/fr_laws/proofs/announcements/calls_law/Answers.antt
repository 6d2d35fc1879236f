use Rattle.fr_laws.proofs.NodeCalls.{acting_is_a_call, hearing_is_a_call, knowing_is_a_call, links_stay_as_said}
use Rattle.fr_laws.proofs.NodeCalls.{repeating_is_a_call, saying_is_a_call, ticking_is_a_call, writing_is_a_call}
use Rattle.fr_laws.proofs.announcements.calls_law.Goals as goal

pub returns-clause-hear : goal.returns-clause-hear
returns-clause-hear c = hearing_is_a_call

pub returns-clause-act : goal.returns-clause-act
returns-clause-act c = acting_is_a_call

pub returns-clause-tick : goal.returns-clause-tick
returns-clause-tick c = ticking_is_a_call

pub returns-clause-as_said : goal.returns-clause-as_said
returns-clause-as_said c = links_stay_as_said

pub returns-clause-repeat : goal.returns-clause-repeat
returns-clause-repeat c = repeating_is_a_call

pub returns-clause-write : goal.returns-clause-write
returns-clause-write c = writing_is_a_call

pub returns-clause-say : goal.returns-clause-say
returns-clause-say c = saying_is_a_call

pub returns-clause-know : goal.returns-clause-know
returns-clause-know c = knowing_is_a_call

use Rattle.fr_node.proofs.Calls.{calls_stay_below}
use Rattle.fr_node.proofs.HeightExample.{some_routers_announce}
use Rattle.fr_node.proofs.Rests.{announcements_end, tests_lead_down}
use Rattle.fr_node.proofs.laws.ceiling_law.Goals as goal

pub returns-clause-rest : goal.returns-clause-rest
returns-clause-rest c = announcements_end

pub returns-clause-tests : goal.returns-clause-tests
returns-clause-tests c = tests_lead_down

pub returns-clause-possible : goal.returns-clause-possible
returns-clause-possible c = some_routers_announce

pub returns-clause-calls : goal.returns-clause-calls
returns-clause-calls c = calls_stay_below

use Rattle.fr_round.proofs.SameSteps.{exchange_same, look_begins_same, look_ends_same, neighbour_load_same}
use Rattle.fr_round.proofs.SameSteps.{own_load_same}
use Rattle.fr_round.proofs.laws.step_law.Goals as goal

pub returns-clause-own : goal.returns-clause-own
returns-clause-own c = own_load_same

pub returns-clause-neighbour : goal.returns-clause-neighbour
returns-clause-neighbour c = neighbour_load_same

pub returns-clause-exchange : goal.returns-clause-exchange
returns-clause-exchange c = exchange_same

pub returns-clause-look_begins : goal.returns-clause-look_begins
returns-clause-look_begins c = look_begins_same

pub returns-clause-look_ends : goal.returns-clause-look_ends
returns-clause-look_ends c = look_ends_same

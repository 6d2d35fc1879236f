use Rattle.fr_node.proofs.Calls.{calls_act_beside}
use Rattle.fr_node.proofs.Costs.{costs_stay}
use Rattle.fr_node.proofs.HeightExample.{some_height_comes_back}
use Rattle.fr_node.proofs.Heights.{same_height_is_bounded}
use Rattle.fr_node.proofs.laws.heights_law.Goals as goal

pub returns-clause-again : goal.returns-clause-again
returns-clause-again c = same_height_is_bounded

pub returns-clause-possible : goal.returns-clause-possible
returns-clause-possible c = some_height_comes_back

pub returns-clause-costs : goal.returns-clause-costs
returns-clause-costs c = costs_stay

pub returns-clause-calls : goal.returns-clause-calls
returns-clause-calls c = calls_act_beside

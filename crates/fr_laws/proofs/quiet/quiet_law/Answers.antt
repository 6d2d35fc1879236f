use Rattle.fr_laws.proofs.QuietEnds.{quiet_is_for_good, quiet_is_settled, settled_can_be_quiet}
use Rattle.fr_laws.proofs.QuietEnds.{quiet_round_is_settled, worker_knows_quiet}
use Rattle.fr_laws.proofs.quiet.quiet_law.Goals as goal

pub returns-clause-settled : goal.returns-clause-settled
returns-clause-settled c = quiet_is_settled

pub returns-clause-for_good : goal.returns-clause-for_good
returns-clause-for_good c = quiet_is_for_good

pub returns-clause-shown : goal.returns-clause-shown
returns-clause-shown c = settled_can_be_quiet

pub returns-clause-round : goal.returns-clause-round
returns-clause-round c = quiet_round_is_settled

pub returns-clause-worker : goal.returns-clause-worker
returns-clause-worker c = worker_knows_quiet

use Rattle.fr_logs.proofs.Ends.{logs_show_the_end}
use Rattle.fr_logs.proofs.Places.{each_has_place}
use Rattle.fr_logs.proofs.laws.logs_law.Goals as goal

pub returns-clause-place : goal.returns-clause-place
returns-clause-place c = each_has_place

pub returns-clause-end : goal.returns-clause-end
returns-clause-end c = logs_show_the_end

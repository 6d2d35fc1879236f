use Rattle.fr_command.proofs.Taking.{takes_on, takes_unique, each_taken, answer_stands, output_ends}
use Rattle.fr_command.proofs.laws.conversation_law.Goals as goal

pub returns-clause-exists : goal.returns-clause-exists
returns-clause-exists c = each_taken

pub returns-clause-unique : goal.returns-clause-unique
returns-clause-unique c = takes_unique

pub returns-clause-joins : goal.returns-clause-joins
returns-clause-joins c = takes_on

pub returns-clause-stands : goal.returns-clause-stands
returns-clause-stands c = answer_stands

pub returns-clause-ends : goal.returns-clause-ends
returns-clause-ends c = output_ends

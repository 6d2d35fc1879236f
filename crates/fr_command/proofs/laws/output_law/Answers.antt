use Rattle.fr_command.proofs.Determined.{each_output, output_unique, text_output}
use Rattle.fr_command.proofs.laws.output_law.Goals as goal

pub returns-clause-exists : goal.returns-clause-exists
returns-clause-exists c = each_output

pub returns-clause-unique : goal.returns-clause-unique
returns-clause-unique c = output_unique

pub returns-clause-text : goal.returns-clause-text
returns-clause-text c = text_output

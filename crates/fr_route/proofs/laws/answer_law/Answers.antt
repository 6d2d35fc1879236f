use Rattle.fr_route.proofs.AnsweredIn.{answer_in_unique}
use Rattle.fr_route.proofs.Determined.{answer_unique, line_unique}
use Rattle.fr_route.proofs.laws.answer_law.Goals as goal

pub returns-clause-request : goal.returns-clause-request
returns-clause-request c = answer_unique

pub returns-clause-line : goal.returns-clause-line
returns-clause-line c = line_unique

pub returns-clause-form : goal.returns-clause-form
returns-clause-form c = answer_in_unique

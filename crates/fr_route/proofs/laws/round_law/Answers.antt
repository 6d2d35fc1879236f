use Rattle.fr_route.proofs.Determined.{report_unique}
use Rattle.fr_route.proofs.RoundEnds.{round_acyclic, round_joined, round_unique}
use Rattle.fr_route.proofs.laws.round_law.Goals as goal

pub returns-clause-unique : goal.returns-clause-unique
returns-clause-unique c = round_unique

pub returns-clause-acyclic : goal.returns-clause-acyclic
returns-clause-acyclic c = round_acyclic

pub returns-clause-joined : goal.returns-clause-joined
returns-clause-joined c = λ n d first s x net below round. round_joined n d first s net below round x

pub returns-clause-report : goal.returns-clause-report
returns-clause-report c = report_unique

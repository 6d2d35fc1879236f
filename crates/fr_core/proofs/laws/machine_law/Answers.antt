use Rattle.fr_core.proofs.MachineParts.{parts_are_replies}
use Rattle.fr_core.proofs.MachineRuns.{machine_runs}
use Rattle.fr_core.proofs.laws.machine_law.Goals as goal

pub returns-clause-run : goal.returns-clause-run
returns-clause-run c = machine_runs

pub returns-clause-parts : goal.returns-clause-parts
returns-clause-parts c = parts_are_replies

use Rattle.fr_core.proofs.FirstBad.{bad_is_no_run, one_bad, run_or_bad}
use Rattle.fr_core.proofs.laws.check_law.Goals as goal

pub returns-clause-excludes : goal.returns-clause-excludes
returns-clause-excludes c = bad_is_no_run

pub returns-clause-either : goal.returns-clause-either
returns-clause-either c = run_or_bad

pub returns-clause-one : goal.returns-clause-one
returns-clause-one c = one_bad

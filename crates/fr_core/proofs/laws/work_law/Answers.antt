use Rattle.fr_core.proofs.Chains.{chain_meets}
use Rattle.fr_core.proofs.Totals.{all_counted, connected_few, each_few, level_below, run_few}
use Rattle.fr_core.proofs.laws.work_law.Goals as goal

pub returns-clause-counted : goal.returns-clause-counted
returns-clause-counted c = all_counted

pub returns-clause-levels : goal.returns-clause-levels
returns-clause-levels c = λ n d first counts x k net below settled. level_below n d first net below counts settled x k

pub returns-clause-each : goal.returns-clause-each
returns-clause-each c = λ n d first counts b k x net below are settled.
    each_few n d first net below counts settled b k are x

pub returns-clause-turns : goal.returns-clause-turns
returns-clause-turns c = λ n d first counts h b k net below. run_few n d first net below counts h b k

pub returns-clause-connected : goal.returns-clause-connected
returns-clause-connected c = connected_few

pub returns-clause-tight : goal.returns-clause-tight
returns-clause-tight c = chain_meets

use Rattle.fr_node.proofs.Daemons.{daemons_have_no_loop}
use Rattle.fr_node.proofs.Tables.{tables_have_no_loop}
use Rattle.fr_node.proofs.TablesExample.{some_tables_let_through}
use Rattle.fr_node.proofs.laws.tables_law.Goals as goal

pub returns-clause-safe : goal.returns-clause-safe
returns-clause-safe c = tables_have_no_loop

pub returns-clause-possible : goal.returns-clause-possible
returns-clause-possible c = some_tables_let_through

pub returns-clause-calls : goal.returns-clause-calls
returns-clause-calls c = daemons_have_no_loop

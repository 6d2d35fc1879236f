use Rattle.fr_tables.proofs.Orders.{beginning_closed, between_closed, ends_as_new, groups_closed, order_unique}
use Rattle.fr_tables.proofs.Existing.{order_exists}
use Rattle.fr_tables.proofs.laws.push_order_law.Goals as goal

pub returns-clause-beginnings : goal.returns-clause-beginnings
returns-clause-beginnings c = beginning_closed

pub returns-clause-groups : goal.returns-clause-groups
returns-clause-groups c = groups_closed

pub returns-clause-between : goal.returns-clause-between
returns-clause-between c = between_closed

pub returns-clause-whole : goal.returns-clause-whole
returns-clause-whole c = ends_as_new

pub returns-clause-unique : goal.returns-clause-unique
returns-clause-unique c = order_unique

pub returns-clause-exists : goal.returns-clause-exists
returns-clause-exists c = order_exists

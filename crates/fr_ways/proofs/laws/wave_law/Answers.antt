use Rattle.fr_ways.proofs.Orders.{beginning_closed, ends_as_new, next_mixed, order_unique, wave_ready, waves_closed}
use Rattle.fr_ways.proofs.Existing.{order_exists}
use Rattle.fr_ways.proofs.laws.wave_law.Goals as goal

pub returns-clause-beginnings : goal.returns-clause-beginnings
returns-clause-beginnings c = beginning_closed

pub returns-clause-waves : goal.returns-clause-waves
returns-clause-waves c = waves_closed

pub returns-clause-mixed : goal.returns-clause-mixed
returns-clause-mixed c = next_mixed

pub returns-clause-wave_ready : goal.returns-clause-wave_ready
returns-clause-wave_ready c = wave_ready

pub returns-clause-whole : goal.returns-clause-whole
returns-clause-whole c = ends_as_new

pub returns-clause-unique : goal.returns-clause-unique
returns-clause-unique c = order_unique

pub returns-clause-exists : goal.returns-clause-exists
returns-clause-exists c = order_exists

use Rattle.fr_laws.proofs.AnnouncementRuns.{all_announce_few, announcements_are_a_run, each_announces_few}
use Rattle.fr_laws.proofs.AnnouncementRuns.{heights_follow, turns_are_announcements}
use Rattle.fr_laws.proofs.QuietRouters.{quiet_routers_are_settled}
use Rattle.fr_laws.proofs.TwoRouters.{some_router_announces}
use Rattle.fr_laws.proofs.announcements.announcements_law.Goals as goal

pub returns-clause-run : goal.returns-clause-run
returns-clause-run c = announcements_are_a_run

pub returns-clause-heights : goal.returns-clause-heights
returns-clause-heights c = heights_follow

pub returns-clause-turns : goal.returns-clause-turns
returns-clause-turns c = turns_are_announcements

pub returns-clause-each : goal.returns-clause-each
returns-clause-each c = each_announces_few

pub returns-clause-all : goal.returns-clause-all
returns-clause-all c = all_announce_few

pub returns-clause-settled : goal.returns-clause-settled
returns-clause-settled c = quiet_routers_are_settled

pub returns-clause-possible : goal.returns-clause-possible
returns-clause-possible c = some_router_announces

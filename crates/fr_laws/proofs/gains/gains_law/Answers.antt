use Rattle.fr_laws.proofs.Gaining.{add_grows, cut_grows, join_grows, still_leads_home}
use Rattle.fr_laws.proofs.gains.gains_law.Goals as goal

pub returns-clause-cut : goal.returns-clause-cut
returns-clause-cut c = cut_grows

pub returns-clause-added : goal.returns-clause-added
returns-clause-added c = add_grows

pub returns-clause-joined : goal.returns-clause-joined
returns-clause-joined c = join_grows

pub returns-clause-home : goal.returns-clause-home
returns-clause-home c = still_leads_home

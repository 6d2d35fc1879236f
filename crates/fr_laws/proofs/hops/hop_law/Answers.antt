use Rattle.fr_laws.proofs.HopsAlong.{round_never_loops, run_never_loops, some_loop_over_time}
use Rattle.fr_laws.proofs.HopsRead.{quiet_hops_lead_home, replies_never_loop}
use Rattle.fr_laws.proofs.hops.hop_law.Goals as goal

pub returns-clause-round : goal.returns-clause-round
returns-clause-round c = round_never_loops

pub returns-clause-run : goal.returns-clause-run
returns-clause-run c = run_never_loops

pub returns-clause-one_moment : goal.returns-clause-one_moment
returns-clause-one_moment c = some_loop_over_time

pub returns-clause-replies : goal.returns-clause-replies
returns-clause-replies c = replies_never_loop

pub returns-clause-home : goal.returns-clause-home
returns-clause-home c = quiet_hops_lead_home

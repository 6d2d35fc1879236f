use Rattle.std.proofs.Common.{subst}
use Rattle.fr_graph.proofs.Acyclic.{links_at_acyclic}
use Rattle.fr_graph.specs.Counts.{links_at}
use Rattle.fr_graph.specs.Links.{IsAcyclic}
use Rattle.fr_core.proofs.Stepping.{come_run}
use Rattle.fr_core.specs.Played.{MachineView}
use Rattle.fr_core.proofs.machine.Machine.counts.Goals as goal

pub returns-clause-acyclic : goal.returns-clause-acyclic
returns-clause-acyclic c = subst (λ (m : MachineView). IsAcyclic (links_at m.links m.state.counts)) c.self.view_is
    (links_at_acyclic c.self.inside.net.now.links c.self.inside.counts.items c.self.invariant.net.acyclic)

pub returns-clause-run : goal.returns-clause-run
returns-clause-run c = λ targets entries come. come_run c.args.self.now targets entries come

use Rattle.std.proofs.Common.{[], arith, subst, sym}
use Rattle.fr_core.proofs.Stepping.{come_start}
use Rattle.fr_core.specs.Played.{HasCome, MachineView}
use Rattle.fr_core.specs.Targets.{lists_of}
use Rattle.fr_core.proofs.machine.Machine.new.Goals as goal

pub returns-clause-come : goal.returns-clause-come
returns-clause-come c =
    let net = c.args.net.now in
    let targets = lists_of c.args.targets.items in
    subst (λ (m : MachineView). HasCome m targets []) (sym c.in_ok-start.ensures)
    (come_start net.nodes c.args.dest net.links targets c.nodes.ensures.faultless.is_net
    (omega (arith, c.if-dest-nodes.false, c.nodes.ensures.value))
    (rw (← c.deref.ensures.value) c.in_default.ensures.none))

use Rattle.std.proofs.Common.{◌∙◌, arith, sym, subst}
use Rattle.fr_core.specs.Sound.{IsPhaseInside}
use Rattle.fr_core.proofs.worker.Worker.step.Goals as goal

pub exchange_own_count-requires-clause-below_cap : goal.exchange_own_count-requires-clause-below_cap
exchange_own_count-requires-clause-below_cap c =
    let net = c.args.net.now in
    let phase =
    subst (IsPhaseInside net.nodes net.links) (sym c.phase.ensures ∙ c.in-Swapping.is) c.requires.can.phase in
    omega (arith, phase.1)

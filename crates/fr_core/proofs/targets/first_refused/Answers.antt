use Rattle.std.proofs.Common.{arith, sym, take_all, ◌∙◌, subst}
use Rattle.std.proofs.lemmas.Bool.{false≢true}
use Rattle.std.proofs.lemmas.List.Elements.{All-more}
use Rattle.fr_core.specs.Targets.{AreAccepted, IsTargetRefused}
use Rattle.fr_core.specs.declared.targets.Target.{Target}
use Rattle.fr_core.specs.declared.targets.Target.TheVariants.{Turn}
use Rattle.fr_core.proofs.targets.first_refused.Goals as goal

pub loop-at-preserved : goal.loop-at-preserved
loop-at-preserved c =
    let net = c.args.net.now in
    All-more (λ (t : Target). ¬ IsTargetRefused net.nodes c.args.dest net.links t) c.args.targets.now c.loop-at.at
    (Turn 0) (omega arith) c.loop-at.invariant
    (λ refused. false≢true (sym c.if-is_refused.false ∙ c.is_refused.ensures.1 refused))

pub returns-clause-none : goal.returns-clause-none
returns-clause-none c =
    let net = c.args.net.now in
    subst (AreAccepted net.nodes c.args.dest net.links) (take_all c.loop-at.at c.args.targets.now (omega arith))
    c.loop-at.invariant

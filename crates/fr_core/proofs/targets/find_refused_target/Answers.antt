use Rattle.std.proofs.Common.{Global, Vec, [], ap, arith, get_or, subst, sym, take_all, ◌∙◌, ◌≡◌}
use Rattle.std.proofs.lemmas.List.{get_or-map, length-map}
use Rattle.std.proofs.lemmas.List.Elements.{All-more}
use Rattle.fr_core.specs.Targets.{AreAllAccepted, AreAccepted, lists_of}
use Rattle.fr_core.specs.declared.targets.Target.{Target}
use Rattle.fr_core.proofs.targets.find_refused_target.Goals as goal

pub loop-worker-preserved : goal.loop-worker-preserved
loop-worker-preserved c =
    let net = c.args.net.now in
    let at = c.loop-worker.worker in
    let here : get_or (lists_of c.args.targets.now) at [] ≡ c.deref.result.now =
    get_or-map (λ (v : Vec Target Global). v.items) c.args.targets.now at c.index-targets-worker.result [] (omega arith)
    ∙ ap (λ (v : Vec Target Global). v.items) (sym c.index-targets-worker.is) ∙ sym c.deref.ensures.value in
    let long = length-map c.args.targets.now (λ (v : Vec Target Global). v.items) in
    All-more (AreAccepted net.nodes c.args.dest net.links) (lists_of c.args.targets.now) at [] (omega (arith, long))
    c.loop-worker.invariant
    (subst (AreAccepted net.nodes c.args.dest net.links) (sym here) c.in_default.ensures.none)

pub returns-clause-none : goal.returns-clause-none
returns-clause-none c =
    let net = c.args.net.now in
    let long = length-map c.args.targets.now (λ (v : Vec Target Global). v.items) in
    subst (AreAllAccepted net.nodes c.args.dest net.links)
    (take_all c.loop-worker.worker (lists_of c.args.targets.now) (omega (arith, long))) c.loop-worker.invariant

use Rattle.std.proofs.Common.{Global, List, Vec, [], ap, replicate, rules, sym, ◌++◌, ◌∙◌, ◌∷◌, ◌≡◌, map}
use Rattle.std.proofs.lemmas.List.{append-nil, nil_from_length}
use Rattle.std.specs.Vec.Iter.{into_iter_items}
use Rattle.fr_core.proofs.MachineRuns.{begun_sound, one_more}
use Rattle.fr_core.specs.Machine.{WorkerState, fresh}
use Rattle.fr_core.specs.Targets.{lists_of}
use Rattle.fr_core.specs.declared.targets.Target.{Target}
use Rattle.fr_core.proofs.machine.Machine.start.Goals as goal

pub loop-list-preserved : goal.loop-list-preserved
loop-list-preserved c =
    let steps = c.in-Some.ensures.steps in
    let rest : List (Vec Target Global) = into_iter_items c.next.new.self in
    one_more c.loop-list.workers.items c.push.new.self.items c.new.result (map fresh (lists_of rest))
    (map fresh (lists_of (into_iter_items c.loop-list.list-iterator))) (map fresh (lists_of c.args.targets.items))
    c.in_ok-push.ensures.items
    (ap (λ (vs : List (Vec Target Global)). map fresh (lists_of vs)) steps.0
    ∙ ap (λ (w : WorkerState). w ∷ map fresh (lists_of rest)) (sym c.new.ensures))
    c.loop-list.invariant

pub invariant_of-result : goal.invariant_of-result
invariant_of-result c =
    let net = c.args.net.now in
    let gone : into_iter_items c.loop-list.list-iterator ≡ [] = let steps = c.in-None.ensures.steps in
    nil_from_length (into_iter_items c.loop-list.list-iterator) (let l = steps.0 in search rules) in
    let done : c.loop-list.workers.items ≡ map fresh (lists_of c.args.targets.items) =
    sym (append-nil c.loop-list.workers.items)
    ∙ (ap (λ (vs : List (Vec Target Global)). c.loop-list.workers.items ++ map fresh (lists_of vs)) (sym gone)
    ∙ c.loop-list.invariant) in
    let zeros : c.in_ok-counts.counts.items ≡ replicate net.nodes 0 = search rules in
    begun_sound net.nodes c.args.dest net.links (lists_of c.args.targets.items)
    c.in_ok-counts.counts.items c.loop-list.workers.items c.nodes.ensures.faultless.is_net c.requires zeros done

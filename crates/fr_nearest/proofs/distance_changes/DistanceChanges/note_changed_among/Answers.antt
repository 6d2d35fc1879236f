use Rattle.std.proofs.Common.{arith, subst, List, ℕ, ◌∙◌}
use Rattle.std.proofs.lemmas.List.{take_all}
use Rattle.fr_nearest.proofs.NotedNodes.{HasNoted, all_noted, noted_more}
use Rattle.fr_nearest.proofs.distance_changes.DistanceChanges.note_changed_among.Goals as goal

pub loop-x-preserved : goal.loop-x-preserved
loop-x-preserved c =
    let inv = c.loop-x.invariant in
    let one = c.note_if_changed.ensures in
    record {
      before = one.same_before ∙ inv.before;
      noted = one.noted inv.noted;
      few = omega (arith, one.length_at_most, inv.few);
      has = noted_more c.args.nodes.now c.loop-x.x-index c.loop-x-test.true one inv.has;
    }

pub returns-clause-noted : goal.returns-clause-noted
returns-clause-noted c =
    let inv = c.loop-x.invariant in
    let has : HasNoted c.args.distances.now c.loop-x.self c.args.nodes.now =
    subst (λ (xs : List ℕ). HasNoted c.args.distances.now c.loop-x.self xs)
    (take_all c.loop-x.x-index c.args.nodes.now (omega (arith, c.loop-x-test.false))) inv.has in
    all_noted c.args.nodes.now c.requires.noted.1 inv.before c.requires.noted.3 inv.noted has

use Rattle.std.proofs.Common.{List, arith, get_or, subst, sym, ℕ, ⊎_elim, ◌+◌, ◌<◌, ◌∙◌, ◌≡◌}
use Rattle.std.proofs.lemmas.Bool.{cases_eq}
use Rattle.std.proofs.lemmas.List.{get_or_default}
use Rattle.fr_route.specs.Outcomes.{state_after}
use Rattle.fr_route.specs.States.{State}
use Rattle.fr_route.proofs.ChangedHops.{notes_none, notes_then}
use Rattle.fr_route.proofs.Renewing.{renewed_as, renewed_none, renewed_then}
use Rattle.fr_route.proofs.hops.renew_listed.Goals as goal

pub loop-x-init : goal.loop-x-init
loop-x-init c =
    let s : State = state_after c.args.round.now in
    record {
      renewed = renewed_none s c.args.hops.now _ (λ y hop j low. absurd (omega arith));
      noted = notes_none s c.args.hops.now c.args.told.now;
    }

pub loop-x-preserved : goal.loop-x-preserved
loop-x-preserved c =
    let s : State = state_after c.args.round.now in
    let moved : List ℕ = c.args.moved.now in
    let k = c.loop-x.x-index in
    record {
      renewed = renewed_then s c.args.hops.now c.loop-x.hops c.renew_hop.new.hops (λ y hop. (j : ℕ) → j < k
          → ¬ (get_or moved j y ≡ y)) (λ y hop. ¬ (y ≡ get_or moved k 0)) (λ y hop. (j : ℕ) → j < k + 1
          → ¬ (get_or moved j y ≡ y))
          c.loop-x.invariant.renewed c.renew_hop.ensures.renewed
          (λ y hop before apart j low at. ⊎_elim
          (λ e. apart (sym (get_or_default moved k 0 y c.loop-x-test.true
          ∙ subst (λ (i : ℕ). get_or moved i y ≡ y) e at)))
          (λ other. before j (omega arith) at)
          (cases_eq j k));
      noted = notes_then s c.args.hops.now c.loop-x.hops c.renew_hop.new.hops c.args.told.now c.loop-x.told
          c.renew_hop.new.told c.loop-x.auto.hops c.loop-x.invariant.noted c.renew_hop.ensures.noted;
    }

pub returns-clause-renewed : goal.returns-clause-renewed
returns-clause-renewed c =
    let s : State = state_after c.args.round.now in
    let moved : List ℕ = c.args.moved.now in
    renewed_as s c.args.hops.now c.loop-x.hops (λ y hop. (j : ℕ) → j < c.loop-x.x-index
    → ¬ (get_or moved j y ≡ y)) _ c.loop-x.invariant.renewed
    (λ y hop none (j, low, at). none j (omega (arith, low, c.loop-x-test.false)) at)

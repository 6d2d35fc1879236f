use Rattle.std.proofs.Common.{arith, get_or, inl, inr, refl, subst, sym, ℕ, ◌∙◌, ◌≡◌}
use Rattle.std.proofs.lemmas.Bool.{cases_lt, false≢true}
use Rattle.std.proofs.lemmas.List.{get_or_default}
use Rattle.fr_core.specs.History.{moment_of}
use Rattle.fr_core.specs.Legal.{CanTurn}
use Rattle.fr_route.proofs.outcome.any_can_turn.Goals as goal

pub returns-then-can_turn : goal.returns-then-can_turn
returns-then-can_turn c =
    let k : ℕ = c.loop-x.x-index in
    let x : ℕ = get_or c.args.among.now k 0 in (
      λ t. (
        k,
        x,
        c.loop-x-test.true,
        sym (get_or_default c.args.among.now k 0 x c.loop-x-test.true),
        c.can_turn.ensures.0 c.if-can_turn.true,
      ),
      λ some. refl,
    )

pub loop-x-preserved : goal.loop-x-preserved
loop-x-preserved c = λ i less can.
    let k : ℕ = c.loop-x.x-index in
    elim (cases_lt i k) [
      | inl before ↦ c.loop-x.invariant i before can
      | inr ge ↦
          let e : i ≡ k = omega (arith, less, ge) in
          absurd (cc (
            c.can_turn.ensures.1
                (subst (λ (j : ℕ). CanTurn c.args.net.now.nodes c.args.dest
                (moment_of c.args.net.now.links c.args.counts.now)
                (get_or c.args.among.now j 0)) e can),
            c.if-can_turn.false,
          ))
    ]

pub returns : goal.returns
returns c = (
  λ t. absurd (false≢true t),
  λ (k, x, low, at, can).
      let here : get_or c.args.among.now k 0 ≡ x = get_or_default c.args.among.now k 0 x low ∙ at in
      absurd (c.loop-x.invariant k (omega (arith, low, c.loop-x-test.false))
      (subst (CanTurn c.args.net.now.nodes c.args.dest (moment_of c.args.net.now.links c.args.counts.now)) (sym here)
      can)),
)

use Rattle.std.proofs.Common.{arith, get_or, get_or-set_other, get_or-set_same, inl, inr, length, length-set, sym, ℕ}
use Rattle.std.proofs.Common.{◌*◌, ◌+◌, ◌<◌, ◌∙◌, ◌≤◌}
use Rattle.std.proofs.Math.Nat.{mul-le-mul_right}
use Rattle.std.proofs.lemmas.Bool.{cases_eq}
use Rattle.std.proofs.lemmas.List.{get_or_default}
use Rattle.fr_graph.proofs.heights.put_above_base.Goals as goal

pub loop-x-preserved : goal.loop-x-preserved
loop-x-preserved c =
    let nodes = c.args.nodes.now in
    let of = c.loop-x.of in
    let i = c.loop-x.x-index in
    let x : ℕ = get_or nodes i 0 in
    let before = c.loop-x.invariant in
    let inside : x < length of = omega (arith, c.requires.nodes i 0 c.loop-x-test.true, before.one_each) in
    record {
      one_each = length-set of x _ ∙ before.one_each;
      height = omega (arith, before.height);
      lifted = λ y. elim (cases_eq y x) [
        | inl same ↦ inl (
          i,
          omega arith,
          sym same,
          rw same (get_or-set_same of x _ 0 inside ∙ omega (arith, before.height)),
        )
        | inr apart ↦
            let stays = get_or-set_other of x y _ 0 apart in
            elim (before.lifted y) [
              | inl h ↦ inl (h.0, omega (arith, h.1), h.2, stays ∙ h.3)
              | inr h ↦ inr (
                λ j lt. elim (cases_eq j i) [
                  | inl last ↦ rw last (λ same. apart (sym same))
                  | inr other ↦ h.0 j
                      (omega (arith, lt, other))
                ],
                stays ∙ h.1,
              )
            ]
      ];
    }

pub overflow_add-height : goal.overflow_add-height
overflow_add-height c =
    let nodes = c.args.nodes.now in
    let i = c.loop-x.x-index in
    let place : i + 1 ≤ (get_or c.args.counts.now (get_or nodes i 0) 0 + 1) * length nodes =
    omega (arith, c.loop-x-test.true) in
    omega (arith, mul-le-mul_right c.args.step place, c.requires.room i 0 c.loop-x-test.true, c.loop-x.invariant.height)

pub returns-clause-lifted : goal.returns-clause-lifted
returns-clause-lifted c x =
    let nodes = c.args.nodes.now in
    elim (c.loop-x.invariant.lifted x) [
      | inl h ↦ inl (h.0, omega (arith, h.1), h.2, h.3)
      | inr h ↦ inr (
        (λ d. let l : d.0
            < c.loop-x.x-index = omega (arith, d.1) in h.0 d.0 l (get_or_default nodes d.0 0 x d.1 ∙ d.2)),
        h.1,
      )
    ]

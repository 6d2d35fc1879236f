use Rattle.std.proofs.Common.{[], arith, inl, inr, refl, subst, ℕ, ◌++◌, ◌∷◌, ◌≡◌}
use Rattle.fr_core.specs.History.{moment_of}
use Rattle.fr_core.specs.Legal.{CanTurn}
use Rattle.std.proofs.lemmas.Bool.{cases_lt}
use Rattle.std.proofs.lemmas.List.{length_push}
use Rattle.fr_core.proofs.Turning.{can_turn_below}
use Rattle.fr_core.proofs.Worklists.{nodes_push, queued_last, queued_push}
use Rattle.fr_core.specs.Reaching.{IsQueued}
use Rattle.fr_core.proofs.worklist.add_sinks.Goals as goal
use Rattle.fr_core.proofs.worklist.add_sinks.Goals.{else-can_turn, then-can_turn}

pub loop-x-preserved : goal.loop-x-preserved
loop-x-preserved c =
    let i = c.loop-x.invariant in
    let x : ℕ = c.loop-x.x in
    elim c.if-can_turn.branch [
      | then-can_turn w ↦ rw (w.work-is, w.push.ensures) (record {
        few = omega (arith, length_push c.loop-x.work x, i.few);
        nodes = nodes_push c.args.net.now.nodes c.loop-x.work x (omega arith) i.nodes;
        all = λ y below can. elim (cases_lt y x) [
          | inl less ↦ queued_push c.loop-x.work x y (i.all y less can)
          | inr ge ↦
              let e : x ≡ y = omega (arith, below, ge) in
              subst (λ (z : ℕ). IsQueued (c.loop-x.work ++ x ∷ []) z) e (queued_last c.loop-x.work x)
        ];
      })
      | else-can_turn w ↦ rw w.work-is (record {
        few = omega arith;
        nodes = i.nodes;
        all = λ y below can. elim (cases_lt y x) [
          | inl less ↦ i.all y less can
          | inr ge ↦
              let e : y ≡ x = omega (arith, below, ge) in
              absurd (cc (
                c.can_turn.ensures.1
                    (subst (CanTurn c.args.net.now.nodes c.args.dest
                    (moment_of c.args.net.now.links c.args.counts.now)) e can),
                w.if-can_turn.false,
              ))
        ];
      })
    ]

pub returns : goal.returns
returns c =
    let net = c.args.net.now in
    let inv = c.loop-x.invariant in
    record {
      nodes = inv.nodes;
      all = λ x can.
          let below = can_turn_below net.nodes c.args.dest net.links c.nodes-x-end.ensures.faultless.is_net
          (moment_of net.links c.args.counts.now) refl x can in
          let q = inv.all x (omega (arith, below)) can in
          (q.0, omega arith, q.1, q.2);
    }

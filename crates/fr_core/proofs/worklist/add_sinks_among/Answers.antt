use Rattle.std.proofs.Common.{[], arith, inl, inr, length, slice_index, subst, ℕ, ◌++◌, ◌<◌, ◌∷◌, ◌≡◌}
use Rattle.std.proofs.lemmas.Bool.{cases_lt}
use Rattle.std.proofs.lemmas.List.Elements.{All-contains, All-from_get_or, All-get_or}
use Rattle.fr_core.proofs.Worklists.{nodes_push, queued_last, queued_push}
use Rattle.fr_core.specs.History.{moment_of}
use Rattle.fr_core.specs.Legal.{CanTurn}
use Rattle.fr_core.specs.Reaching.{IsQueued}
use Rattle.fr_core.proofs.worklist.add_sinks_among.Goals as goal
use Rattle.fr_core.proofs.worklist.add_sinks_among.Goals.{else-can_turn, then-can_turn+else-not-has_room}

pub loop-x-preserved : goal.loop-x-preserved
loop-x-preserved g c =
    let l = c.loop-x.invariant in
    let from = c.args.from.now in
    let at : ℕ = c.loop-x.x-index in
    let x : ℕ = slice_index from at in
    let work = c.loop-x.work in
    let below : at < length from = omega arith in
    elim c.if-can_turn.branch [
      | then-can_turn+else-not-has_room w ↦ rw (w.work-is, w.push.ensures) (record {
        nodes =
            nodes_push c.args.net.now.nodes work x (All-get_or (λ (y : ℕ). y
            < c.args.net.now.nodes) from at 0 below c.requires.from.nodes) l.nodes;
        all = λ i less can. elim (cases_lt i at) [
          | inl before ↦ queued_push work x (slice_index from i) (l.all i before can)
          | inr ge ↦
              let e : at ≡ i = omega (arith, less, ge) in
              subst (λ (k : ℕ). IsQueued (work ++ x ∷ []) (slice_index from k)) e (queued_last work x)
        ];
      })
      | else-can_turn w ↦ rw w.work-is (record {
        nodes = l.nodes;
        all = λ i less can. elim (cases_lt i at) [
          | inl before ↦ l.all i before can
          | inr ge ↦
              let e : i ≡ at = omega (arith, less, ge) in
              absurd (cc (
                c.can_turn.ensures.1
                    (subst (λ (k : ℕ). CanTurn c.args.net.now.nodes c.args.dest
                    (moment_of c.args.net.now.links c.args.counts.now) (slice_index from k)) e can),
                w.if-can_turn.false,
              ))
        ];
      })
    ]

pub returns : goal.returns
returns g c = λ _.
    let net = c.args.net.now in
    let from = c.args.from.now in
    let work = c.loop-x.work in
    let each = All-from_get_or (λ (y : ℕ). CanTurn net.nodes c.args.dest (moment_of net.links c.args.counts.now) y
    → IsQueued work y) from 0 (λ i below. c.loop-x.invariant.all i (omega (arith, below))) in
    record {
      nodes = c.loop-x.invariant.nodes;
      all = λ x can.
          let q = All-contains (λ (y : ℕ). CanTurn net.nodes c.args.dest (moment_of net.links c.args.counts.now) y
          → IsQueued work y) from x each (c.requires.from.all x can) can in
          (q.0, omega arith, q.1, q.2);
    }

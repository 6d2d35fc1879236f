use Rattle.std.proofs.Common.{arith, ap, get_or, take, ℕ, ◌∙◌, ◌≡◌}
use Rattle.std.proofs.lemmas.List.{take_more}
use Rattle.fr_tables.specs.Inside.{mark_of, routed_wave}
use Rattle.fr_tables.proofs.Listing.{last_kept, last_raised}
use Rattle.fr_tables.proofs.push_room.last_routed.Goals as goal
use Rattle.fr_tables.proofs.push_room.last_routed.Goals.{then-wave-last, else-wave-last}

pub loop-x-preserved : goal.loop-x-preserved
loop-x-preserved c =
    let marks = c.args.marks.now in
    let changed = c.args.changed.now in
    let i : ℕ = c.loop-x.x-index in
    let x : ℕ = get_or changed i 0 in
    let next : ℕ = c.if-wave-last.last in
    let is : c.routed_wave-wave.result ≡ routed_wave (mark_of marks x) =
    c.routed_wave-wave.ensures ∙ ap routed_wave c.mark_at.ensures in
    rw (take_more changed i 0 c.loop-x-test.true) (elim c.if-wave-last.branch [
      | then-wave-last w ↦ last_raised marks (take i changed) x c.loop-x.last next c.loop-x.invariant
          (omega (arith, is, w.if-wave-last.true)) (omega (arith, is, w.last-is))
      | else-wave-last w ↦ last_kept marks (take i changed) x c.loop-x.last next c.loop-x.invariant
          (omega (arith, is, w.if-wave-last.false)) (omega (arith, w.last-is))
    ])

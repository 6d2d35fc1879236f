use Rattle.std.proofs.Common.{List, subst, [], ap, arith, get_or, length, ℕ, ◌++◌, ◌<◌, ◌∷◌, ◌≡◌}
use Rattle.std.proofs.lemmas.List.{length_push}
use Rattle.fr_tables.specs.Rounds.{seen}
use Rattle.fr_tables.specs.declared.loops.Mark.TheVariants.{Unmet}
use Rattle.fr_tables.proofs.Rounds.{met_before, pushed_short, traced_back, traced_end, traced_met, tracing_none}
use Rattle.fr_tables.proofs.Rounds.{tracing_push}
use Rattle.fr_tables.proofs.Walks.{sends_none, sends_read}
use Rattle.fr_tables.proofs.loops.list_walk.Goals as goal

pub loop-marks-init : goal.loop-marks-init
loop-marks-init c = rw c.clear.ensures.items (record {
  room = omega (arith, c.requires.room, c.clear.ensures.capacity);
  tracing = tracing_none c.args.table.now c.args.marks.now c.args.x c.requires.decided c.requires.node;
})

pub returns-in-OnWalk-clause-traced : goal.returns-in-OnWalk-clause-traced
returns-in-OnWalk-clause-traced c =
    let walk = c.loop-marks.walk.items in
    let at : ℕ = c.loop-marks.at in
    let k : ℕ = c.index_of.result in
    let found : (k < length walk) × (get_or walk k 0 ≡ at) =
    subst (λ (ws : List ℕ). (k < length ws) × (get_or ws k 0 ≡ at)) c.deref.ensures.value c.index_of.ensures in
    traced_back c.args.table.now c.args.marks.now c.loop-marks.marks walk c.args.x at c.loop-marks.invariant.tracing
    c.requires.decided k found.0 found.1

pub returns-in-OnLoop-clause-traced : goal.returns-in-OnLoop-clause-traced
returns-in-OnLoop-clause-traced c =
    let before = c.args.marks.now in
    let walk = c.loop-marks.walk.items in
    let at : ℕ = c.loop-marks.at in
    let tracing = c.loop-marks.invariant.tracing in
    let met : ¬ (seen before at ≡ Unmet) =
    met_before c.args.table.now before c.loop-marks.marks walk tracing.held at c.in-OnLoop.is in
    let long : c.len.result ≡ length walk = omega (arith, c.len.ensures) in
    rw long (traced_met c.args.table.now before c.loop-marks.marks walk c.args.x at tracing c.requires.decided met)

pub push_reserved-requires : goal.push_reserved-requires
push_reserved-requires c =
    let before = c.loop-marks.invariant in
    omega (
      arith,
      before.room,
      pushed_short c.args.table.now c.args.marks.now c.loop-marks.marks c.loop-marks.walk.items before.tracing.held
          c.loop-marks.at before.tracing.low c.in-Unmet.is,
    )

pub loop-marks-smaller : goal.loop-marks-smaller
loop-marks-smaller c =
    let walk = c.loop-marks.walk.items in
    let at : ℕ = c.loop-marks.at in
    let tracing = c.loop-marks.invariant.tracing in
    let items : c.push_reserved.new.self.items ≡ walk ++ at ∷ [] = c.push_reserved.ensures.items in
    omega (
      arith,
      ap length items,
      length_push walk at,
      pushed_short c.args.table.now c.args.marks.now c.loop-marks.marks walk tracing.held at tracing.low c.in-Unmet.is,
    )

pub loop-marks-preserved : goal.loop-marks-preserved
loop-marks-preserved c =
    let table = c.args.table.now in
    let at : ℕ = c.loop-marks.at in
    let next : ℕ = c.in-To.next in
    let before = c.loop-marks.invariant in
    rw c.push_reserved.ensures.items (record {
      room = omega (arith, before.room, c.push_reserved.ensures.capacity);
      tracing =
          tracing_push table c.args.marks.now c.loop-marks.marks c.loop-marks.walk.items c.args.x at before.tracing
          c.requires.decided next
          c.in-Unmet.is (sends_read table at next c.in-To.is);
    })

pub returns-in-Here : goal.returns-in-Here
returns-in-Here c =
    let table = c.args.table.now in
    let walk = c.loop-marks.walk.items in
    let at : ℕ = c.loop-marks.at in
    let before = c.loop-marks.invariant in
    let items : c.push_reserved.new.self.items ≡ walk ++ at ∷ [] = c.push_reserved.ensures.items in
    let long : c.len-in-Here.result ≡ length (walk ++ at ∷ []) =
    omega (arith, c.len-in-Here.ensures, ap length items) in
    record {
      traced =
          rw (long, items) (traced_end table c.args.marks.now c.loop-marks.marks walk c.args.x at before.tracing
          c.requires.decided
          c.in-Unmet.is (sends_none table at c.in-Here.is));
      room = omega (arith, before.room, c.push_reserved.ensures.capacity);
    }

use Rattle.std.proofs.Common.{arith, inl, inr, subst, ℕ}
use Rattle.std.proofs.lemmas.Bool.{cases_eq, cases_lt}
use Rattle.fr_tables.specs.Tables.{IsOnLoop}
use Rattle.fr_tables.proofs.Rounds.{free_from_none, off_loop}
use Rattle.fr_tables.proofs.loops.lowest_on_loop.Goals as goal

pub returns-in-OnLoop-clause-lowest : goal.returns-in-OnLoop-clause-lowest
returns-in-OnLoop-clause-lowest c = (
  c.loop-x-test.true,
  c.mark_walk.ensures.decided.on c.loop-x.x c.in-OnLoop.is,
  λ y on. elim (cases_lt y c.loop-x.x) [
    | inl lt ↦ absurd (c.loop-x.invariant.none y lt on)
    | inr ge ↦ ge
  ],
)

pub loop-x-preserved : goal.loop-x-preserved
loop-x-preserved c =
    let table = c.args.table.now in
    let x : ℕ = c.loop-x.x in
    let after = c.mark_walk.ensures in
    record {
      decided = after.decided;
      room = after.room;
      none = λ y low on. elim (cases_eq y x) [
        | inl e ↦ off_loop table c.mark_walk.new.marks x after.decided after.met c.in_default.not-OnLoop
            (subst (IsOnLoop table) e on)
        | inr apart ↦ c.loop-x.invariant.none y (omega (arith, low, apart)) on
      ];
    }

pub returns-clause-lowest : goal.returns-clause-lowest
returns-clause-lowest c =
    free_from_none c.args.table.now (λ x low. c.loop-x.invariant.none x (omega (arith, low, c.loop-x-test.false)))

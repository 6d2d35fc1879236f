use Rattle.std.proofs.Common.{List, arith, ◌≡◌, ◌∙◌, ap, subst}
use mathlib.Core.Option.{none}
use Rattle.atomic_table.specs.Table.{step}
use Rattle.fr_round.specs.Steps.{CatchesUp, caught_up}
use Rattle.fr_core.specs.declared.entry.Entry.{Entry}
use Rattle.fr_round.specs.declared.view.View.{View}
use Rattle.fr_round.specs.Knowledge.{Knowledge, LearnsPast}
use Rattle.fr_round.specs.WorkerInside.{knowledge_of}
use Rattle.fr_round.proofs.SoundCalls.{learns_past, taught}
use Rattle.fr_round.specs.Setups.{setup_of}
use Rattle.fr_round.proofs.StepsKeepTheRule.{allowed, catches_up}
use Rattle.fr_round.proofs.Seating.{kept_join, receives}
use Rattle.fr_round.proofs.worker.Worker.learn.Goals as goal

pub join_seat-requires : goal.join_seat-requires
join_seat-requires c =
    let p = c.self.inside.caller.seat in
    let q = c.into_seat.result in
    let e = c.into_seat.ensures in
    let b = setup_of c.args.words.now.table.shared.key in
    let own = c.requires.own in (
      ap (λ (k : Knowledge). k.table) c.self.view_is ∙ own.table,
      e.0 ∙ (c.requires.past ∙ own.table),
      e.1,
      omega (arith, own.one_each, c.requires.some),
      kept_join b p.id p.me.0 q.id q.me.0 _ _ (λ list. receives b list p.id p.me.0 q.id q.me.0),
    )

pub load-requires : goal.load-requires
load-requires c =
    let j = c.join_seat.ensures in
    let p = c.join_seat.new.seat in
    let b = setup_of c.args.words.now.table.shared.key in
    let own = c.requires.own in (
      j.0 ∙ (ap (λ (k : Knowledge). k.table) c.self.view_is ∙ own.table),
      omega (arith, own.one_each, c.requires.some),
      allowed _ _ _ _ _ (λ n. n) (caught_up (step c.args.words.now.table.shared.table_id.slots 0 0 0 none) p.me)
          (catches_up b c.args.words.now.table.shared.table_id.slots p.id p.me 0
          (ap (λ m. m.0.works) j.2 ∙ c.self.invariant.works)),
    )

pub returns : goal.returns
returns c =
    let w = c.self.inside in
    let p = c.load.new.seat in
    let e = c.load.ensures in
    let j = c.join_seat.ensures in
    let came : c.join_seat.new.seat.me.0 ≡ record w.caller.seat.me.0 { received = c.args.past.known } =
    ap (λ m. m.0) j.2 ∙ ap (λ (h : List Entry). record w.caller.seat.me.0 { received = h }) c.into_seat.ensures.2 in
    let same = e.2.0 ∙ ap (λ (u : View). record u { known = p.me.0.known }) came in
    let caught = subst (λ (u : View). CatchesUp u p.me.0.known) came e.2.1 in
    subst (λ (k : Knowledge). LearnsPast k c.args.past (knowledge_of (taught w p))) c.self.view_is
    (learns_past w c.args.past p c.self.invariant (e.0 ∙ j.0) (e.2.2 ∙ ap (λ m. m.1) j.2
    ∙ c.self.invariant.no_slot) same caught)

use Rattle.std.proofs.Common.{◌≡◌, true, false, [], ◌∷◌, ◌++◌, map, length, arith, refl, sym, ap, subst, ◌∙◌}
use Rattle.std.specs.List.{AllByRecursion as Each}
use Rattle.std.specs.Vec.Iter.{into_iter_items}
use Rattle.fr_round.specs.declared.view.View.{View}
use Rattle.fr_round.specs.Setups.{setup_of}
use Rattle.fr_round.specs.Knowledge.{Knowledge}
use Rattle.fr_round.specs.Closing.{number_and_known, number_and_turns}
use Rattle.fr_round.proofs.Seating.{joins, kept_join}
use Rattle.fr_round.proofs.Gathering.{taking_none, taking_more, taking_room, taking_all, each_in}
use Rattle.fr_round.proofs.closing.take_back_workers.Goals as goal

pub loop-worker-init : goal.loop-worker-init
loop-worker-init c = (
  tt,
  tt,
  taking_none c.args.seat.now c.args.turned.now.items
      (into_iter_items c.into_iter-worker-iterator.result) c.args.workers.items
      c.into_iter-worker-iterator.ensures.into_iter_gives.0,
  refl,
)

pub push_reserved-requires : goal.push_reserved-requires
push_reserved-requires c =
    let t = c.loop-worker.invariant.2 in
    let room = taking_room c.args.seat.now c.loop-worker.seat c.args.turned.now.items c.loop-worker.turned.items
    c.loop-worker.yielded (into_iter_items c.loop-worker.worker-iterator) (into_iter_items c.next.new.self)
    c.args.workers.items c.in-Some.worker t c.in-Some.ensures.steps.0 in
    let k = c.loop-worker.turned.ok.0 in
    let r = c.requires.room in
    let s = c.loop-worker.invariant.3 in
    omega arith

pub join_seat-requires : goal.join_seat-requires
join_seat-requires c =
    let q = c.requires in
    let t = c.loop-worker.invariant.2 in
    let x = c.in-Some.worker in
    let w = c.into_seat.result in
    let e = c.into_seat.ensures in
    let all : c.args.workers.items ≡ c.loop-worker.yielded ++ x ∷ into_iter_items c.next.new.self = sym t.parted
    ∙ ap (λ l. c.loop-worker.yielded ++ l) c.in-Some.ensures.steps.0 in
    let own : x.table ≡ c.args.table.now.shared.table_id =
    each_in (λ (k : Knowledge). k.table ≡ c.args.table.now.shared.table_id) c.loop-worker.yielded x
    (into_iter_items c.next.new.self) (subst (λ l. Each (λ (k : Knowledge). k.table
    ≡ c.args.table.now.shared.table_id) l) all q.own) in
    let closes : c.loop-worker.seat.me.0.closes ≡ true = ap (λ (u : View). u.closes) t.taken ∙ q.closing.closes in
    let not_opening : c.loop-worker.seat.me.0.opens ≡ false =
    ap (λ (u : View). u.opens) t.taken ∙ q.closing.not_opening in
    let idle : c.loop-worker.seat.me.0.works ≡ false = ap (λ (u : View). u.works) t.taken ∙ q.closing.idle in (
      t.seat.0 ∙ q.closing.same,
      e.0
          ∙ own,
      e.1,
      q.closing.some,
      kept_join (setup_of c.args.table.now.shared.key) c.loop-worker.seat.id c.loop-worker.seat.me.0 w.id w.me.0 _ _
          (λ list. joins (setup_of c.args.table.now.shared.key) list c.loop-worker.seat.id c.loop-worker.seat.me.0 w.id
          w.me.0
          closes idle not_opening e.2),
    )

pub loop-worker-preserved : goal.loop-worker-preserved
loop-worker-preserved c =
    let t = c.loop-worker.invariant.2 in
    let x = c.in-Some.worker in
    let w = c.into_seat.result in
    let j = c.join_seat.ensures in
    let score : c.push_reserved.new.self.items ≡ c.loop-worker.turned.items ++ number_and_turns x ∷ [] =
    c.push_reserved.ensures.items
    ∙ (λ i. c.loop-worker.turned.items ++ (c.number.ensures i, c.turned.ensures i) ∷ []) in (
      tt,
      tt,
      taking_more c.args.seat.now c.loop-worker.seat c.join_seat.new.seat c.args.turned.now.items
          c.loop-worker.turned.items
          c.push_reserved.new.self.items c.loop-worker.yielded (into_iter_items c.loop-worker.worker-iterator)
          (into_iter_items c.next.new.self) c.args.workers.items x w.me.0 t
          c.in-Some.ensures.steps.0 (j.0, j.1, ap (λ m. m.1) j.2) (ap (λ m. m.0) j.2) c.into_seat.ensures.4 score,
      c.push_reserved.ensures.capacity ∙ c.loop-worker.invariant.3,
    )

pub returns-clause-seat : goal.returns-clause-seat
returns-clause-seat c = c.loop-worker.invariant.2.seat

pub returns-clause-taken : goal.returns-clause-taken
returns-clause-taken c =
    let t = c.loop-worker.invariant.2 in
    let none : length (into_iter_items c.loop-worker.worker-iterator) ≡ 0 =
    sym c.loop-worker.worker-iterator.rest.ok.0 ∙ c.in-None.ensures.steps.0 in
    let all = taking_all c.args.seat.now c.loop-worker.seat c.args.turned.now.items c.loop-worker.turned.items
    c.loop-worker.yielded (into_iter_items c.loop-worker.worker-iterator) c.args.workers.items t none in
    t.taken ∙ ap (λ l. record c.args.seat.now.me.0 { taken = c.args.seat.now.me.0.taken ++ map number_and_known l }) all

pub returns-clause-turned : goal.returns-clause-turned
returns-clause-turned c =
    let t = c.loop-worker.invariant.2 in
    let none : length (into_iter_items c.loop-worker.worker-iterator) ≡ 0 =
    sym c.loop-worker.worker-iterator.rest.ok.0 ∙ c.in-None.ensures.steps.0 in
    let all = taking_all c.args.seat.now c.loop-worker.seat c.args.turned.now.items c.loop-worker.turned.items
    c.loop-worker.yielded (into_iter_items c.loop-worker.worker-iterator) c.args.workers.items t none in
    t.scores ∙ ap (λ l. c.args.turned.now.items ++ map number_and_turns l) all

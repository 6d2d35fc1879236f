use Rattle.std.proofs.Common.{◌≡◌, ◌<◌, ℕ, List, [], length, replicate, arith, sym, ap, subst, ◌∙◌}
use Rattle.std.proofs.lemmas.List.{length-replicate}
use Rattle.atomic_table.specs.Table.{opening}
use Rattle.fr_round.specs.declared.view.View.{View}
use Rattle.fr_round.specs.Setups.{setup_of}
use Rattle.fr_round.specs.Rule.{KeepsRule, opening_view}
use Rattle.fr_round.specs.Knowledge.{new_workers}
use Rattle.fr_round.specs.declared.round_setup.RoundSetup.{RoundSetup}
use Rattle.fr_round.proofs.Seating.{first_keeps, kept_split, splits}
use Rattle.fr_round.proofs.opening.make_table.Goals as goal

pub of_words-requires : goal.of_words-requires
of_words-requires c =
    let g = c.args.round_setup.now in
    subst (λ (ws : List ℕ). KeepsRule {S = Unit {0}} (setup_of g) (opening ws [] (opening_view (setup_of g))))
    (sym (c.as_slice.ensures.value
    ∙ (c.in_ok-words.ensures
    ∙ ap (λ (n : ℕ). replicate n 0) c.nodes-nodes.ensures.value))) (first_keeps (setup_of g) [] c.requires.net).0

pub loop-number-init : goal.loop-number-init
loop-number-init c =
    let t = c.in_ok-table.ensures in
    let g = c.args.round_setup.now in
    let long : length c.as_slice.result.now ≡ g.net.nodes = ap (λ (l : List ℕ). length l) (c.as_slice.ensures.value
    ∙ c.in_ok-words.ensures) ∙ (length-replicate c.nodes-nodes.result 0 ∙ c.nodes-nodes.ensures.value) in (
      record {
        table = record { key = t.5; words = t.0 ∙ long; slots = t.1 };
        seat_table = t.2;
        seat_empty = ap (λ m. m.1) t.4;
        view = ap (λ m. m.0) t.4;
      },
      c.new-workers.ensures.items,
    )

pub split_seat-seat-requires : goal.split_seat-seat-requires
split_seat-seat-requires c =
    let d = c.loop-number.invariant.0 in
    let v = c.loop-number.opening.me.0 in
    let few : 0 < c.in_ok-table.table.shared.table_id.words = let w = d.table.words in let r = c.requires.dest in
    omega arith in
    let more : v.next < c.in_ok-table.table.shared.key.workers = let e : v.next ≡ c.loop-number.number =
    ap (λ (u : View). u.next) d.view in let k : c.in_ok-table.table.shared.key.workers
    ≡ c.args.round_setup.now.workers =
    ap (λ (z : RoundSetup). z.workers) d.table.key in let t = c.loop-number-test.true in omega arith in (
      d.seat_table,
      few,
      kept_split (setup_of c.in_ok-table.table.shared.key) c.loop-number.opening.id v _ _
          (λ list. splits (setup_of c.in_ok-table.table.shared.key) list c.loop-number.opening.id v
          (ap (λ (u : View). u.opens) d.view) (ap (λ (u : View). u.works) d.view) (ap (λ (u : View). u.closes) d.view)
          more),
    )

pub returns-clause-table : goal.returns-clause-table
returns-clause-table c = c.loop-number.invariant.0.table

pub returns-clause-workers : goal.returns-clause-workers
returns-clause-workers c =
    let end : c.loop-number.number ≡ c.args.round_setup.now.workers = let a = c.loop-number-test.false in
    let b = c.loop-number.auto.number-end in omega arith in
    let t = c.in_ok-table.table.shared in
    subst (λ (k : ℕ). c.loop-number.workers.items
    ≡ new_workers t.table_id (setup_of c.args.round_setup.now) k) end c.loop-number.invariant.1

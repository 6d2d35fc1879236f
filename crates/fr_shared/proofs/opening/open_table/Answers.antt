use Rattle.std.proofs.Common.{rules, ◌≡◌, ℕ, List, [], length, true, arith, sym, ap, subst, ◌∙◌}
use Rattle.atomic_table.specs.Table.{Me, opening}
use Rattle.fr_shared.specs.declared.view.View.{View}
use Rattle.fr_shared.specs.Histories.{IsHistory}
use Rattle.fr_shared.specs.Rule.{KeepsRule, first_view}
use Rattle.fr_shared.specs.Inside.{IsSoundPlace, Words}
use Rattle.fr_shared.proofs.StepsKeepTheRule.{first_keeps, splits}
use Rattle.fr_shared.proofs.opening.open_table.Goals as goal

pub of_words-requires : goal.of_words-requires
of_words-requires g c =
    let n : ℕ = c.args.nodes in
    subst (λ (words : List ℕ). KeepsRule {S = Unit {0}} g.T.Item.codec n (opening words [] (first_view n)))
    (search rules)
    (first_keeps g.T.Item.codec c.requires.sound n c.requires.few)

pub split_seat-readers-requires : goal.split_seat-readers-requires
split_seat-readers-requires g c =
    let t = c.in_ok-table.ensures in
    let s = c.in_ok-table.seat in
    let long : length c.as_slice.result.now ≡ c.args.nodes = search rules in (
      t.2,
      (let w = t.0 in let q = c.requires.some in omega arith),
      splits g.T.Item.codec c.requires.sound c.in_ok-table.table.shared.key s.id s.me.0,
    )

pub new-requires-2 : goal.new-requires-2
new-requires-2 g c =
    let n : ℕ = c.args.nodes in
    let codec = g.T.Item.codec in
    let t = c.in_ok-table.ensures in
    let s = c.split_seat-readers.ensures in
    let p = c.split_seat-readers.new.seat in
    let long : length c.as_slice.result.now ≡ n = search rules in
    let V : Type 0 = View g.row.T.Denot in
    let me : p.me ≡ (first_view n, []) = s.2 ∙ t.4 in
    let view : p.me.0 ≡ first_view n = ap (λ (m : Me (Unit {0}) V). m.0) me in
    subst (λ (u : Words g.row.T.Denot). IsSoundPlace codec true n u p) (sym c.in_ok-table-2.ensures.ok) (record {
      sound = c.requires.sound;
      some = c.requires.some;
      few = c.requires.few;
      key = t.5;
      words = t.0 ∙ long;
      slots = t.1;
      table = s.0 ∙ t.2;
      no_slot = ap (λ (m : Me (Unit {0}) V). m.1) me;
      nodes = ap (λ (v : V). v.nodes) view;
      kind = ap (λ (v : V). v.writes) view;
      tables = subst (IsHistory codec n) (sym (ap (λ (v : V). v.known) view)) (c.requires.sound.first n);
    })

use Rattle.std.proofs.Common.{rules, ◌≡◌, ◌<◌, ℕ, List, ◌++◌, map, arith, refl, sym, ap, subst, ◌∙◌}
use Rattle.std.proofs.lemmas.List.{with_items_is}
use Rattle.std.specs.Slots.{slots_items}
use Rattle.atomic_table.specs.Table.{Final, Seen}
use Rattle.fr_round.specs.declared.view.View.{View}
use Rattle.fr_round.specs.declared.round_setup.RoundSetup.{RoundSetup}
use Rattle.fr_round.specs.Setups.{setup_of}
use Rattle.fr_round.specs.Rule.{KeepsRule, closing_view, opening_view}
use Rattle.fr_round.specs.Knowledge.{OpenRound, Knowledge, IsOwn}
use Rattle.fr_round.specs.Closing.{Closes, number_and_known, number_and_turns}
use Rattle.fr_round.specs.RoundInside.{open_round_of}
use Rattle.fr_round.proofs.Seating.{enters, kept_enter}
use Rattle.fr_round.proofs.StepsKeepTheRule.{each_weaker}
use Rattle.fr_round.proofs.Gathering.{closes}
use Rattle.fr_round.proofs.round.Round.close.Goals as goal

pub load_new_seat-seat-requires : goal.load_new_seat-seat-requires
load_new_seat-seat-requires c =
    let w = c.self.inside in
    let i = c.self.invariant in
    let some : 0 < w.words.table.shared.table_id.words = let k = i.words in let d = i.dest in omega arith in
    let b = setup_of w.words.table.shared.key in
    let slots = w.words.table.shared.table_id.slots in
    (some, kept_enter b slots 0 (λ n w. w ≡ closing_view b) (λ list. enters b list slots 0 (opening_view b) refl))

pub take_back_workers-requires-clause-own : goal.take_back_workers-requires-clause-own
take_back_workers-requires-clause-own c =
    each_weaker (IsOwn c.args.self) (λ (k : Knowledge). k.table ≡ c.self.inside.words.table.shared.table_id)
    (λ k own. own.table ∙ sym (ap (λ (o : OpenRound). o.table) c.self.view_is)) c.args.workers.items c.requires.own

pub returns-clause-history : goal.returns-clause-history
returns-clause-history c =
    let w = c.self.inside in
    let i = c.self.invariant in
    let t = c.take_back_workers in
    let e = t.ensures.taken in
    let z = c.close_with-closed.result in
    let p = t.new.seat in
    let ks = c.args.workers.items in
    let came = c.load_new_seat-seat.ensures.2 in
    let counts : (Rattle.std.specs.Vec.with_items w.counts c.read_counts.new.counts).items ≡ slots_items z.words =
    with_items_is w.counts c.read_counts.new.counts (search rules) ∙ c.read_counts.ensures in
    let final : Final (Seen (KeepsRule {S = Unit {0}} (setup_of w.words.round_setup)) p.id p.me.0)
    (slots_items z.words) (slots_items z.slots) =
    subst (λ (g : RoundSetup). Final (Seen (KeepsRule {S = Unit {0}} (setup_of g)) p.id p.me.0) (slots_items z.words)
    (slots_items z.slots)) i.key c.close_with-closed.ensures.values.2 in
    let all =
    closes (open_round_of w) ks (slots_items z.words) (slots_items z.slots) p.id p.me.0 t.new.turned.items final
    (ap (λ (u : View). u.closes) e ∙ ap (λ (u : View). u.closes) came)
    (ap (λ (u : View). u.taken) e ∙ ap (λ (u : View). u.taken ++ map number_and_known ks) came) (t.ensures.turned
    ∙ (λ j. i.none_turned j ++ map number_and_turns ks)) in
    subst (λ (q : OpenRound × List ℕ). Closes q.0 ks q.1 t.new.turned.items) (λ j. (c.self.view_is j, sym counts j)) all

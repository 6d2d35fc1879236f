use Rattle.std.proofs.Common.{◌≡◌, ◌∙◌, ◌++◌, ◌-◌, List, ℕ, ap, append_assoc, refl, string_bytes, subst, sum}
use Rattle.std.proofs.lemmas.Result.{on_ok_weaker}
use Rattle.std.specs.Prelude.{OnOk}
use Rattle.revdot.specs.declared.graphs.Label.{Label}
use Rattle.revdot.specs.Settled.{IsGraphOf}
use Rattle.revdot.specs.Strips.{IsStripOf, beginning, last_label, most_turns, turns_text}
use Rattle.revdot.proofs.Beginnings.{begins}
use Rattle.revdot.proofs.strips.push_strip.Goals as goal

pub returns : goal.returns
returns c =
    let s = c.args.router.now in
    let towards = c.args.direction in
    let old = string_bytes c.args.text.now in
    let drawn = c.in_ok-push_turns.ensures in
    let turned : c.report-turned.result.turned ≡ sum s.counts = c.report-turned.ensures.turns in
    let left : c.saturating_sub.result ≡ sum s.counts - most_turns =
    c.saturating_sub.ensures ∙ ap (λ (n : ℕ). n - most_turns) turned in
    let label : c.label_at_end-label.result ≡ last_label (sum s.counts - most_turns) =
    c.label_at_end-label.ensures ∙ ap last_label left in
    let drawn_settled =
    subst (λ (said : Label). OnOk c.push_settled.result ((graph : List ℕ) × IsGraphOf towards said s graph
    × (string_bytes c.push_settled.new.text ≡ string_bytes c.push_turns.new.text
    ++ graph))) label c.push_settled.ensures in
    let turns = turns_text towards s (beginning s) 1 drawn.0 in
    on_ok_weaker c.push_settled.result
    (λ (settled : (graph : List ℕ) × IsGraphOf towards (last_label (sum s.counts - most_turns)) s graph
    × (string_bytes c.push_settled.new.text ≡ string_bytes c.push_turns.new.text ++ graph)).
    let strip : IsStripOf towards s (turns ++ settled.0) = record {
      begins = λ first net below round. begins s.nodes s.dest first s net below round;
      turns = drawn.0;
      are_all = drawn.1;
      last = settled.0;
      settled = settled.1;
      text = refl;
    } in (
      turns ++ settled.0,
      strip,
      settled.2 ∙ (ap (λ (t : List ℕ). t ++ settled.0) drawn.2 ∙ append_assoc old turns settled.0),
    ))
    drawn_settled

use Rattle.std.proofs.Common.{List, [], ap, refl, string_bytes, ℕ, ◌++◌, ◌∙◌, ◌≡◌}
use Rattle.std.specs.Option.{option_copied}
use Rattle.std.proofs.lemmas.Result.{on_ok_weaker}
use Rattle.fr_route.specs.Json.{more_json, report_json}
use Rattle.fr_route.specs.Pushing.{changes_of}
use Rattle.fr_route.specs.Reroutes.{AreReplaced}
use Rattle.fr_route.specs.declared.form.Form.TheVariants.{JsonWithWays}
use Rattle.fr_ways.specs.Changes.{Noted}
use Rattle.fr_ways.specs.Phases.{growths, shrinks}
use Rattle.fr_route.proofs.Changed.{report_is}
use Rattle.fr_route.proofs.reports.push_new_report.Goals as goal

pub returns : goal.returns
returns c = λ empty replaced.
    let old = option_copied c.args.before in
    let new = c.args.router.now in
    let lead = c.in_ok-phases.ensures in
    let shrink = shrinks lead.before lead.after in
    let grow = growths lead.before lead.after in
    let noted : Noted = record { shrink = shrink; emptied = []; grow = grow; nodes = 0; ways = 0 } in
    let report = c.report-report.result in
    let text =
    report_json report.turned report.cut (changes_of c.hops.result.now c.args.replaced.now) (more_json shrink grow) in
    on_ok_weaker c.push_report_with_ways.result
    (λ (e : string_bytes c.push_report_with_ways.new.line ≡ string_bytes c.args.line.now ++ text).
    report_is JsonWithWays (AreReplaced old new) old new c.state_law.ensures report c.report-report.ensures
    c.hops.result.now
    c.hops.ensures c.args.replaced.now (λ other. replaced) noted
    (λ same. record {
      before = lead.before;
      after = lead.after;
      were = lead.were;
      are = lead.are;
      shrinks = refl;
      grows = refl;
    })
    _ (e ∙ ap (λ (t : List ℕ). t ++ text) empty))
    (c.push_report_with_ways.ensures.text shrink grow (c.from_plan.ensures lead.before lead.after lead.phases))

use Rattle.std.proofs.Common.{[], ◌∙◌, ◌≡◌, sym}
use Rattle.std.proofs.lemmas.Result.{IfOk-weaker}
use Rattle.std.specs.Option.{option_copied}
use Rattle.fr_route.specs.Reroutes.{AreReplaced}
use Rattle.fr_route.specs.declared.form.Form.TheVariants.{Json, Text}
use Rattle.fr_ways.specs.Changes.{Noted}
use Rattle.fr_route.proofs.Changed.{report_is}
use Rattle.fr_route.proofs.reports.write_new_report.Goals as goal

pub returns-in-Json-clause-report : goal.returns-in-Json-clause-report
returns-in-Json-clause-report c = λ replaced.
    let old = option_copied c.args.before in
    let new = c.args.router.now in
    let none : Noted = record { shrink = []; emptied = []; grow = []; nodes = 0; ways = 0 } in
    rw c.in-Json.is (IfOk-weaker c.push_report_object.result _ _
    (λ _ is. report_is Json (AreReplaced old new) old new c.state_law.ensures c.report-report.result
    c.report-report.ensures c.hops.result.now c.hops.ensures c.args.replaced.now
    (λ other. replaced (λ e. let no : Json ≡ Text = sym c.in-Json.is ∙ e in absurd cc)) none (λ e. absurd cc)
    _ (rw c.in_ok-begin_report.ensures.empty at is)) c.push_report_object.ensures.text)

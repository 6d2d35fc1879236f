use Rattle.std.proofs.Common.{rules}
use Rattle.fr_route.proofs.ShortTexts.{report_short}
use Rattle.fr_route.proofs.texts.push_report.Goals as goal

pub returns-in_err-push_str-clause-short : goal.returns-in_err-push_str-clause-short
returns-in_err-push_str-clause-short c =
    report_short c.args.report.turned c.args.report.cut (search rules) (search rules)

pub returns-in_err-push_text_and_number-clause-short : goal.returns-in_err-push_text_and_number-clause-short
returns-in_err-push_text_and_number-clause-short c =
    report_short c.args.report.turned c.args.report.cut (search rules) (search rules)

pub returns-clause-short : goal.returns-clause-short
returns-clause-short c = report_short c.args.report.turned c.args.report.cut (search rules) (search rules)

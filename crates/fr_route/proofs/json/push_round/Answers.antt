use Rattle.std.proofs.Common.{codes, decimal, string_bytes}
use Rattle.fr_route.proofs.Glued.{glued4}
use Rattle.fr_route.proofs.json.push_round.Goals as goal

pub returns-clause-text : goal.returns-clause-text
returns-clause-text c =
    glued4 (string_bytes c.args.line.now) (string_bytes c.push_str.new.self) (string_bytes c.push_number.new.line)
    (string_bytes c.push_str-2.new.self) (string_bytes c.push_number-2.new.line)
    (codes "{\"turned\":") (decimal c.args.report.turned) (codes ",\"cut_off\":") (decimal c.args.report.cut)
    c.in_ok-push_str.ensures.bytes c.in_ok-push_number.ensures.text c.in_ok-push_str-2.ensures.bytes
    c.in_ok-push_number-2.ensures.text

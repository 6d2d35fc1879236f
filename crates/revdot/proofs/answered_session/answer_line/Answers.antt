use Rattle.std.proofs.Common.{refl, rules}
use Rattle.revdot.proofs.Asking.{answer_of, comment_of}
use Rattle.revdot.proofs.answered_session.answer_line.Goals as goal

pub returns-then-is_comment : goal.returns-then-is_comment
returns-then-is_comment c = comment_of c.args.line.now c.args.session.now c.args.session.now (search rules) refl

pub returns-in-Ok : goal.returns-in-Ok
returns-in-Ok c =
    answer_of c.args.line.now c.args.session.now c.answer_line_alone.new.self c.in-Ok._answer (search rules)
    c.in-Ok.ensures.blank
    c.in-Ok.ensures.text

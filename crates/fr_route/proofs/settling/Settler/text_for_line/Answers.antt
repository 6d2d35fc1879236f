use Rattle.fr_route.specs.Replies.{written}
use Rattle.fr_route.proofs.Replying.{text_line_answered}
use Rattle.fr_route.proofs.settling.Settler.text_for_line.Goals as goal

pub returns-in-Some : goal.returns-in-Some
returns-in-Some g c =
    text_line_answered _ 0 c.args.session.now c.args.line.now c.args.told.now
    (written c.reply_line.new.draft c.in-Some.field-0) c.reply_line.new.session c.reply_line.new.told
    (rw c.in-Some.is at c.in_ok-reply_line.ensures.reply).0
    (rw c.text-draft.ensures at (rw c.in-Some.is at c.in_ok-reply_line.ensures.reply).1)

use Rattle.fr_route.proofs.Replying.{line_in, list_alone, no_list}
use Rattle.fr_route.specs.declared.changed_nodes.ChangedNodes.TheVariants.{Unlisted}
use Rattle.fr_route.proofs.settling.Settler.write_reply.Goals as goal

pub returns-in-Text : goal.returns-in-Text
returns-in-Text g c =
    line_in _ c.args.draft.now.form c.args.draft.now.number c.args.session.now c.args.line.now Unlisted
    c.reply_line.result c.reply_line.new.draft c.reply_line.new.session c.reply_line.new.told
    (rw c.in-Text.is (no_list Unlisted)) c.reply_line.ensures

pub returns-in-Json : goal.returns-in-Json
returns-in-Json g c =
    line_in _ c.args.draft.now.form c.args.draft.now.number c.args.session.now c.args.line.now c.take_list-told.result
    c.reply_line-refused.result c.reply_line-refused.new.draft c.reply_line-refused.new.session
    c.reply_line-refused.new.told
    (rw c.in-Json.is (list_alone c.take_list-told.result c.take_list-told.ensures)) c.reply_line-refused.ensures

use Rattle.fr_route.specs.declared.form.Form.TheVariants.{JsonWithWays}
use Rattle.fr_route.proofs.Replying.{line_in, list_with_notes}
use Rattle.fr_route.proofs.settling.Settler.reply_with_ways.Goals as goal

pub returns : goal.returns
returns g c =
    line_in _ JsonWithWays c.args.draft.now.number c.args.session.now c.args.line.now c.in_ok-told.told
    c.reply_line-refused.result c.reply_line-refused.new.draft
    c.reply_line-refused.new.session c.reply_line-refused.new.told
    (list_with_notes c.in_ok-told.told c.in_ok-told.ensures) (rw c.requires.form at c.reply_line-refused.ensures)

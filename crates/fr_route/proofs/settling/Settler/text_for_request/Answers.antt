use Rattle.std.proofs.Common.{Ok}
use Rattle.fr_requests.specs.Requests.{plain}
use Rattle.fr_route.specs.Replies.{written}
use Rattle.fr_route.proofs.Replying.{text_answered}
use Rattle.fr_route.proofs.settling.Settler.text_for_request.Goals as goal

pub returns : goal.returns
returns g c =
    text_answered _ 0 c.args.session.now (Ok (plain c.args.request.now)) c.args.told.now
    (written c.reply.new.draft c.in_ok-reply.field-0) c.reply.new.session c.reply.new.told
    (rw c.text-draft.ensures at c.in_ok-reply.ensures.reply)

use Rattle.std.proofs.lemmas.Result.{IfOk-weaker}
use Rattle.fr_route.proofs.session.Session.pushes.Goals as goal

pub returns-in-Some-clause-reply : goal.returns-in-Some-clause-reply
returns-in-Some-clause-reply c =
    let replies = rw c.deref.ensures.value at c.pushes_between.ensures.reply in
    rw c.in-Some.is (IfOk-weaker c.pushes_between.result _ _ (λ a h. h c.args.self.now) replies)

use Rattle.fr_route.proofs.settling.Settler.reply_nonblank_line.Goals as goal

pub returns-in-Ok : goal.returns-in-Ok
returns-in-Ok g c = rw (c.in-Ok.ensures.ok, ← c.read.ensures.same) c.reply.ensures

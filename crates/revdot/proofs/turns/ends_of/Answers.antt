use Rattle.std.proofs.Common.{refl}
use Rattle.revdot.proofs.Sinks.{ends_more}
use Rattle.revdot.proofs.turns.ends_of.Goals as goal

pub loop-tail-preserved : goal.loop-tail-preserved
loop-tail-preserved c =
    ends_more c.args.nodes c.loop-tail.tail-index _ _ c.loop-tail.tails.items c.loop-tail.heads.items c.args.links.now
    (0, 0) c.loop-tail-test.true refl c.loop-tail.invariant

use Rattle.std.proofs.Common.{arith}
use Rattle.fr_core.proofs.LevelStarts.{most_counts_more}
use Rattle.fr_core.proofs.levels.set_greatest_counts.Goals as goal

pub loop-x-preserved : goal.loop-x-preserved
loop-x-preserved c = most_counts_more c.args.net.now.nodes c.args.net.now.links c.loop-x.counts c.loop-x.x
    c.most_count.result (omega arith) c.most_count.ensures c.loop-x.invariant

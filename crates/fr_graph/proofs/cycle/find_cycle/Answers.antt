use Rattle.std.proofs.lemmas.Result.{IfOk-weaker}
use Rattle.fr_graph.proofs.FoundCycles.{found_in, rows_searched}
use Rattle.fr_graph.proofs.cycle.find_cycle.Goals as goal

pub find_cycle-requires : goal.find_cycle-requires
find_cycle-requires c = rows_searched c.args.nodes c.args.rows.now c.requires.one_each c.requires.below

pub returns : goal.returns
returns c = IfOk-weaker c.find_cycle.result _ _
    (found_in c.args.nodes c.args.rows.now c.requires.one_each c.requires.rising) c.find_cycle.ensures

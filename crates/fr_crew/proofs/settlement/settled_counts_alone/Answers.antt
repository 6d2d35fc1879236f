use Rattle.std.proofs.lemmas.Option.{IfSome_then}
use Rattle.fr_crew.proofs.Beginning.{zeros_hold}
use Rattle.fr_crew.proofs.settlement.settled_counts_alone.Goals as goal

pub finish_counts-requires-clause-from : goal.finish_counts-requires-clause-from
finish_counts-requires-clause-from c =
    rw c.requires.none (IfSome_then c.args.from c.requires.from_sinks
    (λ from holds. zeros_hold c.args.net.now c.args.dest from.now holds))

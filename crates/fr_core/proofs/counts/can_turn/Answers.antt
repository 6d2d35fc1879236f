use Rattle.std.proofs.Common.{rules}
use Rattle.fr_core.proofs.counts.can_turn.Goals as goal
use Rattle.fr_core.proofs.counts.can_turn.Goals.{else-x-dest, then-x-dest}

pub returns-then-counts-x : goal.returns-then-counts-x
returns-then-counts-x c =
    elim c.if-x-dest.branch [
      | then-x-dest w ↦ (
        λ t. record {
          not_destination = search rules;
          below_cap = search rules;
          sink =
              c.is_sink.ensures.0 t;
        },
        λ can. c.is_sink.ensures.1 can.sink,
      )
      | else-x-dest w ↦ search rules
    ]

use Rattle.std.proofs.Common.{arith}
use mathlib.Core.Option.{none}
use Rattle.atomic_table.specs.Table.{step}
use Rattle.fr_round.specs.Steps.{look_begun}
use Rattle.fr_round.specs.Setups.{setup_of}
use Rattle.fr_round.proofs.StepsKeepTheRule.{allowed, begins_look}
use Rattle.fr_round.proofs.turn_call.CallingWorker.look_at.Goals as goal

pub load-c-requires : goal.load-c-requires
load-c-requires c =
    let q = c.requires in (
      q.caller.table.same,
      omega (arith, q.caller.table.one_each, q.node.inside),
      allowed _ _ _ _ _ (λ n. n)
          (look_begun (step c.args.words.now.table.shared.table_id.slots c.args.x 0 0 none) c.args.self.now.seat.me)
          (begins_look (setup_of c.args.words.now.table.shared.key) c.args.words.now.table.shared.table_id.slots
          c.args.self.now.seat.id c.args.self.now.seat.me c.args.x q.caller.worker.works),
    )

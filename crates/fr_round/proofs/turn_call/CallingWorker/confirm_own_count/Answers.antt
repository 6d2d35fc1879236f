use Rattle.std.proofs.Common.{arith}
use mathlib.Core.Option.{none}
use Rattle.atomic_table.specs.Table.{step}
use Rattle.fr_round.specs.Steps.{look_ended}
use Rattle.fr_round.specs.Setups.{setup_of}
use Rattle.fr_round.proofs.StepsKeepTheRule.{allowed, ends_look_at}
use Rattle.fr_round.proofs.turn_call.CallingWorker.confirm_own_count.Goals as goal

pub load-found-requires : goal.load-found-requires
load-found-requires c =
    let q = c.requires in (
      q.caller.table.same,
      omega (arith, q.caller.table.one_each, q.node.inside),
      allowed _ _ _ _ _ (λ n. n)
          (look_ended (step c.args.words.now.table.shared.table_id.slots c.args.x 0 0 none) c.args.self.now.seat.me)
          (ends_look_at (setup_of c.args.words.now.table.shared.key) (setup_of c.args.words.now.round_setup)
          c.args.words.now.table.shared.table_id.slots c.args.self.now.seat.id c.args.self.now.seat.me c.args.x
          c.args.c q.call q.node q.met),
    )

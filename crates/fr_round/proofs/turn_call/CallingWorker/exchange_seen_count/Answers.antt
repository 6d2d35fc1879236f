use Rattle.std.proofs.Common.{◌+◌, arith, eqb, refl}
use prog.Atomic.{either}
use mathlib.Core.Option.{none}
use Rattle.atomic_table.specs.Table.{step}
use Rattle.fr_round.specs.Steps.{exchange_made}
use Rattle.fr_round.specs.Setups.{setup_of}
use Rattle.fr_round.proofs.StepsKeepTheRule.{allowed, exchanges_at}
use Rattle.fr_round.proofs.turn_call.CallingWorker.exchange_seen_count.Goals as goal

pub compare_exchange-found-requires : goal.compare_exchange-found-requires
compare_exchange-found-requires c =
    let q = c.requires in (
      q.caller.table.same,
      omega (arith, q.caller.table.one_each, q.node.inside),
      allowed _ _ _ _ _ (λ n. either (eqb n c.args.c) (c.args.c + 1) n)
          (exchange_made (step c.args.words.now.table.shared.table_id.slots c.args.x c.args.c (c.args.c
          + 1) none) c.args.self.now.seat.me)
          (exchanges_at (setup_of c.args.words.now.table.shared.key) (setup_of c.args.words.now.round_setup)
          c.args.words.now.table.shared.table_id.slots c.args.self.now.seat.id c.args.self.now.seat.me c.args.x c.args.c
          (c.args.c + 1) refl q.count.1 (omega (arith, q.count.0)) q.caller.worker q.node q.met),
    )

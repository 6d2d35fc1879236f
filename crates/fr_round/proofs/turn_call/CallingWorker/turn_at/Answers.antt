use Rattle.std.proofs.Common.{◌≡◌, List, ap, arith, subst, sym, ℕ}
use Rattle.std.specs.Prelude.{slice_index}
use mathlib.Core.Option.{none}
use Rattle.atomic_table.specs.Table.{step}
use Rattle.fr_round.specs.Steps.{own_loaded}
use Rattle.fr_round.specs.declared.view.Setup.{Setup}
use Rattle.fr_round.specs.Setups.{setup_of}
use Rattle.fr_round.specs.Calls.{AllMeet}
use Rattle.fr_round.proofs.Calling.{all_were_seen}
use Rattle.fr_round.proofs.StepsKeepTheRule.{allowed, loads_own}
use Rattle.fr_round.proofs.turn_call.CallingWorker.turn_at.Goals as goal

pub exchange_seen_count-requires-clause-met : goal.exchange_seen_count-requires-clause-met
exchange_seen_count-requires-clause-met c =
    let net = c.args.words.now.round_setup.net in
    let q = c.requires in
    let seen = c.args.self.now.seen in
    let zero : slice_index seen.missing.items c.args.x ≡ 0 = c.all_meet_bounds.ensures.0 c.if-all_meet_bounds.true in
    let met : AllMeet net.links seen.counts.items c.args.x (slice_index seen.counts.items c.args.x) =
    all_were_seen net.nodes net.links seen c.args.x c.nodes.ensures.faultless.is_net q.caller.seen.numbers
    q.node.inside zero in
    subst (λ (p : List ℕ × ℕ). AllMeet net.links p.0 c.args.x p.1) (λ i. (
      sym q.caller.seen.counts i,
      sym c.count-had.ensures i,
    )) met

pub load-c-requires : goal.load-c-requires
load-c-requires c =
    let q = c.requires in
    let nodes : c.args.self.now.seat.me.0.setup.nodes ≡ c.args.words.now.round_setup.net.nodes =
    ap (λ (b : Setup). b.nodes) q.caller.worker.setup in (
      q.caller.table.same,
      omega (arith, q.caller.table.one_each, q.node.inside),
      allowed _ _ _ _ _ (λ n. n)
          (own_loaded (step c.args.words.now.table.shared.table_id.slots c.args.x 0 0 none) c.args.self.now.seat.me)
          (loads_own (setup_of c.args.words.now.table.shared.key) c.args.words.now.table.shared.table_id.slots
          c.args.self.now.seat.id c.args.self.now.seat.me c.args.x q.caller.worker.works (omega (
            arith,
            nodes,
            q.node.inside,
          ))),
    )

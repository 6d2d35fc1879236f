use Rattle.std.proofs.Common.{arith, subst}
use Rattle.std.specs.List.{Contains}
use Rattle.fr_graph.proofs.Neighbours.{in_of_row, out_of_row, row_holds}
use Rattle.fr_graph.specs.Rows.{row}
use Rattle.fr_graph.specs.declared.first.First.{First}
use mathlib.Core.Option.{none}
use Rattle.atomic_table.specs.Table.{step}
use Rattle.fr_round.specs.Steps.{neighbour_loaded}
use Rattle.fr_round.specs.Setups.{setup_of}
use Rattle.fr_round.proofs.StepsKeepTheRule.{allowed, loads_along_at, loads_against_at}
use Rattle.fr_round.proofs.turn_call.load_neighbour_count.Goals as goal

pub load-requires : goal.load-requires
load-requires c =
    let q = c.requires in
    let b = setup_of c.args.words.now.round_setup in
    let there = row_holds b.nodes b.links c.args.seat.now.me.0.node c.args.entry q.entry in
    let here =
    subst (λ (f : First). Contains (row b.nodes b.links c.args.seat.now.me.0.node) (c.args.entry.0, f)) c.in-Outward.is
    q.entry in (
      q.table.same,
      omega (arith, q.table.one_each, there.0),
      allowed _ _ _ _ _ (λ n. n)
          (neighbour_loaded 1 (step c.args.words.now.table.shared.table_id.slots c.args.entry.0 0 0 none)
          c.args.seat.now.me)
          (loads_along_at (setup_of c.args.words.now.table.shared.key) b c.args.words.now.table.shared.table_id.slots
          c.args.seat.now.id c.args.seat.now.me c.args.seat.now.me.0.node c.args.seat.now.me.0.count c.args.entry.0
          q.call
          (out_of_row b.nodes b.links c.args.seat.now.me.0.node c.args.entry.0 here)),
    )

pub load-requires-in-Inward : goal.load-requires-in-Inward
load-requires-in-Inward c =
    let q = c.requires in
    let b = setup_of c.args.words.now.round_setup in
    let there = row_holds b.nodes b.links c.args.seat.now.me.0.node c.args.entry q.entry in
    let here =
    subst (λ (f : First). Contains (row b.nodes b.links c.args.seat.now.me.0.node) (c.args.entry.0, f)) c.in-Inward.is
    q.entry in (
      q.table.same,
      omega (arith, q.table.one_each, there.0),
      allowed _ _ _ _ _ (λ n. n)
          (neighbour_loaded 0 (step c.args.words.now.table.shared.table_id.slots c.args.entry.0 0 0 none)
          c.args.seat.now.me)
          (loads_against_at (setup_of c.args.words.now.table.shared.key)
          b c.args.words.now.table.shared.table_id.slots c.args.seat.now.id c.args.seat.now.me c.args.seat.now.me.0.node
          c.args.seat.now.me.0.count c.args.entry.0 q.call
          (in_of_row b.nodes b.links c.args.seat.now.me.0.node c.args.entry.0 here)),
    )

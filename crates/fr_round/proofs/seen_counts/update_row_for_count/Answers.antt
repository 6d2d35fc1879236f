use Rattle.std.proofs.Common.{◌≡◌, ◌+◌, List, ap, arith, get_or, length, slice_index, subst, sym, true, ◌∙◌, ℕ}
use Rattle.fr_graph.proofs.Neighbours.{length-row-le}
use Rattle.fr_graph.specs.Rows.{row}
use Rattle.fr_graph.specs.declared.first.First.{First}
use Rattle.fr_graph.specs.declared.first.First.TheVariants.{Outward}
use Rattle.fr_round.specs.Missing.{misses}
use Rattle.fr_round.proofs.MissingNumbers.{IsLoweredTo, all_counted, all_lowered, newly_meets_bound, counted_on}
use Rattle.fr_round.proofs.MissingNumbers.{lowered_no, lowered_yes, one_at_most}
use Rattle.fr_round.proofs.MissingNumbers.{other_node, room_to_lower}
use Rattle.fr_round.proofs.seen_counts.update_row_for_count.Goals as goal
use Rattle.fr_round.proofs.seen_counts.update_row_for_count.Goals.{then-newly_meets_bound, else-newly_meets_bound}

pub bounds-counts-at : goal.bounds-counts-at
bounds-counts-at c =
    let net = c.args.net.now in
    let e = other_node net.nodes net.links c.args.y c.row-neighbour-items.result.now c.loop-neighbour.neighbour-index
    c.network_law.ensures.is_net c.row-neighbour-items.ensures c.loop-neighbour-test.true in
    omega (arith, e.0, c.requires.one_each.0)

pub bounds-missing-at : goal.bounds-missing-at
bounds-missing-at c =
    let net = c.args.net.now in
    let e = other_node net.nodes net.links c.args.y c.row-neighbour-items.result.now c.loop-neighbour.neighbour-index
    c.network_law.ensures.is_net c.row-neighbour-items.ensures c.loop-neighbour-test.true in
    omega (arith, e.0, c.loop-neighbour.invariant.lowered.as_many)

pub overflow_sub-missing : goal.overflow_sub-missing
overflow_sub-missing c =
    let net = c.args.net.now in
    let counts = c.args.counts.now in
    let had : ℕ = slice_index counts c.args.y in
    let e = get_or c.row-neighbour-items.result.now c.loop-neighbour.neighbour-index (0, Outward) in
    let begins : newly_meets_bound counts had c.args.count e ≡ true =
    sym c.newly_meets_bound.ensures ∙ c.if-newly_meets_bound.true in
    room_to_lower net.nodes net.links c.row-neighbour-items.result.now counts c.loop-neighbour.missing c.args.y
    c.args.count
    c.loop-neighbour.neighbour-index c.network_law.ensures.is_net c.row-neighbour-items.ensures c.requires.node
    c.requires.one_each.0 c.requires.up c.loop-neighbour.invariant.lowered c.loop-neighbour-test.true begins

pub bounds-missing-at-then-newly_meets_bound : goal.bounds-missing-at-then-newly_meets_bound
bounds-missing-at-then-newly_meets_bound c =
    let net = c.args.net.now in
    let e = other_node net.nodes net.links c.args.y c.row-neighbour-items.result.now c.loop-neighbour.neighbour-index
    c.network_law.ensures.is_net c.row-neighbour-items.ensures c.loop-neighbour-test.true in
    omega (arith, e.0, c.loop-neighbour.invariant.lowered.as_many)

pub loop-neighbour-preserved : goal.loop-neighbour-preserved
loop-neighbour-preserved c =
    let net = c.args.net.now in
    let is_net = c.network_law.ensures.is_net in
    let list = c.row-neighbour-items.result.now in
    let counts = c.args.counts.now in
    let y : ℕ = c.args.y in
    let count : ℕ = c.args.count in
    let had : ℕ = slice_index counts y in
    let j : ℕ = c.loop-neighbour.neighbour-index in
    let e = get_or list j (0, Outward) in
    let tested : newly_meets_bound counts had count e ≡ c.newly_meets_bound.result = sym c.newly_meets_bound.ensures in
    let missed : misses counts count e ≡ c.is_below_bound.result = sym c.is_below_bound.ensures in
    let passed = counted_on list counts count c.loop-neighbour.own j c.from-own.result c.is_below_bound.result
    c.loop-neighbour.invariant.counted c.loop-neighbour-test.true missed c.from-own.ensures in
    elim c.if-newly_meets_bound.branch [
      | then-newly_meets_bound w ↦
          let begins : newly_meets_bound counts had count e ≡ true = tested ∙ w.if-newly_meets_bound.true in
          let room = room_to_lower net.nodes net.links list counts c.loop-neighbour.missing y count j is_net
          c.row-neighbour-items.ensures c.requires.node c.requires.one_each.0 c.requires.up
          c.loop-neighbour.invariant.lowered c.loop-neighbour-test.true begins in record {
            lowered =
                subst (λ (m : List ℕ). IsLoweredTo net.nodes net.links list counts m y count (j + 1)) (sym w.missing-is)
                (lowered_yes net.nodes net.links list counts c.loop-neighbour.missing y count j is_net
                c.row-neighbour-items.ensures c.loop-neighbour.invariant.lowered c.loop-neighbour-test.true begins
                room);
            counted = passed;
          }
      | else-newly_meets_bound w ↦ record {
        lowered =
            subst (λ (m : List ℕ). IsLoweredTo net.nodes net.links list counts m y count (j + 1)) (sym w.missing-is)
            (lowered_no net.nodes net.links list counts c.loop-neighbour.missing y count j
            c.loop-neighbour.invariant.lowered c.loop-neighbour-test.true (tested ∙ w.if-newly_meets_bound.false));
        counted = passed;
      }
    ]

pub overflow_add-own : goal.overflow_add-own
overflow_add-own c =
    let net = c.args.net.now in
    let same : length c.row-neighbour-items.result.now ≡ length (row net.nodes net.links c.args.y) =
    ap (λ (l : List (ℕ × First)). length l) c.row-neighbour-items.ensures in
    omega (
      arith,
      length-row-le net.nodes net.links c.args.y,
      same,
      c.loop-neighbour.invariant.counted.few,
      c.loop-neighbour-test.true,
      c.network_law.ensures.limits.nodes_few,
      one_at_most c.is_below_bound.result c.from-own.result c.from-own.ensures,
    )

pub returns-clause-others : goal.returns-clause-others
returns-clause-others c =
    let net = c.args.net.now in
    all_lowered net.nodes net.links c.row-neighbour-items.result.now c.args.counts.now c.loop-neighbour.missing c.args.y
    c.args.count c.loop-neighbour.neighbour-index c.network_law.ensures.is_net c.row-neighbour-items.ensures
    c.requires.node c.requires.one_each.0 c.requires.up c.loop-neighbour.invariant.lowered c.loop-neighbour-test.false

pub returns-clause-own : goal.returns-clause-own
returns-clause-own c =
    let net = c.args.net.now in
    all_counted net.nodes net.links c.row-neighbour-items.result.now c.args.counts.now c.args.y c.args.count
    c.loop-neighbour.own c.loop-neighbour.neighbour-index c.network_law.ensures.is_net c.row-neighbour-items.ensures
    c.requires.node c.requires.one_each.0 c.loop-neighbour.invariant.counted c.loop-neighbour-test.false

use Rattle.std.proofs.Common.{List, ap, arith, length, refl, replicate, set, slice_index, sym, ◌∙◌, ◌≡◌, ◌≤◌}
use Rattle.fr_graph.proofs.TwoEnds.{ahead_meets, behind_meets, ended_ahead, ended_behind, sides_begin}
use Rattle.fr_graph.proofs.Sides.{none_left, other_stays, own_side}
use Rattle.fr_graph.specs.KeptRows.{net_in}
use Rattle.fr_graph.specs.PathSearch.{IsSide, Meets}
use Rattle.fr_graph.specs.declared.path_search.Met.{Met}
use Rattle.fr_graph.specs.declared.path_search.Met.TheVariants.{Backward, Forward, Never}
use Rattle.fr_graph.specs.declared.first.First.TheVariants.{Inward, Outward}
use Rattle.fr_graph.proofs.path_search.path_between.Goals as goal
use Rattle.fr_graph.proofs.path_search.path_between.Goals.{Joined-should_read_next, else-should_read_next, else-has_unread_rows-2, else-loop-behind-test}
use Rattle.fr_graph.proofs.path_search.path_between.Goals.{then-should_read_next, then-has_unread_rows-2, then-loop-behind-test+else-has_unread_rows}

pub loop-behind-init : goal.loop-behind-init
loop-behind-init c =
    let net = net_in c.args.rows.now in
    let heights = c.args.heights.now.heights in
    let fresh : c.as_mut_slice-met.result.now ≡ replicate net.nodes Never = c.as_mut_slice-met.ensures.value
    ∙ c.in_ok-table.ensures.items_if_clones_equal (λ y e. e) ∙ ap (λ n. replicate n Never) c.len-nodes.ensures in
    let met : List Met = set (set c.as_mut_slice-met.result.now c.args.from Forward) c.args.to Backward in
    let begun = sides_begin net heights c.args.from c.args.to met c.in_ok-ahead.ahead c.in_ok-behind.behind c.requires.from
    c.requires.to c.requires.apart c.requires.no_higher (rw fresh refl)
    (rw (c.height-low.ensures, c.len-nodes.ensures) at c.in_ok-ahead.ensures) (rw (c.height-high.ensures, c.len-nodes.ensures) at c.in_ok-behind.ensures) in
    record { ahead = begun.0; behind = begun.1 }

pub from_start-requires : goal.from_start-requires
from_start-requires c = rw c.len-nodes.ensures c.requires.from

pub from_start-requires-2 : goal.from_start-requires-2
from_start-requires-2 c = rw c.len-nodes.ensures c.requires.to

pub read_next_row-meets-requires-clause-rows : goal.read_next_row-meets-requires-clause-rows
read_next_row-meets-requires-clause-rows c = c.requires.rows

pub read_next_row-meets-requires-clause-unread : goal.read_next_row-meets-requires-clause-unread
read_next_row-meets-requires-clause-unread c = c.has_unread_rows.ensures.0 c.loop-behind-test.true

pub read_next_row-meets-requires-else-should_read_next-clause-rows : goal.read_next_row-meets-requires-else-should_read_next-clause-rows
read_next_row-meets-requires-else-should_read_next-clause-rows c = c.requires.rows

pub read_next_row-meets-requires-else-should_read_next-clause-unread : goal.read_next_row-meets-requires-else-should_read_next-clause-unread
read_next_row-meets-requires-else-should_read_next-clause-unread c = c.has_unread_rows-in-loop-behind.ensures.0 c.if-has_unread_rows.true

pub read_next_row-meets-requires-clause-side : goal.read_next_row-meets-requires-clause-side
read_next_row-meets-requires-clause-side c = own_side c.loop-behind.invariant.ahead

pub read_next_row-meets-requires-else-should_read_next-clause-side : goal.read_next_row-meets-requires-else-should_read_next-clause-side
read_next_row-meets-requires-else-should_read_next-clause-side c = own_side c.loop-behind.invariant.behind

-- both sides after one of them has read a row
ahead_then : (c : Joined-should_read_next) → IsSide (net_in c.args.rows.now) c.args.heights.now.heights Outward c.args.from
    (slice_index c.args.heights.now.heights c.args.to) c.if-should_read_next.met c.if-should_read_next.ahead
ahead_then c =
    let inv = c.loop-behind.invariant in
    elim c.if-should_read_next.branch [
      | then-should_read_next w ↦ rw (w.met-is, w.ahead-is) (rw (inv.ahead.first_is, inv.ahead.start_is, inv.ahead.limit_is) at w.read_next_row-meets.ensures.side)
      | else-should_read_next w ↦ rw (w.met-is, w.ahead-is) (other_stays Inward inv.behind.first_is w.read_next_row-meets-else-should_read_next.ensures.more inv.ahead)
    ]

behind_then : (c : Joined-should_read_next) → IsSide (net_in c.args.rows.now) c.args.heights.now.heights Inward c.args.to
    (slice_index c.args.heights.now.heights c.args.from) c.if-should_read_next.met c.if-should_read_next.behind
behind_then c =
    let inv = c.loop-behind.invariant in
    elim c.if-should_read_next.branch [
      | then-should_read_next w ↦ rw (w.met-is, w.behind-is) (other_stays Outward inv.ahead.first_is w.read_next_row-meets.ensures.more inv.behind)
      | else-should_read_next w ↦ rw (w.met-is, w.behind-is)
          (rw (inv.behind.first_is, inv.behind.start_is, inv.behind.limit_is) at w.read_next_row-meets-else-should_read_next.ensures.side)
    ]

pub returns-then-meets : goal.returns-then-meets
returns-then-meets c = elim c.if-should_read_next.branch [
  | then-should_read_next w ↦
      let inv = c.loop-behind.invariant in
      let at = (goal.at.returns-then-meets c).Joined-should_read_next in
      let meets : Meets c.loop-behind.ahead.first (net_in c.args.rows.now).links w.read_next_row-meets.new.met =
      rw (sym w.meets-is ∙ c.if-meets.true) at w.read_next_row-meets.ensures.answer in
      ahead_meets (ahead_then at) (behind_then at) (rw w.met-is (rw inv.ahead.first_is at meets))
  | else-should_read_next w ↦
      let inv = c.loop-behind.invariant in
      let at = (goal.at.returns-then-meets c).Joined-should_read_next in
      let meets : Meets c.loop-behind.behind.first (net_in c.args.rows.now).links w.read_next_row-meets-else-should_read_next.new.met =
      rw (sym w.meets-is ∙ c.if-meets.true) at w.read_next_row-meets-else-should_read_next.ensures.answer in
      behind_meets (ahead_then at) (behind_then at) (rw w.met-is (rw inv.behind.first_is at meets))
]

pub loop-behind-smaller : goal.loop-behind-smaller
loop-behind-smaller c = elim c.if-should_read_next.branch [
  | then-should_read_next w ↦
      let read = w.read_next_row-meets.ensures in
      let one_more = rw (sym w.meets-is ∙ c.if-meets.false) at read.answer in
      rw (w.met-is, w.ahead-is, w.behind-is) (omega (arith, read.more.counted, read.more.longer, one_more, c.has_unread_rows.ensures.0 c.loop-behind-test.true))
  | else-should_read_next w ↦
      let read = w.read_next_row-meets-else-should_read_next.ensures in
      let one_more = rw (sym w.meets-is ∙ c.if-meets.false) at read.answer in
      rw (w.met-is, w.ahead-is, w.behind-is)
      (omega (arith, read.more.counted, read.more.longer, one_more, c.has_unread_rows-in-loop-behind.ensures.0 c.if-has_unread_rows.true))
]

pub loop-behind-preserved : goal.loop-behind-preserved
loop-behind-preserved c = let at = (goal.at.loop-behind-preserved c).Joined-should_read_next in record { ahead = ahead_then at; behind = behind_then at }

pub returns : goal.returns
returns c =
    let inv = c.loop-behind.invariant in
    let falling = c.requires.rows.falling in
    elim c.if-has_unread_rows-2.branch [
      | then-has_unread_rows-2 t ↦
          let all : length c.loop-behind.behind.nodes.items ≤ c.loop-behind.behind.read = elim c.loop-behind-test.branch [
            | then-loop-behind-test+else-has_unread_rows w ↦ none_left w.if-has_unread_rows.false w.has_unread_rows-in-loop-behind.ensures
            | else-loop-behind-test w ↦ absurd
                (omega (arith, c.has_unread_rows-2.ensures.0 t.if-has_unread_rows-2.true, none_left w.loop-behind-test.false c.has_unread_rows.ensures))
          ] in
          rw (t.result-is, t.answer_without_path.ensures) (ended_behind falling inv.ahead inv.behind all)
      | else-has_unread_rows-2 t ↦
          let all : length c.loop-behind.ahead.nodes.items ≤ c.loop-behind.ahead.read = none_left t.if-has_unread_rows-2.false c.has_unread_rows-2.ensures in
          rw (t.result-is, t.answer_without_path-else-has_unread_rows-2.ensures) (ended_ahead falling inv.ahead inv.behind all)
    ]

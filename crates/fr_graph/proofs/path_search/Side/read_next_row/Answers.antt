use Rattle.std.proofs.Common.{ap, arith, get_or, inl, inr, length, refl, slice_index, sym, true, ℕ, ◌+◌, ◌<◌, ◌∙◌, ◌≡◌}
use Rattle.std.proofs.lemmas.List.{get_or_default}
use Rattle.fr_graph.proofs.SideRows.{entry_below, entry_leads, entry_leads_by_height, leads_lies, passed_more, passed_stays, side_reads}
use Rattle.fr_graph.proofs.MetNodes.{more_after, more_by_edges, more_read, same_more, with_edge_nearer}
use Rattle.fr_graph.proofs.Sides.{next_below, side_goes_on, side_moves}
use Rattle.fr_graph.specs.KeptRows.{net_in}
use Rattle.fr_graph.specs.PathSearch.{HasMet, HasPassed, IsBeyond, IsMetOrAside, IsPast, LeadsOn, LiesOn}
use Rattle.fr_graph.specs.RowLists.{opposite}
use Rattle.fr_graph.specs.Rows.{row}
use Rattle.fr_graph.specs.declared.path_search.Side.{Side}
use Rattle.fr_graph.specs.declared.first.First.{First}
use Rattle.fr_graph.specs.declared.first.First.TheVariants.{Outward}
use Rattle.fr_graph.proofs.path_search.Side.read_next_row.Goals as goal
use Rattle.fr_graph.proofs.path_search.Side.read_next_row.Goals.{After-may_extend_to, After-row-row, else-may_extend_to-via-then-may_extend_to+else-mark_if_unmet}
use Rattle.fr_graph.proofs.path_search.Side.read_next_row.Goals.{else-may_extend_to-via-else-may_extend_to}

pub height-own-requires : goal.height-own-requires
height-own-requires c = omega (arith, next_below c.index-node.result.now c.requires.side c.requires.unread c.index-node.ensures, c.requires.rows.one_each)

pub row-row-requires : goal.row-row-requires
row-row-requires c = next_below c.index-node.result.now c.requires.side c.requires.unread c.index-node.ensures

-- the current row is that of a node
row_is : (c : After-row-row) → c.row-row.result.now ≡ row (net_in c.args.rows.now).nodes (net_in c.args.rows.now).links c.index-node.result.now
row_is c = c.row-row.ensures ∙ c.requires.rows.shown.rows.shown c.index-node.result.now
    (next_below c.index-node.result.now c.requires.side c.requires.unread c.index-node.ensures)

pub loop-neighbour-init : goal.loop-neighbour-init
loop-neighbour-init c = record {
  side = c.requires.side;
  more = same_more c.args.self.now c.args.met.now;
  same_read = refl;
  nearer = λ height past. past;
  passed = λ k d before. absurd (omega (arith, before));
}

pub height-height-requires : goal.height-height-requires
height-height-requires c =
    let net = net_in c.args.rows.now in
    omega (
      arith,
      entry_below net.nodes net.links c.index-node.result.now c.row-row.result.now
          c.loop-neighbour.neighbour-index (0, Outward) (row_is (goal.at.height-height-requires c).After-row-row)
          c.loop-neighbour-test.true,
      c.requires.rows.one_each,
    )

-- the current entry
abbrev entry : (c : After-may_extend_to) → ℕ × First
entry c = get_or c.row-row.result.now c.loop-neighbour.neighbour-index (0, Outward)

abbrev height_of : (c : After-may_extend_to) → ℕ → ℕ
height_of c x = slice_index c.args.heights.now.heights x

below : (c : After-may_extend_to) → (entry c).0 < (net_in c.args.rows.now).nodes
below c =
    let net = net_in c.args.rows.now in
    entry_below net.nodes net.links c.index-node.result.now c.row-row.result.now c.loop-neighbour.neighbour-index
    (0, Outward) (row_is (goal.at.After-may_extend_to c).After-row-row) c.loop-neighbour-test.true

unread : (c : After-may_extend_to) → c.loop-neighbour.self.read < length c.loop-neighbour.self.nodes.items
unread c = omega (arith, c.loop-neighbour.invariant.same_read, c.loop-neighbour.invariant.more.longer, c.requires.unread)

-- if the side goes on, it leads on to the node of the entry, which is within the limit
step : (c : After-may_extend_to) → c.may_extend_to.result ≡ true → LeadsOn c.args.self.now.first (net_in c.args.rows.now).links c.index-node.result.now (entry c).0
step c is =
    let net = net_in c.args.rows.now in
    let f = c.args.self.now.first in
    let x = c.index-node.result.now in
    let lies : LiesOn f (height_of c x) (height_of c (entry c).0) =
    rw (c.loop-neighbour.invariant.side.first_is, c.height-own.ensures, c.height-height.ensures) at (c.may_extend_to.ensures.lies is) in
    entry_leads_by_height f net.nodes c.args.heights.now.heights net.links x c.row-row.result.now
    c.loop-neighbour.neighbour-index (0, Outward) c.requires.rows.falling (row_is (goal.at.After-may_extend_to c).After-row-row) c.loop-neighbour-test.true lies

-- the node of the current row is at its place
at_read : (c : After-may_extend_to) → get_or c.loop-neighbour.self.nodes.items c.loop-neighbour.self.read 0 ≡ c.index-node.result.now
at_read c =
    let inv = c.loop-neighbour.invariant in
    rw inv.same_read (inv.more.stands c.args.self.now.read c.requires.unread
    ∙ get_or_default c.args.self.now.nodes.items c.args.self.now.read 0 c.index-node.result.now c.requires.unread ∙ sym c.index-node.ensures)

from_read : (c : After-may_extend_to) → c.may_extend_to.result ≡ true → LeadsOn c.args.self.now.first (net_in c.args.rows.now).links
    (get_or c.loop-neighbour.self.nodes.items c.loop-neighbour.self.read 0) (entry c).0
from_read c is = rw (at_read c) (step c is)

near : (c : After-may_extend_to) → c.may_extend_to.result ≡ true → ¬ IsBeyond c.args.self.now.first c.args.self.now.limit (height_of c (entry c).0)
near c is =
    let inv = c.loop-neighbour.invariant in
    rw (inv.side.first_is, inv.side.limit_is, c.height-height.ensures) at (c.may_extend_to.ensures.within is)

-- otherwise it skips the node, if the link leads on
aside : (c : After-may_extend_to) → ¬ (c.may_extend_to.result ≡ true) → (entry c).1 ≡ c.args.self.now.first
    → IsMetOrAside c.args.self.now.first (record c.loop-neighbour.self { edge = c.nearer_height-edge.result }) c.loop-neighbour.met
    (entry c).0 (height_of c (entry c).0)
aside c other same =
    let net = net_in c.args.rows.now in
    let f = c.args.self.now.first in
    let x = c.index-node.result.now in
    let leads = entry_leads f net.nodes net.links x c.row-row.result.now c.loop-neighbour.neighbour-index (0, Outward)
    (row_is (goal.at.After-may_extend_to c).After-row-row) c.loop-neighbour-test.true same in
    let lies : LiesOn c.loop-neighbour.self.first c.height-own.result c.height-height.result =
    rw (c.loop-neighbour.invariant.side.first_is, c.height-own.ensures, c.height-height.ensures)
    (leads_lies f c.args.heights.now.heights net.links x (entry c).0 c.requires.rows.falling leads) in
    let beyond = c.may_extend_to.ensures.beyond other lies in
    inr record { beyond = rw c.height-height.ensures at beyond; past = rw c.height-height.ensures at (c.nearer_height-edge.ensures.past beyond) }

pub mark_if_unmet-requires-clause-node : goal.mark_if_unmet-requires-clause-node
mark_if_unmet-requires-clause-node c = omega (arith, below (goal.at.mark_if_unmet-requires-clause-node c).After-may_extend_to, c.loop-neighbour.invariant.side.one_each)

pub mark_if_unmet-requires-clause-room : goal.mark_if_unmet-requires-clause-room
mark_if_unmet-requires-clause-room c = c.loop-neighbour.invariant.side.room

pub returns-then-mark_if_unmet-clause-more : goal.returns-then-mark_if_unmet-clause-more
returns-then-mark_if_unmet-clause-more c =
    let at = (goal.at.returns-then-mark_if_unmet-clause-more c).After-may_extend_to in
    let is = c.if-may_extend_to.true in
    more_after c.loop-neighbour.invariant.more
    (side_goes_on (entry at).0 (below at) (unread at) (from_read at is) (near at is) c.mark_if_unmet.ensures.change c.loop-neighbour.invariant.side).1

pub returns-then-mark_if_unmet-clause-side : goal.returns-then-mark_if_unmet-clause-side
returns-then-mark_if_unmet-clause-side c =
    let at = (goal.at.returns-then-mark_if_unmet-clause-side c).After-may_extend_to in
    let is = c.if-may_extend_to.true in
    (side_goes_on (entry at).0 (below at) (unread at) (from_read at is) (near at is) c.mark_if_unmet.ensures.change c.loop-neighbour.invariant.side).0

pub returns-then-mark_if_unmet-clause-answer : goal.returns-then-mark_if_unmet-clause-answer
returns-then-mark_if_unmet-clause-answer c =
    let at = (goal.at.returns-then-mark_if_unmet-clause-answer c).After-may_extend_to in
    let inv = c.loop-neighbour.invariant in
    let f = c.args.self.now.first in
    let is = c.if-may_extend_to.true in
    let x = c.index-node.result.now in
    let on = side_goes_on (entry at).0 (below at) (unread at) (from_read at is) (near at is) c.mark_if_unmet.ensures.change inv.side in
    let stands = on.1.stands c.loop-neighbour.self.read (unread at) ∙ at_read at in
    let own : HasMet f c.mark_if_unmet.new.met x = rw stands at (on.0.all_met c.loop-neighbour.self.read 0 (omega (arith, unread at, on.1.longer))) in
    let other : HasMet (opposite f) c.mark_if_unmet.new.met (entry at).0 = rw inv.side.first_is at (c.mark_if_unmet.ensures.other c.if-mark_if_unmet.true) in
    record { own = x; other = (entry at).0; own_met = own; other_met = other; leads = step at is }

pub loop-neighbour-preserved : goal.loop-neighbour-preserved
loop-neighbour-preserved c =
    let at = (goal.at.loop-neighbour-preserved c).After-may_extend_to in
    let inv = c.loop-neighbour.invariant in
    let f = c.args.self.now.first in
    let heights = c.args.heights.now.heights in
    let place = c.loop-neighbour.neighbour-index in
    let edge = c.nearer_height-edge.result in
    let nearer : (height : ℕ) → IsPast f c.loop-neighbour.edge height → IsPast f edge height = rw inv.side.first_is at c.nearer_height-edge.ensures.nearer in
    elim c.else-may_extend_to.branch [
      | else-may_extend_to-via-then-may_extend_to+else-mark_if_unmet w ↦
          let is = w.if-may_extend_to.true in
          let on = side_goes_on (entry at).0 (below at) (unread at) (from_read at is) (near at is) w.mark_if_unmet.ensures.change inv.side in
          let met : HasMet f w.mark_if_unmet.new.met (entry at).0 = rw inv.side.first_is at (w.mark_if_unmet.ensures.met (λ is. cc (is, w.if-mark_if_unmet.false))) in
          rw (w.self-is, w.met-is) record {
            side = on.0;
            more = more_after inv.more on.1;
            same_read = on.2 ∙ inv.same_read;
            nearer = λ height past. nearer height (inv.nearer height (rw on.3 at past));
            passed = passed_more heights f (record w.mark_if_unmet.new.self { edge = edge }) w.mark_if_unmet.new.met c.row-row.result.now
                place (0, Outward) (passed_stays heights c.row-row.result.now place inv.side.first_is
                (more_by_edges inv.side.first_is nearer on.1) inv.passed) c.loop-neighbour-test.true (λ _. inl met);
          }
      | else-may_extend_to-via-else-may_extend_to w ↦
          rw (w.self-is, w.met-is) record {
            side = inv.side;
            more = inv.more;
            same_read = inv.same_read;
            nearer = λ height past. nearer height (inv.nearer height past);
            passed = passed_more heights f (record c.loop-neighbour.self { edge = edge })
                c.loop-neighbour.met c.row-row.result.now place (0, Outward)
                (passed_stays heights c.row-row.result.now place inv.side.first_is
                (more_by_edges inv.side.first_is nearer (same_more c.loop-neighbour.self c.loop-neighbour.met)) inv.passed)
                c.loop-neighbour-test.true (aside at (λ is. cc (is, w.if-may_extend_to.false)));
          }
    ]

pub returns-clause-side : goal.returns-clause-side
returns-clause-side c =
    let inv = c.loop-neighbour.invariant in
    let net = net_in c.args.rows.now in
    let x = c.index-node.result.now in
    let read : Side = record c.loop-neighbour.self { edge = c.loop-neighbour.edge } in
    let at_read : get_or read.nodes.items read.read 0 ≡ x =
    rw inv.same_read (inv.more.stands c.args.self.now.read c.requires.unread
    ∙ get_or_default c.args.self.now.nodes.items c.args.self.now.read 0 x c.requires.unread ∙ sym c.index-node.ensures) in
    let all : c.loop-neighbour.neighbour-index ≡ length c.row-row.result.now = omega arith in
    let passed : HasPassed c.args.heights.now.heights c.args.self.now.first read c.loop-neighbour.met
    (row net.nodes net.links x) (length (row net.nodes net.links x)) = rw (all, row_is (goal.at.returns-clause-side c).After-row-row) at inv.passed in
    side_reads x c.requires.rows.shown.is_net (omega (arith, inv.same_read, inv.more.longer, c.requires.unread))
    at_read passed (side_moves (with_edge_nearer inv.side.first_is inv.nearer) inv.side)

pub returns-clause-answer : goal.returns-clause-answer
returns-clause-answer c = ap (λ (k : ℕ). k + 1) c.loop-neighbour.invariant.same_read

pub returns-clause-more : goal.returns-clause-more
returns-clause-more c = more_read c.loop-neighbour.invariant.nearer c.loop-neighbour.invariant.more

use Rattle.std.proofs.Common.{Bool, Contains, ap, arith, false, get_or, length, ℕ, ◌≡◌, ◌∙◌}
use Rattle.std.proofs.lemmas.List.Elements.{Contains-get_or}
use Rattle.fr_graph.proofs.Neighbours.{neighbours_rise}
use Rattle.fr_graph.proofs.PartTurned.{IsNext, half_begins, half_ends, half_more, is_halfway, length_shown, neighbour_back, neighbour_listed}
use Rattle.fr_graph.proofs.PartTurned.{neighbour_passed, neighbour_turned, next_neighbour, nodes_done, own_row_turned, shown_below}
use Rattle.fr_graph.specs.Network.{Network}
use Rattle.fr_graph.specs.RowLists.{opposite}
use Rattle.fr_graph.specs.Rows.{row}
use Rattle.fr_graph.specs.TurnedRows.{ArePartTurned, is_done}
use Rattle.fr_graph.specs.declared.first.First.TheVariants.{Outward}
use Rattle.fr_graph.proofs.turned_rows.turn_node.Goals as goal
use Rattle.fr_graph.proofs.turned_rows.turn_node.Goals.{After-row, After-row-place-end, else-counts-w-eq0, then-counts-w-eq0}

-- after its own row is turned
own_turned : (c : After-row-place-end) (net : Network) (seen : ℕ → Bool) → seen c.args.x ≡ false
    → ArePartTurned net c.args.counts.now (is_done c.args.counts.now seen) c.args.rows.now
    → ArePartTurned net c.args.counts.now (is_halfway c.args.counts.now seen c.args.x 0) c.turn_row.new.self
own_turned c net seen unseen part =
    rw c.turn_row.ensures (own_row_turned net c.args.counts.now seen c.args.x c.args.rows.now unseen c.requires.turned
    (omega (arith, c.requires.node, part.counted)) part)

-- the loop runs over as many places as the row has
end_is : (c : After-row-place-end) (net : Network) (seen : ℕ → Bool) → seen c.args.x ≡ false
    → ArePartTurned net c.args.counts.now (is_done c.args.counts.now seen) c.args.rows.now
    → length c.row-place-end.result.now ≡ length (row net.nodes net.links c.args.x)
end_is c net seen unseen part =
    ap length c.row-place-end.ensures
    ∙ length_shown net c.args.counts.now (is_halfway c.args.counts.now seen c.args.x 0) c.args.x c.turn_row.new.self
    (own_turned c net seen unseen part) (omega (arith, c.requires.node, part.counted))

-- the neighbour at the place
next : (c : After-row) (net : Network) (seen : ℕ → Bool) → seen c.args.x ≡ false
    → ArePartTurned net c.args.counts.now (is_done c.args.counts.now seen) c.args.rows.now
    → IsNext net c.args.counts.now seen c.args.x c.loop-place.place c.loop-place.rows (get_or c.row.result.now c.loop-place.place (0, Outward)).0
next c net seen unseen part =
    rw c.row.ensures
    (next_neighbour net c.args.counts.now seen c.args.x c.loop-place.place c.loop-place.rows
    (c.loop-place.invariant net seen unseen part) (omega (arith, c.requires.node, part.counted))
    (omega (arith, c.loop-place-test.true, end_is (goal.at.After-row c).After-row-place-end net seen unseen part)))

pub turn_row-requires-clause-below : goal.turn_row-requires-clause-below
turn_row-requires-clause-below c =
    let net = c.requires.rows.0 in
    let seen = c.requires.rows.1 in
    let part = c.requires.rows.3 in
    rw (part.shown c.args.x (omega (arith, c.requires.node, part.counted)), part.counted)
    (shown_below net c.args.counts.now (is_done c.args.counts.now seen) c.args.x)

pub loop-place-init : goal.loop-place-init
loop-place-init c = λ net seen unseen part. half_begins net c.args.counts.now seen c.args.x c.turn_row.new.self (own_turned c net seen unseen part)

pub row-requires : goal.row-requires
row-requires c =
    let half = c.loop-place.invariant c.requires.rows.0 c.requires.rows.1 c.requires.rows.2 c.requires.rows.3 in
    omega (arith, c.requires.node, half.rows.counted, half.rows.one_each)

pub bounds-row-place : goal.bounds-row-place
bounds-row-place c =
    let net = c.requires.rows.0 in
    let seen = c.requires.rows.1 in
    let n = next c net seen c.requires.rows.2 c.requires.rows.3 in
    omega (
      arith,
      n.inside,
      ap length c.row.ensures,
      length_shown net c.args.counts.now
          (is_halfway c.args.counts.now seen c.args.x n.bound) c.args.x c.loop-place.rows n.rows (omega (arith, c.requires.node, n.rows.counted)),
    )

pub bounds-counts-w : goal.bounds-counts-w
bounds-counts-w c = let n = next (goal.at.bounds-counts-w c).After-row c.requires.rows.0 c.requires.rows.1 c.requires.rows.2
    c.requires.rows.3 in omega (arith, n.below, n.rows.counted)

pub reverse_entry-requires-clause-row : goal.reverse_entry-requires-clause-row
reverse_entry-requires-clause-row c = let n =
    next (goal.at.reverse_entry-requires-clause-row c).After-row c.requires.rows.0 c.requires.rows.1 c.requires.rows.2
    c.requires.rows.3 in omega (arith, n.below, n.rows.one_each)

pub reverse_entry-requires-clause-rising : goal.reverse_entry-requires-clause-rising
reverse_entry-requires-clause-rising c =
    let net = c.requires.rows.0 in
    let seen = c.requires.rows.1 in
    let n = next (goal.at.reverse_entry-requires-clause-rising c).After-row net seen c.requires.rows.2 c.requires.rows.3 in
    let w = (get_or c.row.result.now c.loop-place.place (0, Outward)).0 in
    rw (n.rows.shown w n.below, nodes_done net c.args.counts.now (is_halfway c.args.counts.now seen c.args.x n.bound) w) (neighbours_rise net.nodes net.links w)

pub reverse_entry-requires-clause-stands : goal.reverse_entry-requires-clause-stands
reverse_entry-requires-clause-stands c =
    let net = c.requires.rows.0 in
    let seen = c.requires.rows.1 in
    let n = next (goal.at.reverse_entry-requires-clause-stands c).After-row net seen c.requires.rows.2 c.requires.rows.3 in
    let x = c.args.x in
    let j = c.loop-place.place in
    let w = (get_or c.row.result.now j (0, Outward)).0 in
    let e = get_or (row net.nodes net.links x) j (0, Outward) in
    let back : Contains (row net.nodes net.links w) (x, opposite e.1) =
    rw (n.here (0, Outward)) at (neighbour_back net x e n.rows.is_net (Contains-get_or (row net.nodes net.links x) j (0, Outward) n.inside)) in
    rw (n.rows.shown w n.below, nodes_done net c.args.counts.now (is_halfway c.args.counts.now seen x n.bound) w)
    (neighbour_listed (row net.nodes net.links w) x (opposite e.1) back)

pub loop-place-preserved : goal.loop-place-preserved
loop-place-preserved c = λ net seen unseen part.
    let counts = c.args.counts.now in
    let x = c.args.x in
    let j = c.loop-place.place in
    let old = c.loop-place.rows in
    let w = (get_or c.row.result.now j (0, Outward)).0 in
    let n = next (goal.at.loop-place-preserved c).After-row net seen unseen part in
    elim c.if-counts-w-eq0.branch [
      | then-counts-w-eq0 b ↦ rw (b.rows-is, b.reverse_entry.ensures)
          (half_more net counts seen x j old _ w n
          (neighbour_turned net counts seen x n.bound j w old unseen c.requires.turned n.at n.inside n.here b.if-counts-w-eq0.true n.below n.rows))
      | else-counts-w-eq0 b ↦ rw b.rows-is
          (half_more net counts seen x j old old w n (neighbour_passed net counts seen x n.bound j w old n.at n.inside n.here b.if-counts-w-eq0.false n.rows))
    ]

pub returns : goal.returns
returns c = λ net seen unseen part.
    half_ends net c.args.counts.now seen c.args.x c.loop-place.place c.loop-place.rows (c.loop-place.invariant net seen unseen part)
    (omega (arith, c.loop-place-test.false, end_is (goal.at.returns c).After-row-place-end net seen unseen part))

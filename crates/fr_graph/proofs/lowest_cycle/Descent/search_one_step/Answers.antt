use Rattle.std.proofs.Common.{ap, arith, get_or, length, refl, ℕ, ◌+◌, ◌-◌, ◌<◌, ◌∙◌, ◌≡◌, ◌≢◌, ◌≤◌}
use Rattle.std.proofs.lemmas.List.{get_or_default}
use Rattle.fr_graph.proofs.LowestPaths.{descent_goes_down, descent_leaves, has_room, leads_not, passed_leads_not, top_below}
use Rattle.fr_graph.proofs.RowsRead.{read_through, read_up_to, top_is}
use Rattle.fr_graph.proofs.ShownLinks.{rows_rise}
use Rattle.fr_graph.proofs.SideRows.{entry_below, entry_leads}
use Rattle.fr_graph.specs.Descents.{HasRead, LeadsOnlyTo, nodes_of}
use Rattle.fr_graph.specs.Descents.{LeadsFirst, LeadsNot, LeadsToUnmet}
use Rattle.fr_graph.specs.KeptRows.{net_in}
use Rattle.fr_graph.specs.Rows.{row}
use Rattle.fr_graph.specs.Tables.{row_of}
use Rattle.fr_graph.specs.declared.first.First.{First}
use Rattle.fr_graph.specs.declared.first.First.TheVariants.{Outward}
use Rattle.fr_graph.proofs.lowest_cycle.Descent.search_one_step.Goals as goal
use Rattle.fr_graph.proofs.lowest_cycle.Descent.search_one_step.Goals.{After-first_allowed_place-place, After-index-top, After-row-row}

full : (c : After-index-top) → c.len-last.result - 1 + 1 ≡ length c.args.self.now.path.items
full c = omega (arith, c.len-last.ensures, c.requires.descent.full, c.args.self.now.path.ok.0)

node_is : (c : After-index-top) → get_or (nodes_of c.args.self.now.path.items) (c.len-last.result - 1) 0 ≡ c.index-top.result.now.node
node_is c = top_is c.args.self.now.path.items (c.len-last.result - 1) c.index-top.result.now (full c) c.index-top.ensures

apart : (c : After-index-top) → c.index-top.result.now.node ≢ c.args.self.now.to
apart c e = c.requires.apart (rw c.len-last.ensures at (node_is c) ∙ e)

was : (c : After-index-top) → HasRead c.args.rows.now (LeadsNot (net_in c.args.rows.now).links c.args.self.now.to) c.index-top.result.now
was c = rw (← c.index-top.ensures) at (c.requires.descent.read (c.len-last.result - 1) c.index-top.result.now (omega (arith, full c)))

-- the current row is that of a node
row_is : (c : After-row-row) → c.row-row.result.now ≡ row (net_in c.args.rows.now).nodes (net_in c.args.rows.now).links c.index-top.result.now.node
row_is c = c.row-row.ensures ∙ c.requires.rows.shown.rows.shown c.index-top.result.now.node
    (top_below c.requires.descent (c.len-last.result - 1) c.index-top.result.now (full (goal.at.After-row-row c).After-index-top) c.index-top.ensures)

pub first_allowed_place-place-requires-clause-below : goal.first_allowed_place-place-requires-clause-below
first_allowed_place-place-requires-clause-below c k d l =
    let net = net_in c.args.rows.now in
    omega (
      arith,
      entry_below net.nodes net.links c.index-top.result.now.node c.row-row.result.now k d
          (row_is (goal.at.first_allowed_place-place-requires-clause-below c).After-row-row) l,
      c.requires.descent.one_each,
    )

-- no links lead to the end from the neighbours before the place that was found
passed : (c : After-first_allowed_place-place) (k : ℕ) (d : ℕ × First) → c.index-top.result.now.next ≤ k → k < c.first_allowed_place-place.result
    → LeadsOnlyTo (LeadsNot (net_in c.args.rows.now).links c.args.self.now.to) (get_or (row_of c.args.rows.now c.index-top.result.now.node) k d)
passed c k d from lt =
    passed_leads_not c.requires.descent (c.len-last.result - 1) c.index-top.result.now k d c.requires.rows
    (full (goal.at.After-first_allowed_place-place c).After-index-top) c.index-top.ensures
    (omega (arith, lt, c.first_allowed_place-place.ensures.reach.1, ap length c.row-row.ensures))
    (rw c.row-row.ensures at (c.first_allowed_place-place.ensures.skipped k d from lt))

pub returns-then-place-row : goal.returns-then-place-row
returns-then-place-row c =
    let at = goal.at.returns-then-place-row c in
    let top = c.index-top.result.now in
    let to = c.args.self.now.to in
    let links = (net_in c.args.rows.now).links in
    let none : LeadsNot links to top.node = leads_not links to top.node (apart at.After-index-top)
    (read_through c.args.rows.now (LeadsNot links to) top c.first_allowed_place-place.result (was at.After-index-top) (passed at.After-first_allowed_place-place)
    (omega (arith, c.if-place-row.true, ap length c.row-row.ensures))) in
    descent_leaves c.requires.descent _ (c.len-last.result - 1) top.node (full at.After-index-top) (node_is at.After-index-top) none refl refl
    (rw c.len-last.ensures c.pop-left.ensures.rest) c.pop-left.ensures.capacity

inside : (c : After-first_allowed_place-place) → c.first_allowed_place-place.result ≢ length c.row-row.result.now → c.first_allowed_place-place.result < length c.row-row.result.now
inside c other = omega (arith, c.first_allowed_place-place.ensures.reach.1, other)

pub push_reserved-requires : goal.push_reserved-requires
push_reserved-requires c =
    let at = goal.at.push_reserved-requires c in
    let net = net_in c.args.rows.now in
    let place = c.first_allowed_place-place.result in
    let l = inside at.After-first_allowed_place-place c.if-place-row.false in
    omega (
      arith,
      has_room c.requires.descent (get_or c.row-row.result.now place (0, Outward)).0
          (entry_below net.nodes net.links c.index-top.result.now.node c.row-row.result.now place (0, Outward) (row_is at.After-row-row) l)
          (c.first_allowed_place-place.ensures.stops (0, Outward) l).1,
      c.args.self.now.path.ok.0,
    )

pub index_mut-requires-2 : goal.index_mut-requires-2
index_mut-requires-2 c =
    let at = goal.at.index_mut-requires-2 c in
    let net = net_in c.args.rows.now in
    omega (
      arith,
      entry_below net.nodes net.links c.index-top.result.now.node c.row-row.result.now c.first_allowed_place-place.result (0, Outward)
          (row_is at.After-row-row) (inside at.After-first_allowed_place-place c.if-place-row.false),
      c.requires.descent.one_each,
      c.args.self.now.met.ok.0,
    )

pub returns : goal.returns
returns c =
    let at = goal.at.returns c in
    let top = c.index-top.result.now in
    let to = c.args.self.now.to in
    let net = net_in c.args.rows.now in
    let entries = c.row-row.result.now in
    let place = c.first_allowed_place-place.result in
    let e : ℕ × First = get_or entries place (0, Outward) in
    let l : place < length entries = inside at.After-first_allowed_place-place c.if-place-row.false in
    let l_of : place < length (row_of c.args.rows.now top.node) = omega (arith, l, ap length c.row-row.ensures) in
    let stops : LeadsToUnmet c.args.self.now e = c.first_allowed_place-place.ensures.stops (0, Outward) l in
    let there : (d : ℕ × First) → (get_or (row_of c.args.rows.now top.node) place d).0 ≡ e.0 =
    λ d. rw (← c.row-row.ensures) (ap (λ (f : ℕ × First). f.0) (get_or_default entries place d (0, Outward) l)) in
    let goes : LeadsFirst net.links to top.node e.0 = record {
      apart = apart at.After-index-top;
      points = entry_leads Outward net.nodes net.links top.node entries place (0, Outward) (row_is at.After-row-row) l stops.0;
      lowest = read_up_to c.args.rows.now (LeadsNot net.links to) top place e.0
          (rows_rise net.nodes net.links c.args.rows.now c.requires.rows.shown.rows) (was at.After-index-top) (passed at.After-first_allowed_place-place) l_of there;
    } in
    descent_goes_down c.requires.descent _ (c.len-last.result - 1) place e.0 top (full at.After-index-top) c.index-top.ensures (omega (arith, l_of))
    (passed at.After-first_allowed_place-place) goes
    (entry_below net.nodes net.links top.node entries place (0, Outward) (row_is at.After-row-row) l) stops.1 refl refl c.push_reserved.ensures.items c.push_reserved.ensures.capacity

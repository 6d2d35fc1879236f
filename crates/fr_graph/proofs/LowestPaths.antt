-- The depth-first search for the lowest path keeps its state, and ends with that path. A link from the end of the path to
-- its beginning closes a cycle.
use Rattle.std.proofs.Common.{Bool, List, [], ap, arith, false, get_or, inl, inr, length, not, refl, replicate, set}
use Rattle.std.proofs.Common.{slice_index, subst, sym, take, true, vec_capacity, ℕ}
use Rattle.std.proofs.Common.{◌++◌, ◌+◌, ◌-◌, ◌<◌, ◌∙◌, ◌∷◌, ◌≡◌, ◌≢◌, ◌≤◌}
use Rattle.std.proofs.lemmas.Bool.{cases_eq, cases_lt}
use Rattle.std.proofs.lemmas.List.{get_or_append_left, get_or_default, get_or-set_other, get_or-take, length-map}
use Rattle.std.proofs.lemmas.List.{length-replicate, length-set, length-take-le}
use Rattle.std.proofs.lemmas.List.{length_push, map_push, take-map}
use Rattle.std.proofs.lemmas.List.Elements.{All-push, All-take, Contains-append_left, Contains-push}
use Rattle.std.proofs.lemmas.List.Sums.{count_by-le-length}
use Rattle.fr_graph.proofs.Acyclic.{path_falls}
use Rattle.fr_graph.proofs.AddedLinks.{added}
use Rattle.fr_graph.proofs.Counting.{count_by-set, one_passes}
use Rattle.fr_graph.proofs.Cycles.{end_from_last, path_from_steps}
use Rattle.fr_graph.proofs.Joining.{path_walks}
use Rattle.fr_graph.proofs.Lists.{all_default, push_cases}
use Rattle.fr_graph.proofs.LowestCycles.{all_lead}
use Rattle.fr_graph.proofs.RowsRead.{reads_on, same_nodes, top_is}
use Rattle.fr_graph.proofs.SideRows.{entry_leads}
use Rattle.fr_graph.specs.Descents.{HasRead, LeadsOnlyTo, nodes_of}
use Rattle.fr_graph.specs.Descents.{GoesOn, HasBegun, IsDescent, IsSkipped, LeadsFirst, LeadsNot, has_met, start_of}
use Rattle.fr_graph.specs.Descents.{unmet_count}
use Rattle.fr_graph.specs.Evidence.{IsLowestCycleBy}
use Rattle.fr_graph.specs.Heights.{AreFalling}
use Rattle.fr_graph.specs.KeptRows.{net_in}
use Rattle.fr_graph.specs.Links.{HasPath, IsCycle, IsPath, Points, end_of}
use Rattle.fr_graph.specs.PathSearch.{AreFallingRows}
use Rattle.fr_graph.specs.Tables.{Table, row_of}
use Rattle.fr_graph.specs.declared.lowest_cycle.Step.{Step}
use Rattle.fr_graph.specs.declared.first.First.{First}
use Rattle.fr_graph.specs.declared.first.First.TheVariants.{Outward}
use Rattle.fr_graph.specs.declared.lowest_cycle.Descent.{Descent}

-- no path leads up
pub leads_down : (links : List (ℕ × ℕ)) (heights : List ℕ) (x y : ℕ) → AreFalling heights links → HasPath links x y
    → slice_index heights y ≤ slice_index heights x
leads_down links heights x y falling path =
    omega (
      arith,
      path_falls links heights (λ u v stands. omega (arith, falling u v stands)) x path.0 path.1.0,
      ap (slice_index heights) path.1.1,
    )

-- no links lead from a node whose links lead to nodes from which none do
pub leads_not : (links : List (ℕ × ℕ)) (u x : ℕ) → x ≢ u → ((y : ℕ) → Points links x y → LeadsNot links u y)
    → LeadsNot links u x
leads_not links u x apart none ([], here) = apart here.1
leads_not links u x apart none (y ∷ ys, there) = none y there.0.0 (ys, (there.0.1, there.1))

-- the search when it begins
pub descent_begins : (rows : Table) (from to : ℕ) (descent : Descent) → from < length rows.rows → to < length rows.rows
    → HasPath (net_in rows).links from to → HasBegun (length rows.rows) from to descent
    → IsDescent rows descent × (start_of descent ≡ from)
descent_begins rows from to descent from_below to_below leads b =
    let none : List Bool = replicate (length rows.rows) false in
    let long : length none ≡ length rows.rows = length-replicate (length rows.rows) false in
    let links = (net_in rows).links in
    let start : Step = record { node = from; next = 0 } in
    let fewer = count_by-set not none from true false (omega (arith, long, from_below)) in
    let was_one : unmet_count (has_met none from ∷ []) ≡ 1 = rw (all_default (length rows.rows) from false) refl in
    let is_none : unmet_count (true ∷ []) ≡ 0 = refl in (
      record {
        one_each = rw b.met_is (length-set none from true ∙ long);
        to_below = rw b.to_is to_below;
        full = rw b.path_is (omega arith);
        leads = rw (b.path_is, b.to_is) leads;
        below = rw b.path_is (λ k d l. let e : k ≡ 0 = omega (arith, l) in rw e from_below);
        goes_on = rw b.path_is (λ k l. absurd (omega (arith, l)));
        read =
            rw b.path_is (All-push (HasRead rows (LeadsNot links descent.to)) [] start (λ k d l. absurd (omega (
              arith,
              l,
            )))
            (record { inside = omega arith; passed = λ k d lt. absurd (omega (arith, lt)) }));
        met = λ x met. rw b.path_is (elim (cases_eq x from) [
          | inl e ↦ inl (rw e (Contains-push [] from))
          | inr ne ↦ let was : has_met none x ≡ true =
              sym (get_or-set_other none from x true false ne) ∙ (rw b.met_is at met) in
              cc (was, all_default (length rows.rows) x false)
        ]);
        room =
            omega (
              arith,
              ap length b.path_is,
              ap unmet_count b.met_is,
              fewer,
              was_one,
              is_none,
              count_by-le-length not none,
              long,
              b.room,
            );
      },
      rw b.path_is refl,
    )

module _ {rows : Table} {descent : Descent} (s : IsDescent rows descent) where
  -- no links lead to the end from the nodes that the search skips in the row of its last node
  skipped_leads_not : {heights : List ℕ} (last x w : ℕ) → AreFallingRows rows heights
      → last + 1 ≡ length (nodes_of descent.path.items)
      → get_or (nodes_of descent.path.items) last 0 ≡ x → Points (net_in rows).links x w → IsSkipped heights descent w
      → LeadsNot (net_in rows).links descent.to w
  skipped_leads_not {heights} last x w falls full top step (inr low) path =
      omega (arith, low, leads_down (net_in rows).links heights w descent.to falls.falling path)
  skipped_leads_not {heights} last x w falls full top step (inl met) path =
      let nodes = nodes_of descent.path.items in
      elim (s.met w met) [
        | inr none ↦ none path
        | inl on ↦
            let end : on.0 + (last - on.0) ≡ last = omega (arith, on.1, full) in
            let above : slice_index heights x ≤ slice_index heights (get_or nodes on.0 0) =
            all_lead (LeadsFirst (net_in rows).links descent.to) (λ y. slice_index heights x ≤ slice_index heights y)
            (λ a b goes low. omega (arith, low, falls.falling a b goes.points)) nodes s.goes_on (last - on.0) on.0
            (omega (arith, on.1, full))
            (rw (end, top) (omega arith)) in
            let here : get_or nodes on.0 0 ≡ w = get_or_default nodes on.0 0 w on.1 ∙ on.2 in
            omega (arith, rw here at above, falls.falling x w step)
      ]

  -- the last node of the path is one of the nodes
  pub top_below : (last : ℕ) (top : Step) → last + 1 ≡ length descent.path.items
      → top ≡ get_or descent.path.items last top
      → top.node < length rows.rows
  top_below last top full is =
      let path = descent.path.items in
      omega (
        arith,
        s.below last 0 (omega (arith, full, length-map path (λ (s : Step). s.node))),
        top_is path last top full is,
      )

  -- so none do from the neighbours in that part of the row
  pub passed_leads_not : {heights : List ℕ} (last : ℕ) (top : Step) (k : ℕ) (d : ℕ × First)
      → AreFallingRows rows heights
      → last + 1 ≡ length descent.path.items → top ≡ get_or descent.path.items last top
      → k < length (row_of rows top.node)
      → LeadsOnlyTo (IsSkipped heights descent) (get_or (row_of rows top.node) k d)
      → LeadsOnlyTo (LeadsNot (net_in rows).links descent.to) (get_or (row_of rows top.node) k d)
  passed_leads_not last top k d falls full is l skipped out =
      let path = descent.path.items in
      let whole : last + 1 ≡ length (nodes_of path) = omega (arith, full, length-map path (λ (s : Step). s.node)) in
      let on_top = top_is path last top full is in
      let net = net_in rows in
      skipped_leads_not last top.node _ falls whole on_top
      (entry_leads Outward net.nodes net.links top.node (row_of rows top.node) k d
      (falls.shown.rows.shown top.node (top_below last top full is)) l out) (skipped out)

  -- the search goes back from a node from which no links lead to the end
  pub descent_leaves : (after : Descent) (last x : ℕ) → last + 1 ≡ length descent.path.items
      → get_or (nodes_of descent.path.items) last 0 ≡ x → LeadsNot (net_in rows).links descent.to x
      → after.to ≡ descent.to → after.met.items ≡ descent.met.items → after.path.items ≡ take last descent.path.items
      → vec_capacity after.path ≡ vec_capacity descent.path → GoesOn rows descent after
  descent_leaves after last x full top none to met path same_room =
      let old = descent.path.items in
      let nodes = nodes_of old in
      let links = (net_in rows).links in
      let whole : last + 1 ≡ length nodes = omega (arith, full, length-map old (λ (s : Step). s.node)) in
      let front : nodes_of (take last old) ≡ take last nodes = sym (take-map (λ (s : Step). s.node) last old) in
      let short : length (take last old) ≡ last = length-take-le last old (omega (arith, full)) in
      let shorter : length (take last nodes) ≡ last = length-take-le last nodes (omega (arith, whole)) in
      let more : 0 < last = elim (cases_lt 0 last) [
        | inl l ↦ l
        | inr g ↦ let e : last ≡ 0 = omega arith in absurd (none (rw (rw e at top) at s.leads))
      ] in
      let start : get_or (take last nodes) 0 0 ≡ get_or nodes 0 0 = get_or-take last nodes 0 0 more in
      record {
        descent = record {
          one_each = rw met s.one_each;
          to_below = rw to s.to_below;
          full = rw (path, short) more;
          leads = rw (path, front, start, to) s.leads;
          below = rw (path, front) (All-take (λ (x : ℕ). x < length rows.rows) last nodes s.below);
          goes_on = rw (path, front, to) (λ k h. rw (
            get_or-take last nodes k 0 (omega (arith, h, shorter)),
            get_or-take last nodes (k + 1) 0 (omega (arith, h, shorter)),
          ) (s.goes_on k (omega (arith, h, shorter, whole))));
          read = rw (path, to) (All-take (HasRead rows (LeadsNot links descent.to)) last old s.read);
          met = rw (path, front, to, met) (λ y was. elim (s.met y was) [
            | inr never ↦ inr never
            | inl on ↦ elim (cases_lt on.0 last) [
              | inl l ↦ inl (on.0, omega (arith, l, shorter), get_or-take last nodes on.0 y l ∙ on.2)
              | inr g ↦
                  let i : on.0 ≡ last = omega (arith, on.1, g, whole) in
                  let same : x ≡ y =
                  sym top ∙ ap (λ (k : ℕ). get_or nodes k 0) (sym i) ∙ get_or_default nodes on.0 0 y on.1 ∙ on.2 in
                  inr (rw same at none)
            ]
          ]);
          room = omega (arith, ap length path, ap unmet_count met, same_room, short, full, s.room);
        };
        same_start = rw (path, front) start;
        same_end = to;
        fewer = rw (met, path) (omega (arith, short, full));
      }

  -- the path has room for a node that the search has not met
  pub has_room : (x : ℕ) → x < length rows.rows → has_met descent.met.items x ≡ false
      → length descent.path.items < vec_capacity descent.path
  has_room x below fresh =
      let counts : not (has_met descent.met.items x) ≡ true = rw fresh refl in
      omega (arith, s.room, one_passes not descent.met.items x false (omega (arith, below, s.one_each)) counts)

  -- the search goes on to a node that it has not met
  pub descent_goes_down : (after : Descent) (last next x : ℕ) (top : Step) → last + 1 ≡ length descent.path.items
      → top ≡ get_or descent.path.items last top → next ≤ length (row_of rows top.node)
      → ((k : ℕ) (d : ℕ × First) → top.next ≤ k → k < next
      → LeadsOnlyTo (LeadsNot (net_in rows).links descent.to) (get_or (row_of rows top.node) k d))
      → LeadsFirst (net_in rows).links descent.to top.node x → x < length rows.rows
      → has_met descent.met.items x ≡ false
      → after.to ≡ descent.to → after.met.items ≡ set descent.met.items x true
      → after.path.items ≡ set descent.path.items last (record { node = top.node; next = next }) ++ record {
        node = x;
        next = 0;
      } ∷ []
      → vec_capacity after.path ≡ vec_capacity descent.path → GoesOn rows descent after
  descent_goes_down after last next x top full is inside passes goes below fresh to met path same_room =
      let old = descent.path.items in
      let nodes = nodes_of old in
      let links = (net_in rows).links in
      let moved = set old last (record { node = top.node; next = next }) in
      let new : Step = record { node = x; next = 0 } in
      let same : nodes_of (moved ++ new ∷ []) ≡ nodes ++ x ∷ [] =
      map_push (λ (s : Step). s.node) moved new
      ∙ ap (λ (ns : List ℕ). ns ++ x ∷ []) (same_nodes old last next top is) in
      let whole : length nodes ≡ length old = length-map old (λ (s : Step). s.node) in
      let long : length (nodes ++ x ∷ []) ≡ length nodes + 1 = length_push nodes x in
      let longer : length (moved ++ new ∷ []) ≡ length old + 1 =
      length_push moved new ∙ ap (λ (k : ℕ). k + 1) (length-set old last _) in
      let start : get_or (nodes ++ x ∷ []) 0 0 ≡ get_or nodes 0 0 =
      get_or_append_left nodes (x ∷ []) 0 0 (omega (arith, s.full, whole)) in
      let inside_met : x < length descent.met.items = omega (arith, below, s.one_each) in
      let fewer = count_by-set not descent.met.items x true false inside_met in
      let was_one : unmet_count (has_met descent.met.items x ∷ []) ≡ 1 = rw fresh refl in
      let is_none : unmet_count (true ∷ []) ≡ 0 = refl in
      record {
        descent = record {
          one_each = rw (met, length-set descent.met.items x true) s.one_each;
          to_below = rw to s.to_below;
          full = rw path (omega (arith, longer));
          leads = rw (path, same, start, to) s.leads;
          below = rw (path, same) (All-push (λ (x : ℕ). x < length rows.rows) nodes x s.below below);
          goes_on = rw (path, same, to) (λ k h.
              let l : k < length nodes = omega (arith, h, long) in
              rw (get_or_append_left nodes (x ∷ []) 0 k l)
              (elim (push_cases nodes x (k + 1) h) [
                | inl t ↦ rw t.1 (s.goes_on k t.0)
                | inr t ↦
                    let e : k ≡ last = omega (arith, t.0, whole, full) in
                    rw (t.1, e, top_is old last top full is) goes
              ]));
          read = rw (path, to) (All-push (HasRead rows (LeadsNot links descent.to)) moved new
              (reads_on rows (LeadsNot links descent.to) old last next top full is s.read inside passes)
              (record { inside = omega arith; passed = λ k d lt. absurd (omega (arith, lt)) }));
          met = rw (path, same, to, met) (λ y was. elim (cases_eq y x) [
            | inl e ↦ inl (rw e (Contains-push nodes x))
            | inr ne ↦ elim (s.met y (sym (get_or-set_other descent.met.items x y true false ne) ∙ was)) [
              | inl on ↦ inl (Contains-append_left nodes (x ∷ []) y on)
              | inr never ↦ inr never
            ]
          ]);
          room = omega (arith, ap length path, ap unmet_count met, same_room, longer, fewer, was_one, is_none, s.room);
        };
        same_start = rw (path, same) start;
        same_end = to;
        fewer = rw (met, path) (omega (arith, longer, fewer, was_one, is_none));
      }

  -- at its end the path is the lowest one
  pub descent_ends : (last : ℕ) → last + 1 ≡ length (nodes_of descent.path.items)
      → get_or (nodes_of descent.path.items) last 0 ≡ descent.to
      → IsLowestCycleBy (net_in rows).links descent.to (start_of descent) (descent.to ∷ nodes_of descent.path.items)
  descent_ends last whole end =
      let nodes = nodes_of descent.path.items in
      let links = (net_in rows).links in
      let leads : (j : ℕ) → j < length nodes → HasPath links (get_or nodes j 0) descent.to = λ j l.
      let e : j + (last - j) ≡ last = omega (arith, l, whole) in
      all_lead (LeadsFirst links descent.to) (λ y. HasPath links y descent.to)
      (λ a b goes path. (b ∷ path.0, ((goes.points, path.1.0), path.1.1))) nodes s.goes_on (last - j) j (omega (
        arith,
        l,
        whole,
      ))
      (rw (e, end) ([], (tt, refl))) in
      record {
        way = nodes;
        last = last;
        whole = whole;
        begins = refl;
        goes_on = λ k h. record {
          apart = (s.goes_on k h).apart;
          lowest = record {
            holds = ((s.goes_on k h).points, leads (k + 1) h);
            least = λ y both. elim (cases_lt y (get_or nodes (k + 1) 0)) [
              | inl less ↦ absurd ((s.goes_on k h).lowest y both.0 less both.1)
              | inr ge ↦ ge
            ];
          };
        };
        ends = end;
        is = refl;
      }

-- with the added link, this is a cycle
closes : (links : List (ℕ × ℕ)) (u v : ℕ) (way : List ℕ) (last : ℕ) → last + 1 ≡ length way → get_or way 0 0 ≡ v
    → ((k : ℕ) → k + 1 < length way → Points links (get_or way k 0) (get_or way (k + 1) 0)) → get_or way last 0 ≡ u
    → IsCycle (added links u v) (u ∷ way)
closes links u v [] last whole begins follows ends = absurd (omega arith)
closes links u v (w ∷ vs) last whole begins follows ends =
    let e : last ≡ length vs = omega arith in
    let path : IsPath links v vs = subst (λ (y : ℕ). IsPath links y vs) begins (path_from_steps links w vs follows) in
    let first : w ≡ v = begins in
    rw first (path_walks links u v vs path (ap (λ (y : ℕ). end_of y vs) (sym first) ∙ end_from_last w vs
    ∙ ap (λ (k : ℕ). get_or (w ∷ vs) k 0) (sym e) ∙ ends))

pub closes_by : (links : List (ℕ × ℕ)) (u v : ℕ) (walk : List ℕ) → IsLowestCycleBy links u v walk
    → IsCycle (added links u v) walk
closes_by links u v walk cycle =
    rw cycle.is (closes links u v cycle.way cycle.last cycle.whole cycle.begins
    (λ k l. (cycle.goes_on k l).lowest.holds.0) cycle.ends)

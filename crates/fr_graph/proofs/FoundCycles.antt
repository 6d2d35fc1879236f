-- What the search for a cycle finds, in rows of links: the lowest cycle, or an order of all nodes.
use Rattle.std.proofs.Common.{Contains, List, None, Some, [], add-zero, ap, arith, drop, get_or, inl, inr}
use Rattle.std.proofs.Common.{length, length-drop, map, refl, sym, ℕ, ◌+◌, ◌-◌, ◌<◌, ◌∙◌, ◌∷◌, ◌≡◌}
use Rattle.std.proofs.lemmas.Bool.{cases_lt}
use Rattle.std.proofs.lemmas.List.{get_or-drop, get_or-map, get_or_default, get_or_past, length-map}
use Rattle.fr_graph.proofs.Cycles.{cycle_from_steps, path_keeps}
use Rattle.fr_graph.proofs.LowestCycles.{all_lead}
use Rattle.fr_graph.proofs.ShownLinks.{row_of_points, shown_of_row}
use Rattle.fr_graph.specs.Evidence.{IsLowestCycle, LeadsIntoCycle}
use Rattle.fr_graph.specs.Heads.{AreEntriesBelow, AreRowsRising, IsFoundIn, head_of, head_rows}
use Rattle.fr_graph.specs.Heights.{HasHeadsFirst}
use Rattle.fr_graph.specs.KeptRows.{net_in}
use Rattle.fr_graph.specs.Links.{IsAcyclic, IsClosedWalk, IsCycle, IsPath, Points, end_of}
use Rattle.fr_graph.specs.Tables.{Table, row_of}
use Rattle.fr_graph.specs.declared.first.First.{First}
use Rattle.fr_graph.specs.declared.first.First.TheVariants.{Inward, Outward}
use Rattle.fr_search.specs.Heads.{AreHeadsFirst, AreRowsOf, IsFirstCycle, IsFound, IsInOrder, Leads, LeadsFirst}
use Rattle.fr_search.specs.Heads.{head_at}
use Rattle.fr_search.specs.declared.search.CycleOrOrder.{CycleOrOrder}
use Rattle.fr_search.specs.declared.search.CycleOrOrder.TheVariants.{Order, Cycle}

-- an entry with this head is that of a link to it
entry_is : (entry : ℕ × First) (y : ℕ) → head_of entry ≡ Some y → entry ≡ (y, Outward)
entry_is (x, Outward) y e = cc
entry_is (x, Inward) y e = cc

-- the heads of the rows are those of the links
module _ (table : Table) where
  entry_at : (x k y : ℕ) (d : ℕ × First) → head_at (head_rows table) x k ≡ Some y
      → (k < length (row_of table x)) × (get_or (row_of table x) k d ≡ (y, Outward))
  entry_at x k y d at =
      let entries = row_of table x in
      elim (cases_lt k (length entries)) [
        | inl low ↦ (low, entry_is (get_or entries k d) y (sym (get_or-map head_of entries k d None low) ∙ at))
        | inr out ↦ cc (at, get_or_past (map head_of entries) k None (omega (arith, out, length-map entries head_of)))
      ]

  points_of : (x y : ℕ) → Leads (head_rows table) x y → Points (net_in table).links x y
  points_of x y (k, at) =
      let (low, is) = entry_at x k y (y, Outward) at in
      elim (cases_lt x (length table.rows)) [
        | inl inside ↦ shown_of_row (length table.rows) table x y inside (k, low, is)
        | inr out ↦ absurd (omega (arith, low, ap length (get_or_past table.rows x [] out)))
      ]

  leads_of : (x y : ℕ) → Points (net_in table).links x y → Leads (head_rows table) x y
  leads_of x y points =
      let (k, low, is) = (row_of_points table x y points).1 in
      (k, get_or-map head_of (row_of table x) k (y, Outward) None low ∙ ap head_of is)

  -- if the rows rise, the first head is the lowest
  lower_left : (left : List ℕ) (x y : ℕ) → AreRowsRising table → LeadsFirst (head_rows table) left x y → (w : ℕ)
      → Points (net_in table).links x w → w < y → Contains left w
  lower_left left x y rising leads w points less =
      let (k, at) = leads_of x w points in
      let d : ℕ × First = (0, Outward) in
      let (low, is) = entry_at x k w d at in
      let (lowest, here) = entry_at x leads.place y d leads.leads in
      elim (cases_lt k leads.place) [
        | inl before ↦ leads.earlier k w before at
        | inr after ↦ elim (cases_lt leads.place k) [
          | inl past ↦ absurd (omega (
            arith,
            less,
            rising x leads.place k d past low,
            ap (λ (e : ℕ × First). e.0) is,
            ap (λ (e : ℕ × First). e.0) here,
          ))
          | inr same ↦
              let e : k ≡ leads.place = omega (arith, after, same) in
              let there : get_or (row_of table x) k d ≡ (y, Outward) = rw e here in
              absurd (omega (arith, less, ap (λ (f : ℕ × First). f.0) (sym is ∙ there)))
        ]
      ]

  module _ (left : List ℕ) (first : AreHeadsFirst (head_rows table) left) where
    link_earlier : (x y i j : ℕ) → i < length left → get_or left i 0 ≡ x → j < length left → get_or left j 0 ≡ y
        → Points (net_in table).links x y → j < i
    link_earlier x y i j li ati lj atj points = first.first i j li lj (rw (ati, atj) (leads_of x y points))

    closed : (x y : ℕ) → Contains left x → Points (net_in table).links x y → Contains left y
    closed x y on points = first.closed x y on (leads_of x y points)

    -- a path from a node of the list ends at an earlier one
    path_earlier : (u v : ℕ) (vs : List ℕ) (i j : ℕ) → i < length left → get_or left i 0 ≡ u → j < length left
        → get_or left j 0 ≡ end_of v vs → IsPath (net_in table).links u (v ∷ vs) → j < i
    path_earlier u v [] i j li ati lj atj path = link_earlier u v i j li ati lj atj path.0
    path_earlier u v (w ∷ ws) i j li ati lj atj path =
        let (k, lk, at) = closed u v (i, li, get_or_default left i u 0 li ∙ ati) path.0 in
        let here : get_or left k 0 ≡ v = get_or_default left k 0 v lk ∙ at in
        omega (arith, path_earlier v w ws k j lk here lj atj path.1, link_earlier u v i k li ati lk here path.0)

    -- so no cycle can be reached from it
    left_closes_not : (u : ℕ) (vs : List ℕ) → Contains left u → ¬ IsClosedWalk (net_in table).links u vs
    left_closes_not u [] on walk = walk
    left_closes_not u (v ∷ vs) (i, li, at) walk =
        let here : get_or left i 0 ≡ u = get_or_default left i 0 u li ∙ at in
        omega (arith, path_earlier u v vs i i li here li (here ∙ sym walk.1) walk.0)

    left_leads_not : (x : ℕ) → Contains left x → ¬ LeadsIntoCycle (net_in table).links x
    left_leads_not x on leads =
        let there = path_keeps (net_in table).links (Contains left) closed x leads.path.0 on leads.path.1.0 in
        left_closes_not leads.node leads.rest (rw leads.path.1.1 at there) leads.closed

-- a node of a cycle leads into it, and so does a node that points to one that does
on_cycle : (links : List (ℕ × ℕ)) (x : ℕ) (vs : List ℕ) → IsClosedWalk links x vs → LeadsIntoCycle links x
on_cycle links x vs closed = record { node = x; path = ([], (tt, refl)); rest = vs; closed = closed }

pub leads_before : (links : List (ℕ × ℕ)) (x y : ℕ) → Points links x y → LeadsIntoCycle links y → LeadsIntoCycle links x
leads_before links x y step leads = record {
  node = leads.node;
  path = (y ∷ leads.path.0, ((step, leads.path.1.0), leads.path.1.1));
  rest = leads.rest;
  closed = leads.closed;
}

cycle_leads : (links : List (ℕ × ℕ)) (walk : List ℕ) → IsCycle links walk → LeadsIntoCycle links (get_or walk 0 0)
cycle_leads links [] cycle = absurd cycle
cycle_leads links (x ∷ vs) cycle = on_cycle links x vs cycle

-- the walk of the first cycle is closed
closes : (table : Table) (walk : List ℕ) → IsFirstCycle (head_rows table) walk → IsCycle (net_in table).links walk
closes table walk cycle =
    let way = cycle.way in
    let back = cycle.back in
    let dropped = length-drop back way in
    let at : (k : ℕ) → get_or (drop back way) k 0 ≡ get_or way (back + k) 0 = λ k. get_or-drop back way k 0 in
    let whole : back + (cycle.last - back) ≡ cycle.last = omega (arith, cycle.earlier) in
    rw cycle.is (cycle_from_steps (net_in table).links (drop back way) (cycle.last - back)
    (omega (arith, dropped, cycle.earlier, cycle.whole)) (omega (arith, cycle.earlier))
    (at (cycle.last - back) ∙ rw (whole, add-zero) (cycle.again) ∙ sym (at 0))
    (λ k l.
    let step = cycle.goes_on (back + k) (omega (arith, l, dropped, cycle.whole)) in
    let e : back + (k + 1) ≡ back + k + 1 = omega arith in
    rw (at k, at (k + 1), e) (points_of table _ _ (step.place, step.leads))))

-- if the rows rise, it is the lowest cycle
lowest : (table : Table) (walk : List ℕ) → AreRowsRising table → IsFirstCycle (head_rows table) walk
    → IsLowestCycle (net_in table).links walk
lowest table walk rising cycle =
    let links = (net_in table).links in
    let way = cycle.way in
    let leads_not = left_leads_not table cycle.left cycle.heads_first in
    let follows : (k : ℕ) → k + 1 < length way → Points links (get_or way k 0) (get_or way (k + 1) 0) = λ k l.
    let step = cycle.goes_on k (omega (arith, l, cycle.whole)) in points_of table _ _ (step.place, step.leads) in
    let begin : get_or walk 0 0 ≡ get_or way cycle.back 0 =
    rw (cycle.is, get_or-drop cycle.back way 0 0, add-zero) refl in
    let end : LeadsIntoCycle links (get_or way cycle.last 0) = rw (cycle.again, ← begin)
    (cycle_leads links walk (closes table walk cycle)) in
    let lead : (k : ℕ) → k < length way → LeadsIntoCycle links (get_or way k 0) = λ k l.
    let e : k + (cycle.last - k) ≡ cycle.last = omega (arith, l, cycle.whole) in
    all_lead (Points links) (LeadsIntoCycle links) (leads_before links) way follows (cycle.last - k) k
    (omega (arith, l, cycle.whole)) (rw e end) in
    record {
      way = way;
      last = cycle.last;
      whole = cycle.whole;
      begins = record {
        holds = lead 0 (omega (arith, cycle.whole));
        least = λ y l. elim (cases_lt y (get_or way 0 0)) [
          | inl less ↦ absurd (leads_not y (cycle.begins y less) l)
          | inr ge ↦ ge
        ];
      };
      goes_on = λ k h. record {
        holds = (follows k h, lead (k + 1) h);
        least = λ y both. elim (cases_lt y (get_or way (k + 1) 0)) [
          | inl less ↦
              let step = cycle.goes_on k (omega (arith, h, cycle.whole)) in
              absurd (leads_not y (lower_left table cycle.left _ _ rising step y both.0 less) both.1)
          | inr ge ↦ ge
        ];
      };
      back = cycle.back;
      earlier = cycle.earlier;
      again = cycle.again;
      first = cycle.once;
      is = cycle.is;
    }

-- all nodes in an order with the heads first
ordered : (n : ℕ) (table : Table) (order : List ℕ) → length table.rows ≡ n
    → IsInOrder n (head_rows table) order
    → IsAcyclic (net_in table).links × HasHeadsFirst n (net_in table).links order
ordered n table order long all = (
  acyclic,
  record {
    few = all.few;
    below = all.below;
    all = all.all;
    heads = λ i j li lj points. all.heads_first.first i j li lj (leads_of table _ _ points);
  },
)
  where
    acyclic : IsAcyclic (net_in table).links
    acyclic u [] walk = walk
    acyclic u (v ∷ vs) walk =
        let inside : u < n = rw long at (row_of_points table u v walk.0.0).0 in
        left_closes_not table order all.heads_first u (v ∷ vs) (all.all u inside) walk

pub rows_searched : (n : ℕ) (table : Table) → length table.rows ≡ n → AreEntriesBelow n table
    → AreRowsOf n (head_rows table)
rows_searched n table long below = record {
  each = omega (arith, long);
  below = λ x y (k, at). let (low, is) = entry_at table x k y (y, Outward) at in rw is at (below x k (y, Outward) low);
}

pub found_in : (n : ℕ) (table : Table) → length table.rows ≡ n → AreRowsRising table → (found : CycleOrOrder)
    → IsFound n (head_rows table) found → IsFoundIn n (net_in table).links found
found_in n table long rising (Cycle walk) cycle =
    (closes table walk.items cycle, lowest table walk.items rising cycle)
found_in n table long rising (Order order) all = ordered n table order.items long all

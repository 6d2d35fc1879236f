-- The links in the rows of a table.
use Rattle.std.proofs.Common.{Contains, List, [], ap, arith, get_or, inl, inr, length, refl, subst, sym, ℕ, ◌<◌, ◌≡◌}
use Rattle.std.proofs.lemmas.Bool.{cases_lt}
use Rattle.std.proofs.lemmas.List.{get_or_past}
use Rattle.std.proofs.lemmas.List.Elements.{Contains-get_or}
use Rattle.fr_graph.proofs.Giving.{filter_map-Contains, filter_map-from}
use Rattle.fr_graph.proofs.Neighbours.{out_of_row, row_holds, row_of_link, row_rises}
use Rattle.fr_graph.proofs.RowLists.{from_rows, into_rows}
use Rattle.fr_graph.proofs.TurnedRows.{link_shown}
use Rattle.fr_graph.specs.Heads.{AreEntriesBelow, AreRowsRising}
use Rattle.fr_graph.specs.Heights.{HasHeadsFirst}
use Rattle.fr_graph.specs.KeptRows.{AreRows, links_in, net_in}
use Rattle.fr_graph.specs.Links.{AreBelow, HaveSameLinks, Points}
use Rattle.fr_graph.specs.RowLists.{link_to, out_links}
use Rattle.fr_graph.specs.Rows.{row}
use Rattle.fr_graph.specs.Tables.{Table, row_of}
use Rattle.fr_graph.specs.declared.first.First.{First}
use Rattle.fr_graph.specs.declared.first.First.TheVariants.{Outward}

-- a link is in the row of its tail
pub row_of_shown : (n : ℕ) (table : Table) (x w : ℕ) → Points (links_in n table) x w
    → (x < n) × Contains (row_of table x) (w, Outward)
row_of_shown n table x w points =
    let row = from_rows n (λ y. out_links y (row_of table y)) (x, w) points in
    let from = filter_map-from (λ (e : ℕ × First). link_to row.0 e.0 e.1) (row_of table row.0) (x, w) row.2 in
    let is = link_shown row.0 from.0 (x, w) from.2 in
    let tail : row.0 ≡ x = ap (λ (l : ℕ × ℕ). l.0) (sym is.0) in
    let head : from.0.0 ≡ w = ap (λ (l : ℕ × ℕ). l.1) (sym is.0) in
    let here : Contains (row_of table row.0) (from.0.0, Outward) =
    subst (λ (e : ℕ × First). Contains (row_of table row.0) e) is.1 from.1 in
    let there : Contains (row_of table row.0) (w, Outward) =
    subst (λ (y : ℕ). Contains (row_of table row.0) (y, Outward)) head here in
    (subst (λ (y : ℕ). y < n) tail row.1, subst (λ (y : ℕ). Contains (row_of table y) (w, Outward)) tail there)

pub row_of_points : (table : Table) (x w : ℕ) → Points (links_in (length table.rows) table) x w
    → (x < length table.rows)
    × Contains (row_of table x) (w, Outward)
row_of_points table x w points = row_of_shown (length table.rows) table x w points

pub shown_of_row : (n : ℕ) (table : Table) (x w : ℕ) → x < n → Contains (row_of table x) (w, Outward)
    → Points (links_in n table) x w
shown_of_row n table x w lt stands = into_rows n x (λ y. out_links y (row_of table y)) (x, w) lt
    (filter_map-Contains (λ (e : ℕ × First). link_to x e.0 e.1) (row_of table x) (w, Outward) (x, w) stands refl)

-- the rows of links contain these links
pub shows_same : (n : ℕ) (links : List (ℕ × ℕ)) (table : Table) → AreBelow n links → AreRows n links table
    → HaveSameLinks links (links_in n table)
shows_same n links table below rows u v = (
  λ points.
      let both = below points.0 (u, v) points.1 in
      let ends : (u < n) × (v < n) = rw points.2 at both in
      shown_of_row n table u v ends.0 (rw (rows.shown u ends.0) (row_of_link n links u v ends.1 points)),
  λ points. let at = row_of_shown n table u v points in out_of_row n links u v (rw (rows.shown u at.0) at at.1),
)

pub same_shown : (n : ℕ) (links : List (ℕ × ℕ)) (table : Table) → AreBelow n links → AreRows n links table
    → HaveSameLinks links (net_in table).links
same_shown n links table below rows = rw rows.one_each (shows_same n links table below rows)

pub heads_of : (n : ℕ) (links : List (ℕ × ℕ)) (table : Table) {order : List ℕ} → AreBelow n links
    → AreRows n links table
    → HasHeadsFirst n (net_in table).links order → HasHeadsFirst n links order
heads_of n links table below rows first = record {
  few = first.few;
  below = first.below;
  all = first.all;
  heads = λ i j li lj points. first.heads i j li lj ((same_shown n links table below rows _ _).0 points);
}

-- the neighbours in each row increase, and are nodes
pub rows_rise : (n : ℕ) (links : List (ℕ × ℕ)) (table : Table) → AreRows n links table → AreRowsRising table
rows_rise n links table rows x i j d less inside = elim (cases_lt x n) [
  | inl lt ↦ rw (rows.shown x lt) (row_rises n links x i j d less (rw (rows.shown x lt) at inside))
  | inr past ↦ let none : row_of table x ≡ [] =
      get_or_past table.rows x [] (omega (arith, past, rows.one_each)) in absurd (omega (arith, inside, ap length none))
]

pub entries_below : (n : ℕ) (links : List (ℕ × ℕ)) (table : Table) → AreRows n links table → AreEntriesBelow n table
entries_below n links table rows x k d l = elim (cases_lt x n) [
  | inl lt ↦ rw (rows.shown x lt)
      (row_holds n links x (get_or (row n links x) k d)
      (Contains-get_or (row n links x) k d (rw (rows.shown x lt) at l))).0
  | inr past ↦ let none : row_of table x ≡ [] =
      get_or_past table.rows x [] (omega (arith, past, rows.one_each)) in absurd (omega (arith, l, ap length none))
]

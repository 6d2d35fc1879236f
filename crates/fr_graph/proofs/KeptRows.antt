-- The rows of a table, one of which is written.
use Rattle.std.proofs.Common.{List, [], ap, count_by, inl, inr, length, ℕ, ◌<◌, ◌∙◌, ◌≡◌, ◌≢◌}
use Rattle.std.proofs.lemmas.Bool.{cases_eq}
use Rattle.std.proofs.lemmas.List.{get_or-set_other, get_or-set_same, length-set}
use Rattle.std.proofs.lemmas.List.FromFn.{fill_by_all}
use Rattle.std.specs.List.{range_with_len}
use Rattle.fr_graph.proofs.Counting.{count-range_agree, count_by-map}
use Rattle.fr_graph.proofs.RowTables.{none_is}
use Rattle.fr_graph.specs.KeptRows.{AreRows}
use Rattle.fr_graph.specs.Rows.{alone_count, has_no_neighbour, row}
use Rattle.fr_graph.specs.Tables.{Table, has_none, row_of, with_row}
use Rattle.fr_graph.specs.declared.first.First.{First}

pub row_of_with_row_at : (table : Table) (x : ℕ) (entries : List (ℕ × First)) → x < length table.rows
    → row_of (with_row table x entries) x ≡ entries
row_of_with_row_at table x entries inside = get_or-set_same table.rows x entries [] inside

pub row_of_with_row_beside : (table : Table) (x y : ℕ) (entries : List (ℕ × First)) → y ≢ x
    → row_of (with_row table x entries) y ≡ row_of table y
row_of_with_row_beside table x y entries apart = get_or-set_other table.rows x y entries [] apart

pub length-rows : (table : Table) (x : ℕ) (entries : List (ℕ × First))
    → length (with_row table x entries).rows ≡ length table.rows
length-rows table x entries = length-set table.rows x entries

-- the rows are right once the last one is written
pub rows_with_row : (n k : ℕ) (wanted : ℕ → List (ℕ × First)) (table : Table) → k < length table.rows
    → ((y : ℕ) → y < n → y ≢ k → row_of table y ≡ wanted y) → (y : ℕ) → y < n
    → row_of (with_row table k (wanted k)) y ≡ wanted y
rows_with_row n k wanted table inside others y less =
    elim (cases_eq y k) [
      | inl e ↦ rw e (row_of_with_row_at table k (wanted k) inside)
      | inr ne ↦ row_of_with_row_beside table k y (wanted k) ne ∙ others y less ne
    ]

-- the empty rows are those of the nodes without a neighbour
pub alone_counted : (n : ℕ) (links : List (ℕ × ℕ)) (table : Table) → AreRows n links table
    → count_by has_none table.rows ≡ alone_count n links
alone_counted n links table rows =
    ap (count_by has_none) (fill_by_all (row n links) table.rows n [] rows.one_each rows.shown)
    ∙ count_by-map has_none (row n links) (range_with_len 0 n)
    ∙ count-range_agree (λ x. has_none (row n links x)) (has_no_neighbour n links) 0 n
    (λ x low. none_is (row n links x))

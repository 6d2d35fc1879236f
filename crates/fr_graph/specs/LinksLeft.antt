-- What a reader of a network's links has left to read. For proofs only.
use Rattle.std.specs.Prelude.{◌≡◌, ℕ, zero, suc, ◌<◌, ◌≤◌, ◌-◌, ◌^◌, ◌++◌, List, [], length}
use Rattle.fr_graph.specs.RowLists.{out_links}
use Rattle.fr_graph.specs.Tables.{row_of}
use Rattle.fr_graph.specs.declared.links.Links.TheInside.{Inside}

-- the rows of k nodes from x on, one after the other
abbrev pub rows_from : {X : Type 0} → ℕ → ℕ → (ℕ → List X) → List X
rows_from zero x rows = []
rows_from (suc k) x rows = rows x ++ rows_from k (suc x) rows

-- the links in the rest of the current row, and then those of the rows after it
abbrev pub links_left : Inside → List (ℕ × ℕ)
links_left s =
    out_links (s.next - 1) s.row.now
    ++ rows_from (length s.rows.now.rows - s.next) s.next (λ x. out_links x (row_of s.rows.now x))

-- the number of links left is right; before the first row, nothing of a row is left
pub record IsReading (s : Inside) : Type 0 where
  pub begun : s.next ≡ 0 → s.row.now ≡ []
  pub inside : s.next ≤ length s.rows.now.rows
  pub few : length s.rows.now.rows < 2 ^ 32
  pub counted : s.left ≡ length (links_left s)

use Rattle.std.proofs.Common.{◌≡◌, ◌++◌, ◌-◌, ◌≤◌, [], length}
use Rattle.fr_graph.specs.LinksLeft.{rows_from}
use Rattle.fr_graph.specs.RowLists.{out_links}
use Rattle.fr_graph.specs.Tables.{row_of}
use Rattle.fr_graph.proofs.links.LinksIterator.next.Given as goal

-- what is left to read has the links that were left at first
abbrev pub invariant-loop-head : goal.invariant-loop-head
invariant-loop-head l =
    (l.next ≡ 0 → l.row ≡ []) ×
    (l.next ≤ length l.rows.rows) ×
    (out_links (l.next - 1) l.row
    ++ rows_from (length l.rows.rows - l.next) l.next (λ x. out_links x (row_of l.rows x)) ≡ l.fn.self)

abbrev pub decreases-loop-head : goal.decreases-loop-head
decreases-loop-head l = length l.rows.rows - l.next

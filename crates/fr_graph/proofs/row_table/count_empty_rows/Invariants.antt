use Rattle.std.proofs.Common.{count_by, eqb, ◌≡◌}
use Rattle.std.specs.List.{range_with_len}
use Rattle.fr_graph.specs.Tables.{end_at, start_at}
use Rattle.fr_graph.proofs.row_table.count_empty_rows.Given as goal

abbrev pub invariant-loop-x : goal.invariant-loop-x
invariant-loop-x l = l.empty ≡ count_by (λ x. eqb (start_at l.places x) (end_at l.places x)) (range_with_len 0 l.x)

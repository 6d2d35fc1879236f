use Rattle.std.proofs.Common.{arith, ltb, ltb-true, rules, ℕ}
use Rattle.std.proofs.lemmas.Bool.{ltb-false}
use Rattle.std.proofs.lemmas.List.Sorted.{IsPartitionPoint-from_clause, IsPartitionedBy-ltb}
use Rattle.fr_graph.specs.declared.first.First.{First}
use Rattle.fr_graph.proofs.row.place_in_row.Goals as goal

pub returns-clause-before : goal.returns-clause-before
returns-clause-before c = λ k d lt.
    let parts = IsPartitionedBy-ltb (λ (e : ℕ × First). e.0) c.args.row.now c.args.w c.requires in
    let point =
    IsPartitionPoint-from_clause (λ (e : ℕ
    × First). ltb e.0 c.args.w) _ _ c.partition_point.ensures.partitioned parts (λ a r q k. search rules) in
    ltb-true _ _ (point.0 k d (omega arith) lt)

pub returns-clause-stops : goal.returns-clause-stops
returns-clause-stops c = λ k d ge lt.
    let parts = IsPartitionedBy-ltb (λ (e : ℕ × First). e.0) c.args.row.now c.args.w c.requires in
    let point =
    IsPartitionPoint-from_clause (λ (e : ℕ
    × First). ltb e.0 c.args.w) _ _ c.partition_point.ensures.partitioned parts (λ a r q k. search rules) in
    ltb-false _ _ (point.1 k d ge lt)

use Rattle.std.proofs.Common.{arith, rules}
use Rattle.fr_graph.proofs.RowTables.{IsPart, part_at, row_at}
use Rattle.fr_graph.proofs.row_table.RowTable.row_at.Goals as goal
use Rattle.fr_graph.proofs.row_table.RowTable.row_at.Goals.{After-deref}

part : (c : After-deref)
    → IsPart c.self.inside c.args.self.now c.args.x c.index-place.result.now.start c.index-place.result.now.end
    c.deref.result.now
part c =
    part_at c.self.inside c.args.self.now c.args.x c.index-place.result.now c.deref.result.now c.self.invariant
    c.self.view_is c.requires c.index-place.ensures c.deref.ensures.value

pub index-place-requires : goal.index-place-requires
index-place-requires c = omega (
  arith,
  (row_at c.self.inside c.args.self.now c.args.x c.self.invariant c.self.view_is c.requires).next,
  c.self.inside.places.ok.0,
)

pub offset_bounds-deref-place : goal.offset_bounds-deref-place
offset_bounds-deref-place c =
    let p = part (goal.at.offset_bounds-deref-place c).After-deref in
    omega (arith, p.low, p.high, c.deref.ensures.len, c.self.inside.entries.ok.1, c.self.inside.entries.small)

pub slice_bounds-result-count : goal.slice_bounds-result-count
slice_bounds-result-count c = (part (goal.at.slice_bounds-result-count c).After-deref).low

pub slice_bounds-result-start : goal.slice_bounds-result-start
slice_bounds-result-start c = search (rules, (part (goal.at.slice_bounds-result-start c).After-deref).low)

pub slice_bounds-result-end : goal.slice_bounds-result-end
slice_bounds-result-end c = search (rules, (part (goal.at.slice_bounds-result-end c).After-deref).high)

pub returns : goal.returns
returns c = (part (goal.at.returns c).After-deref).is_row

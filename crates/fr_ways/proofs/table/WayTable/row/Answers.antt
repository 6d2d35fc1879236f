use Rattle.std.proofs.Common.{List, ap, arith, drop, get_or, length, rules, take, ℕ, ◌+◌, ◌-◌, ◌<◌, ◌≡◌, ◌≤◌}
use Rattle.std.proofs.lemmas.List.{get_or_read}
use Rattle.fr_ways.specs.Ways.{ways}
use Rattle.fr_ways.proofs.Rows.{length_rows, row_at}
use Rattle.fr_ways.proofs.table.WayTable.row.Goals as goal
use Rattle.fr_ways.proofs.table.WayTable.row.Goals.{After-deref, After-index-start}

low : (c : After-index-start) → c.args.x + 1 < length c.self.inside.starts.items
low c = omega (
  arith,
  c.if-x-len.true,
  c.len.ensures,
  length_rows c.self.inside.list.items c.self.inside.starts.items c.self.invariant,
  ap (λ (t : List (List ℕ)). length t) c.self.view_is,
)

pub index-end-requires : goal.index-end-requires
index-end-requires c = omega (arith, low (goal.at.index-end-requires c).After-index-start, c.self.inside.starts.ok.0)

-- where the row lies
record IsPart (c : After-deref) : Type 0 where
  low : c.index-start.result.now ≤ c.index-end.result.now
  high : c.index-end.result.now ≤ length c.deref.result.now
  is : take (c.index-end.result.now - c.index-start.result.now)
      (drop c.index-start.result.now c.deref.result.now) ≡ ways c.args.self.now c.args.x

part : (c : After-deref) → IsPart c
part c =
    let starts = c.self.inside.starts.items in
    let inside = low (goal.at.After-deref c).After-index-start in
    let start : c.index-start.result.now ≡ get_or starts c.args.x 0 =
    get_or_read starts c.args.x c.index-start.result.now (omega (arith, inside)) c.index-start.ensures 0 in
    let end : c.index-end.result.now ≡ get_or starts (c.args.x + 1) 0 =
    get_or_read starts (c.args.x + 1) c.index-end.result.now inside c.index-end.ensures 0 in
    let row = row_at c.self.inside.list.items starts c.args.x c.self.invariant inside in
    record {
      low = omega (arith, start, end, row.rise);
      high = omega (arith, end, row.high, ap length c.deref.ensures.value);
      is = rw (start, end, c.deref.ensures.value, ← c.self.view_is) row.is;
    }

pub offset_bounds-deref-start : goal.offset_bounds-deref-start
offset_bounds-deref-start c =
    let p = part (goal.at.offset_bounds-deref-start c).After-deref in
    omega (arith, p.low, p.high, c.deref.ensures.len, c.self.inside.list.ok.1, c.self.inside.list.small)

pub slice_bounds-result-count : goal.slice_bounds-result-count
slice_bounds-result-count c = (part (goal.at.slice_bounds-result-count c).After-deref).low

pub slice_bounds-result-start : goal.slice_bounds-result-start
slice_bounds-result-start c = search (rules, (part (goal.at.slice_bounds-result-start c).After-deref).low)

pub slice_bounds-result-end : goal.slice_bounds-result-end
slice_bounds-result-end c = search (rules, (part (goal.at.slice_bounds-result-end c).After-deref).high)

pub returns-then-x-len : goal.returns-then-x-len
returns-then-x-len c = (part (goal.at.returns-then-x-len c).After-deref).is

pub index-start-requires : goal.index-start-requires
index-start-requires c = omega (
  arith,
  c.if-x-len.true,
  c.len.ensures,
  length_rows c.self.inside.list.items c.self.inside.starts.items c.self.invariant,
  ap (λ (t : List (List ℕ)). length t) c.self.view_is,
  c.self.inside.starts.ok.0,
)

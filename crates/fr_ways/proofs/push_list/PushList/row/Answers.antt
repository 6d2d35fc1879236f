use Rattle.std.proofs.Common.{List, arith, length, map, rules, ℕ, ◌<◌}
use Rattle.std.proofs.lemmas.List.{length-map}
use Rattle.fr_ways.specs.PushLists.{AreListed}
use Rattle.fr_ways.specs.declared.push_list.PushList.{PushList}
use Rattle.fr_ways.proofs.Rows.{IsRow, laid_row}
use Rattle.fr_ways.proofs.push_list.PushList.row.Goals as goal

at : (lists : PushList) (i : ℕ) (pushes : List (ℕ × List ℕ)) → AreListed pushes lists → i < length pushes
    → IsRow lists.list.now lists.starts.now (map (λ p. p.1) pushes) i
at lists i pushes are low = laid_row lists.starts.now lists.list.now (map (λ (p : ℕ × List ℕ). p.1) pushes) i are.rows
    (omega (arith, length-map pushes (λ (p : ℕ × List ℕ). p.1), low))

pub slice_bounds-result-start : goal.slice_bounds-result-start
slice_bounds-result-start c = let (pushes, are, low) = c.requires in
    search (rules, (at c.args.self.now c.args.i pushes are low).rise)

pub slice_bounds-result-end : goal.slice_bounds-result-end
slice_bounds-result-end c = let (pushes, are, low) = c.requires in
    search (rules, (at c.args.self.now c.args.i pushes are low).high)

pub slice_bounds-result-count : goal.slice_bounds-result-count
slice_bounds-result-count c = let (pushes, are, low) = c.requires in (at c.args.self.now c.args.i pushes are low).rise

pub offset_bounds-self-start : goal.offset_bounds-self-start
offset_bounds-self-start c = let (pushes, are, low) = c.requires in
    let row = at c.args.self.now c.args.i pushes are low in
    search (rules, row.rise, row.high)

pub returns : goal.returns
returns c pushes are =
    let (others, same, low) = c.requires in
    let inside : c.args.i < length pushes = omega (
      arith,
      low,
      same.rows.begins.one_more,
      are.rows.begins.one_more,
      length-map others (λ (p : ℕ × List ℕ). p.1),
      length-map pushes (λ (p : ℕ × List ℕ). p.1),
    ) in
    (at c.args.self.now c.args.i pushes are inside).is

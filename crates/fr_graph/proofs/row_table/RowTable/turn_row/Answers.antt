use Rattle.std.proofs.Common.{ap, arith, length, map, rules, ◌-◌, ◌∙◌, ◌≡◌}
use Rattle.std.proofs.lemmas.List.{length-map}
use Rattle.fr_graph.proofs.RowTables.{IsPart, ShowsRowWritten, part_at, part_rewritten, row_at}
use Rattle.fr_graph.specs.RowLists.{turned_entry}
use Rattle.fr_graph.specs.Tables.{row_of, with_row}
use Rattle.fr_graph.specs.declared.row_table.RowTable.TheInside.{Inside}
use Rattle.std.specs.Vec.{with_items}
use borrow.Rule.Slice.PartMut.{put_mid}
use Rattle.fr_graph.proofs.row_table.RowTable.turn_row.Goals as goal
use Rattle.fr_graph.proofs.row_table.RowTable.turn_row.Goals.{After-deref_mut, After-turn_row}

part : (c : After-deref_mut)
    → IsPart c.self.inside c.args.self.now c.args.x c.index-place.result.now.start c.index-place.result.now.end
    c.deref_mut.result.now
part c =
    part_at c.self.inside c.args.self.now c.args.x c.index-place.result.now c.deref_mut.result.now c.self.invariant
    c.self.view_is c.requires.row c.index-place.ensures c.deref_mut.ensures.value

pub index-place-requires : goal.index-place-requires
index-place-requires c = omega (
  arith,
  (row_at c.self.inside c.args.self.now c.args.x c.self.invariant c.self.view_is c.requires.row).next,
  c.self.inside.places.ok.0,
)

pub offset_bounds-deref_mut-place : goal.offset_bounds-deref_mut-place
offset_bounds-deref_mut-place c =
    let p = part (goal.at.offset_bounds-deref_mut-place c).After-deref_mut in
    omega (arith, p.low, p.high, c.deref_mut.ensures.len, c.self.inside.entries.ok.1, c.self.inside.entries.small)

pub slice_bounds-turn_row-count : goal.slice_bounds-turn_row-count
slice_bounds-turn_row-count c = (part (goal.at.slice_bounds-turn_row-count c).After-deref_mut).low

pub slice_bounds-turn_row-start : goal.slice_bounds-turn_row-start
slice_bounds-turn_row-start c = search (rules, (part (goal.at.slice_bounds-turn_row-start c).After-deref_mut).low)

pub slice_bounds-turn_row-end : goal.slice_bounds-turn_row-end
slice_bounds-turn_row-end c = search (rules, (part (goal.at.slice_bounds-turn_row-end c).After-deref_mut).high)

pub turn_row-requires-clause-below : goal.turn_row-requires-clause-below
turn_row-requires-clause-below c =
    rw (part (goal.at.turn_row-requires-clause-below c).After-deref_mut).is_row c.requires.below

written : (c : After-turn_row)
    → c.turn_row.new.row ≡ map (turned_entry c.args.counts.now c.args.x) (row_of c.args.self.now c.args.x)
written c =
    c.turn_row.ensures
    ∙ ap (map (turned_entry c.args.counts.now c.args.x)) (part (goal.at.After-turn_row c).After-deref_mut).is_row

-- the fields afterwards
abbrev after : (c : After-turn_row) → Inside
after c = record {
  places = c.self.inside.places;
  entries = with_items c.self.inside.entries
      (put_mid c.index-place.result.now.start (c.index-place.result.now.end - c.index-place.result.now.start)
      c.deref_mut.result.now c.turn_row.new.row);
  empty = c.self.inside.empty;
}

shows : (c : After-turn_row) → ShowsRowWritten (after c) c.args.self.now c.args.x c.turn_row.new.row
shows c =
    let long : length c.turn_row.new.row ≡ length (row_of c.args.self.now c.args.x) = ap length (written c)
    ∙ length-map (row_of c.args.self.now c.args.x) (turned_entry c.args.counts.now c.args.x) in
    part_rewritten c.self.inside c.args.self.now c.args.x c.index-place.result.now.start c.index-place.result.now.end
    c.deref_mut.result.now c.turn_row.new.row c.self.invariant c.self.view_is c.requires.row
    (part (goal.at.After-turn_row c).After-deref_mut) c.deref_mut.ensures.value long

pub invariant_of-self : goal.invariant_of-self
invariant_of-self c = (shows (goal.at.invariant_of-self c).After-turn_row).is

pub returns : goal.returns
returns c =
    let b = (goal.at.returns c).After-turn_row in (shows b).shown ∙ ap (with_row c.args.self.now c.args.x) (written b)

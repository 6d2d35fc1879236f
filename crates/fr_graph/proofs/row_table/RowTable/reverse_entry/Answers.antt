use Rattle.std.proofs.Common.{ap, arith, length, map, rules, ◌-◌, ◌∙◌, ◌≡◌}
use Rattle.std.proofs.lemmas.List.{length-map}
use Rattle.fr_graph.proofs.RowTables.{IsPart, ShowsRowWritten, part_at, part_rewritten, row_at}
use Rattle.fr_graph.specs.TurnedRows.{reversed_at}
use Rattle.fr_graph.specs.Tables.{row_of, with_row}
use Rattle.fr_graph.specs.declared.row_table.RowTable.TheInside.{Inside}
use Rattle.std.specs.Vec.{with_items}
use borrow.Rule.Slice.PartMut.{put_mid}
use Rattle.fr_graph.proofs.row_table.RowTable.reverse_entry.Goals as goal
use Rattle.fr_graph.proofs.row_table.RowTable.reverse_entry.Goals.{After-deref_mut, After-reverse_entry}

part : (c : After-deref_mut)
    → IsPart c.self.inside c.args.self.now c.args.x c.index-place.result.now.start c.index-place.result.now.end
    c.deref_mut.result.now
part c =
    part_at c.self.inside c.args.self.now c.args.x c.index-place.result.now c.deref_mut.result.now c.self.invariant
    c.self.view_is c.requires.row c.index-place.ensures c.deref_mut.ensures.value

pub index-place-requires : goal.index-place-requires
index-place-requires c = omega (
  arith,
  (row_at c.self.inside c.args.self.now c.args.x c.self.invariant c.self.view_is c.requires.row).next,
  c.self.inside.places.ok.0,
)

pub offset_bounds-deref_mut-place : goal.offset_bounds-deref_mut-place
offset_bounds-deref_mut-place c =
    let p = part (goal.at.offset_bounds-deref_mut-place c).After-deref_mut in
    omega (arith, p.low, p.high, c.deref_mut.ensures.len, c.self.inside.entries.ok.1, c.self.inside.entries.small)

pub slice_bounds-reverse_entry-count : goal.slice_bounds-reverse_entry-count
slice_bounds-reverse_entry-count c = (part (goal.at.slice_bounds-reverse_entry-count c).After-deref_mut).low

pub slice_bounds-reverse_entry-start : goal.slice_bounds-reverse_entry-start
slice_bounds-reverse_entry-start c =
    search (rules, (part (goal.at.slice_bounds-reverse_entry-start c).After-deref_mut).low)

pub slice_bounds-reverse_entry-end : goal.slice_bounds-reverse_entry-end
slice_bounds-reverse_entry-end c =
    search (rules, (part (goal.at.slice_bounds-reverse_entry-end c).After-deref_mut).high)

pub reverse_entry-requires-clause-rising : goal.reverse_entry-requires-clause-rising
reverse_entry-requires-clause-rising c =
    rw (part (goal.at.reverse_entry-requires-clause-rising c).After-deref_mut).is_row c.requires.rising

pub reverse_entry-requires-clause-stands : goal.reverse_entry-requires-clause-stands
reverse_entry-requires-clause-stands c =
    rw (part (goal.at.reverse_entry-requires-clause-stands c).After-deref_mut).is_row c.requires.stands

written : (c : After-reverse_entry)
    → c.reverse_entry.new.row ≡ map (reversed_at c.args.w) (row_of c.args.self.now c.args.x)
written c =
    c.reverse_entry.ensures
    ∙ ap (map (reversed_at c.args.w)) (part (goal.at.After-reverse_entry c).After-deref_mut).is_row

-- the fields afterwards
abbrev after : (c : After-reverse_entry) → Inside
after c = record {
  places = c.self.inside.places;
  entries = with_items c.self.inside.entries
      (put_mid c.index-place.result.now.start (c.index-place.result.now.end - c.index-place.result.now.start)
      c.deref_mut.result.now c.reverse_entry.new.row);
  empty = c.self.inside.empty;
}

shows : (c : After-reverse_entry) → ShowsRowWritten (after c) c.args.self.now c.args.x c.reverse_entry.new.row
shows c =
    let long : length c.reverse_entry.new.row ≡ length (row_of c.args.self.now c.args.x) = ap length (written c)
    ∙ length-map (row_of c.args.self.now c.args.x) (reversed_at c.args.w) in
    part_rewritten c.self.inside c.args.self.now c.args.x c.index-place.result.now.start c.index-place.result.now.end
    c.deref_mut.result.now c.reverse_entry.new.row c.self.invariant c.self.view_is c.requires.row
    (part (goal.at.After-reverse_entry c).After-deref_mut) c.deref_mut.ensures.value long

pub invariant_of-self : goal.invariant_of-self
invariant_of-self c = (shows (goal.at.invariant_of-self c).After-reverse_entry).is

pub returns : goal.returns
returns c =
    let b = (goal.at.returns c).After-reverse_entry in
    (shows b).shown ∙ ap (with_row c.args.self.now c.args.x) (written b)

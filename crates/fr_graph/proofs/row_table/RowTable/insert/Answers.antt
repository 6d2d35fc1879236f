use Rattle.std.proofs.Common.{ap, arith, eqb, insert, length, refl, rules, slice_range, ◌+◌, ◌-◌, ◌<◌, ◌∙◌, ◌≡◌, ◌≤◌}
use Rattle.std.proofs.lemmas.List.Edits.{length-between}
use Rattle.std.specs.Vec.{with_item, with_items}
use borrow.Rule.Slice.PartMut.{put_mid}
use Rattle.fr_graph.proofs.Counting.{weigh}
use Rattle.fr_graph.proofs.RowTables.{IsPart, IsRowAt, ShowsRowWritten, bit_is, entry_inserted, none_counted}
use Rattle.fr_graph.proofs.RowTables.{none_where, part_at, part_put, row_at}
use Rattle.fr_graph.specs.Tables.{end_of, row_between, row_of, start_of}
use Rattle.fr_graph.specs.declared.row_table.RowTable.TheInside.{Inside}
use Rattle.fr_graph.proofs.row_table.RowTable.insert.Goals as goal
use Rattle.fr_graph.proofs.row_table.RowTable.insert.Goals.{After-deref_mut, After-from, After-index, After-self}

at : (c : After-self) → IsRowAt c.self.inside c.args.self.now c.args.x
at c = row_at c.self.inside c.args.self.now c.args.x c.self.invariant c.self.view_is c.requires.row

row : (c : After-index)
    → IsPart c.self.inside c.args.self.now c.args.x c.index.result.now.start c.index.result.now.end
    c.self.inside.entries.items
row c = part_at c.self.inside c.args.self.now c.args.x c.index.result.now c.self.inside.entries.items c.self.invariant
    c.self.view_is c.requires.row c.index.ensures refl

low : (c : After-index) → c.index.result.now.start + c.args.place ≤ c.index.result.now.end
low c = let r = row c in omega (arith, c.requires.place, r.long, r.low)

high : (c : After-index) → c.index.result.now.end < length c.self.inside.entries.items
high c =
    let b = at (goal.at.After-index c).After-self in
    omega (arith, (row c).end, c.requires.room, b.long, b.room, b.low, b.high, b.inside)

pub index-requires : goal.index-requires
index-requires c = omega (arith, (at (goal.at.index-requires c).After-self).next, c.self.inside.places.ok.0)

pub overflow_add-start : goal.overflow_add-start
overflow_add-start c = let l = low (goal.at.overflow_add-start c).After-index in omega (arith, l)

pub overflow_add-end : goal.overflow_add-end
overflow_add-end c =
    let h = high (goal.at.overflow_add-end c).After-index in
    omega (arith, h, c.self.inside.entries.ok, c.self.inside.entries.small)

pub offset_bounds-deref_mut-start : goal.offset_bounds-deref_mut-start
offset_bounds-deref_mut-start c =
    let b = (goal.at.offset_bounds-deref_mut-start c).After-index in
    omega (arith, low b, high b, c.self.inside.entries.ok.0, c.self.inside.entries.ok.1, c.self.inside.entries.small)

pub slice_bounds-insert_at_front-count : goal.slice_bounds-insert_at_front-count
slice_bounds-insert_at_front-count c =
    let l = low (goal.at.slice_bounds-insert_at_front-count c).After-index in omega (arith, l)

pub slice_bounds-insert_at_front-start : goal.slice_bounds-insert_at_front-start
slice_bounds-insert_at_front-start c =
    let l = low (goal.at.slice_bounds-insert_at_front-start c).After-index in
    let more : c.index.result.now.start + c.args.place ≤ c.index.result.now.end + 1 = omega (arith, l) in
    search (rules, more)

pub slice_bounds-insert_at_front-end : goal.slice_bounds-insert_at_front-end
slice_bounds-insert_at_front-end c =
    let h = high (goal.at.slice_bounds-insert_at_front-end c).After-index in
    let inside : c.index.result.now.end + 1 ≤ length c.deref_mut.result.now =
    omega (arith, h, ap length c.deref_mut.ensures.value) in
    search (rules, inside)

-- the length of the part that moves
part : (c : After-deref_mut) → length (slice_range c.deref_mut.result.now (c.index.result.now.start + c.args.place)
    (c.index.result.now.end + 1)) ≡ c.index.result.now.end + 1 - (c.index.result.now.start + c.args.place)
part c =
    let h = high (goal.at.After-deref_mut c).After-index in
    length-between c.deref_mut.result.now (c.index.result.now.start + c.args.place) (c.index.result.now.end + 1)
    (omega (arith, h, ap length c.deref_mut.ensures.value))

pub insert_at_front-requires : goal.insert_at_front-requires
insert_at_front-requires c =
    let b = goal.at.insert_at_front-requires c in
    omega (arith, part b.After-deref_mut, low b.After-index)

pub overflow_add-end-2 : goal.overflow_add-end-2
overflow_add-end-2 c = let h = high (goal.at.overflow_add-end-2 c).After-index in
    omega (arith, h, c.self.inside.entries.ok.0, c.self.inside.entries.ok.1, c.self.inside.entries.small)

pub index_mut-requires : goal.index_mut-requires
index_mut-requires c = omega (arith, (at (goal.at.index_mut-requires c).After-self).next, c.self.inside.places.ok.0)

-- whether the row was empty
was_none : (c : After-from)
    → c.from.result ≡ weigh (eqb (start_of c.self.inside c.args.x) (end_of c.self.inside c.args.x))
was_none c =
    let r = row (goal.at.After-from c).After-index in
    rw (c.from.ensures, r.start, r.end) (bit_is (eqb (start_of c.self.inside c.args.x) (end_of c.self.inside c.args.x)))

counted : (c : After-from) → c.from.result ≤ c.self.inside.empty
counted c =
    let b = at (goal.at.After-from c).After-self in
    let none = none_where (row_between c.self.inside c.args.x) (start_of c.self.inside c.args.x)
    (end_of c.self.inside c.args.x) (omega (arith, ap length b.is_row, b.long, b.low)) in
    omega (arith, was_none c, ap weigh none, none_counted c.self.inside c.args.x c.self.invariant b.has)

pub overflow_sub-self : goal.overflow_sub-self
overflow_sub-self c = counted (goal.at.overflow_sub-self c).After-from

-- the fields afterwards
abbrev after : (c : After-from) → Inside
after c = record {
  places =
      with_item c.self.inside.places c.args.x (record {
        start = c.index.result.now.start;
        end = c.index.result.now.end + 1;
      });
  entries = with_items c.self.inside.entries
      (put_mid (c.index.result.now.start + c.args.place)
      (c.index.result.now.end
      + 1 - (c.index.result.now.start + c.args.place)) c.deref_mut.result.now c.insert_at_front.new.entries);
  empty = c.self.inside.empty - c.from.result;
}

shows : (c : After-from)
    → ShowsRowWritten (after c) c.args.self.now c.args.x
    (insert (row_of c.args.self.now c.args.x) c.args.place c.args.entry)
shows c =
    let b = goal.at.After-from c in
    let t = c.self.inside in
    let x = c.args.x in
    let p = c.args.place in
    let r = row b.After-index in
    let new = c.insert_at_front.new.entries in
    let l = low b.After-index in
    let h = high b.After-index in
    let size = c.insert_at_front.auto.entries ∙ part b.After-deref_mut in
    entry_inserted t (after c) c.args.self.now x p c.args.entry new c.self.invariant c.self.view_is c.requires.row
    c.requires.place c.requires.room
    (rw (r.start, r.end) at size)
    (rw (part b.After-deref_mut, c.deref_mut.ensures.value, r.start, r.end) at c.insert_at_front.ensures)
    (rw (r.start, r.end) refl)
    (part_put t.entries c.deref_mut.result.now new (c.index.result.now.start + p)
    (c.index.result.now.end + 1 - (c.index.result.now.start + p)) c.deref_mut.ensures.value size (omega (arith, l, h))
    ∙ ap (λ k. put_mid (k + p) (length new) t.entries.items new) r.start)
    (omega (arith, was_none c, counted c))

pub invariant_of-self : goal.invariant_of-self
invariant_of-self c = (shows (goal.at.invariant_of-self c).After-from).is

pub returns : goal.returns
returns c = (shows (goal.at.returns c).After-from).shown

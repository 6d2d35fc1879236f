use Rattle.std.proofs.Common.{ap, arith, drop, eqb, length, refl, remove, rules, slice_range, sym, take, ◌+◌, ◌-◌, ◌<◌}
use Rattle.std.proofs.Common.{◌∙◌, ◌≡◌, ◌≤◌}
use Rattle.std.proofs.lemmas.List.Edits.{length-between}
use Rattle.std.specs.Vec.{with_item, with_items}
use borrow.Rule.Slice.PartMut.{put_mid}
use Rattle.fr_graph.proofs.Counting.{weigh}
use Rattle.fr_graph.proofs.RowTables.{IsPart, IsRowAt, ShowsRowWritten, bit_is, entry_removed, none_few, part_at}
use Rattle.fr_graph.proofs.RowTables.{part_put, row_at, weigh-le}
use Rattle.fr_graph.specs.Tables.{row_of, start_of}
use Rattle.fr_graph.specs.declared.row_table.RowTable.TheInside.{Inside}
use Rattle.fr_graph.proofs.row_table.RowTable.remove.Goals as goal
use Rattle.fr_graph.proofs.row_table.RowTable.remove.Goals.{After-deref_mut, After-from, After-index, After-self}

at : (c : After-self) → IsRowAt c.self.inside c.args.self.now c.args.x
at c = row_at c.self.inside c.args.self.now c.args.x c.self.invariant c.self.view_is c.requires.row

row : (c : After-index)
    → IsPart c.self.inside c.args.self.now c.args.x c.index.result.now.start c.index.result.now.end
    c.self.inside.entries.items
row c = part_at c.self.inside c.args.self.now c.args.x c.index.result.now c.self.inside.entries.items c.self.invariant
    c.self.view_is c.requires.row c.index.ensures refl

low : (c : After-index) → c.index.result.now.start + c.args.place < c.index.result.now.end
low c = let r = row c in omega (arith, c.requires.place, r.long, r.low)

pub index-requires : goal.index-requires
index-requires c = omega (arith, (at (goal.at.index-requires c).After-self).next, c.self.inside.places.ok.0)

pub overflow_add-start : goal.overflow_add-start
overflow_add-start c =
    let b = (goal.at.overflow_add-start c).After-index in
    omega (
      arith,
      low b,
      (row b).high,
      c.self.inside.entries.ok.0,
      c.self.inside.entries.ok.1,
      c.self.inside.entries.small,
    )

pub offset_bounds-deref_mut-start : goal.offset_bounds-deref_mut-start
offset_bounds-deref_mut-start c =
    let b = (goal.at.offset_bounds-deref_mut-start c).After-index in
    omega (
      arith,
      low b,
      (row b).high,
      c.self.inside.entries.ok.0,
      c.self.inside.entries.ok.1,
      c.self.inside.entries.small,
    )

pub slice_bounds-remove_from_front-count : goal.slice_bounds-remove_from_front-count
slice_bounds-remove_from_front-count c =
    let l = low (goal.at.slice_bounds-remove_from_front-count c).After-index in omega (arith, l)

pub slice_bounds-remove_from_front-start : goal.slice_bounds-remove_from_front-start
slice_bounds-remove_from_front-start c =
    let l = low (goal.at.slice_bounds-remove_from_front-start c).After-index in
    let more : c.index.result.now.start + c.args.place ≤ c.index.result.now.end = omega (arith, l) in
    search (rules, more)

pub slice_bounds-remove_from_front-end : goal.slice_bounds-remove_from_front-end
slice_bounds-remove_from_front-end c =
    let h = (row (goal.at.slice_bounds-remove_from_front-end c).After-index).high in
    let inside : c.index.result.now.end ≤ length c.deref_mut.result.now =
    omega (arith, h, ap length c.deref_mut.ensures.value) in
    search (rules, inside)

-- the length of the part that moves
part : (c : After-deref_mut) → length
    (slice_range c.deref_mut.result.now (c.index.result.now.start + c.args.place)
    c.index.result.now.end) ≡ c.index.result.now.end - (c.index.result.now.start + c.args.place)
part c =
    let h = (row (goal.at.After-deref_mut c).After-index).high in
    length-between c.deref_mut.result.now (c.index.result.now.start + c.args.place) c.index.result.now.end
    (omega (arith, h, ap length c.deref_mut.ensures.value))

pub remove_from_front-requires : goal.remove_from_front-requires
remove_from_front-requires c =
    let b = goal.at.remove_from_front-requires c in
    omega (arith, part b.After-deref_mut, low b.After-index)

pub overflow_sub-end : goal.overflow_sub-end
overflow_sub-end c = let l = low (goal.at.overflow_sub-end c).After-index in omega (arith, l)

pub index_mut-requires : goal.index_mut-requires
index_mut-requires c = omega (arith, (at (goal.at.index_mut-requires c).After-self).next, c.self.inside.places.ok.0)

-- whether the row is empty now
is_none : (c : After-from) → c.from.result ≡ weigh (eqb (start_of c.self.inside c.args.x) (c.index.result.now.end - 1))
is_none c =
    rw (c.from.ensures, (row (goal.at.After-from c).After-index).start)
    (bit_is (eqb (start_of c.self.inside c.args.x) (c.index.result.now.end - 1)))

pub overflow_add-self : goal.overflow_add-self
overflow_add-self c =
    omega (
      arith,
      none_few c.self.inside c.self.invariant,
      is_none (goal.at.overflow_add-self c).After-from,
      weigh-le (eqb (start_of c.self.inside c.args.x) (c.index.result.now.end - 1)),
      c.self.invariant.some,
      c.self.inside.places.ok.0,
      c.self.inside.places.ok.1,
      c.self.inside.places.small,
    )

-- the fields afterwards
abbrev after : (c : After-from) → Inside
after c = record {
  places =
      with_item c.self.inside.places c.args.x (record {
        start = c.index.result.now.start;
        end = c.index.result.now.end - 1;
      });
  entries = with_items c.self.inside.entries
      (put_mid (c.index.result.now.start + c.args.place)
      (c.index.result.now.end - (c.index.result.now.start
      + c.args.place)) c.deref_mut.result.now c.remove_from_front.new.entries);
  empty = c.self.inside.empty + c.from.result;
}

shows : (c : After-from)
    → ShowsRowWritten (after c) c.args.self.now c.args.x (remove (row_of c.args.self.now c.args.x) c.args.place)
shows c =
    let b = goal.at.After-from c in
    let t = c.self.inside in
    let x = c.args.x in
    let p = c.args.place in
    let r = row b.After-index in
    let end = c.index.result.now.end in
    let new = c.remove_from_front.new.entries in
    let l = low b.After-index in
    let last : end ≡ end - 1 + 1 = omega (arith, l) in
    let size = c.remove_from_front.ensures.one_each ∙ part b.After-deref_mut in
    entry_removed t (after c) c.args.self.now x p (end - 1) new c.self.invariant c.self.view_is c.requires.row
    c.requires.place
    (omega (arith, l, r.end))
    (omega (arith, size, l, r.start))
    (ap (λ k. take (k - (start_of t x + p) - 1) new) (sym last)
    ∙ (rw (part b.After-deref_mut, c.deref_mut.ensures.value, r.start) at c.remove_from_front.ensures.rest)
    ∙ ap (λ k. drop 1 (slice_range t.entries.items (start_of t x + p) k)) last)
    (rw r.start refl)
    (part_put t.entries c.deref_mut.result.now new (c.index.result.now.start + p) (end - (c.index.result.now.start + p))
    c.deref_mut.ensures.value size (omega (arith, l, r.high))
    ∙ ap (λ k. put_mid (k + p) (length new) t.entries.items new) r.start)
    (ap (λ n. t.empty + n) (is_none c))

pub invariant_of-self : goal.invariant_of-self
invariant_of-self c = (shows (goal.at.invariant_of-self c).After-from).is

pub returns : goal.returns
returns c = (shows (goal.at.returns c).After-from).shown

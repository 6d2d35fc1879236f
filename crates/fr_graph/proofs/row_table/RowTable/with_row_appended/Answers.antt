use Rattle.std.proofs.Common.{List, [], ap, arith, count_by, length, refl, replicate, sym, take, ℕ, ◌+◌, ◌++◌, ◌-◌, ◌∙◌}
use Rattle.std.proofs.Common.{◌∷◌, ◌≡◌}
use Rattle.std.proofs.lemmas.List.{length-replicate}
use Rattle.fr_graph.proofs.Counting.{weigh}
use Rattle.fr_graph.proofs.LaidOut.{IsBehind, rooms_behind, rows_behind, start_behind, table_behind}
use Rattle.fr_graph.proofs.RowTables.{bit_is, none_few, none_is, start_read, weigh-le}
use Rattle.fr_graph.specs.Tables.{Table, has_none, rows_in, start_at}
use Rattle.fr_graph.specs.declared.first.First.{First}
use Rattle.fr_graph.specs.declared.first.First.TheVariants.{Outward}
use Rattle.fr_graph.proofs.row_table.RowTable.with_row_appended.Goals as goal
use Rattle.fr_graph.proofs.row_table.RowTable.with_row_appended.Goals.{After-from-empty}

last_is : (c : After-from-empty) → c.len-last.result - 1 ≡ rows_in c.self.inside
last_is c = omega (arith, c.len-last.ensures, c.self.inside.places.ok.0)

start_is : (c : After-from-empty) → c.index.result.now.start ≡ start_behind c.self.inside
start_is c =
    start_read c.self.inside (c.len-last.result - 1) c.index.result.now (omega (
      arith,
      last_is c,
      c.self.invariant.some,
    )) c.index.ensures
    ∙ ap (start_at c.self.inside.places.items) (last_is c)

next_is : (c : After-from-empty) → c.in_ok-next.next ≡ start_behind c.self.inside + c.args.room
next_is c = (rw c.in_ok-next.ensures.ok_part at c.checked_add.ensures).1 ∙ ap (λ s. s + c.args.room) (start_is c)

abbrev filler : After-from-empty → List (ℕ × First)
filler c = replicate (c.in_ok-next.next - (c.index.result.now.start + length c.args.row.now)) (0, Outward)

-- whether the row is empty
is_none : (c : After-from-empty) → c.from-empty.result ≡ weigh (has_none c.args.row.now)
is_none c =
    c.from-empty.ensures ∙ bit_is c.is_empty.result ∙ ap weigh (c.is_empty.ensures ∙ sym (none_is c.args.row.now))

behind : (c : After-from-empty)
    → IsBehind c.self.inside (record {
      places = c.push.new.self;
      entries = c.write_row_behind.new.entries;
      empty =
          c.self.inside.empty + c.from-empty.result;
    }) c.args.row.now (filler c) c.args.room
behind c = record {
  within = omega (
    arith,
    length-replicate {A = ℕ × First}
        (c.in_ok-next.next - (c.index.result.now.start + length c.args.row.now)) (0, Outward),
    start_is c,
    next_is c,
    c.requires,
  );
  places = c.in_ok-push.ensures.items ∙ rw (last_is c, start_is c, next_is c) refl;
  entries =
      c.in_ok-write_row_behind.ensures
      ∙ ap (λ s. take s c.self.inside.entries.items ++ (c.args.row.now ++ filler c)) (start_is c);
  empty =
      let one : count_by has_none (c.args.row.now ∷ []) ≡ weigh (has_none c.args.row.now) = omega arith in
      omega (arith, is_none c, one);
}

pub overflow_add-empty : goal.overflow_add-empty
overflow_add-empty c =
    omega (
      arith,
      none_few c.self.inside c.self.invariant,
      is_none (goal.at.overflow_add-empty c).After-from-empty,
      weigh-le (has_none c.args.row.now),
      c.self.invariant.some,
      c.self.inside.places.ok.0,
      c.self.inside.places.ok.1,
      c.self.inside.places.small,
    )

pub invariant_of-result : goal.invariant_of-result
invariant_of-result c = table_behind c.self.inside _ c.args.row.now
    (filler (goal.at.invariant_of-result c).After-from-empty) c.args.room c.self.invariant
    (behind (goal.at.invariant_of-result c).After-from-empty)

pub returns-clause-rows : goal.returns-clause-rows
returns-clause-rows c =
    let b = (goal.at.returns-clause-rows c).After-from-empty in
    rows_behind c.self.inside _ c.args.row.now (filler b) c.args.room c.self.invariant (behind b)
    ∙ ap (λ (t : Table). t.rows ++ c.args.row.now ∷ []) c.self.view_is

pub returns-clause-rooms : goal.returns-clause-rooms
returns-clause-rooms c =
    let b = (goal.at.returns-clause-rooms c).After-from-empty in
    rooms_behind c.self.inside _ c.args.row.now (filler b) c.args.room c.self.invariant (behind b)
    ∙ ap (λ (t : Table). t.rooms ++ c.args.room ∷ []) c.self.view_is

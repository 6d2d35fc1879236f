use Rattle.std.proofs.Common.{arith, get_or, length, rules, ◌∙◌, ◌≡◌}
use Rattle.std.proofs.lemmas.List.{take_at}
use Rattle.std.proofs.lemmas.List.Elements.{Contains-get_or}
use Rattle.fr_tables.specs.Inside.{AreListed, AreMarked, IsLast}
use Rattle.fr_tables.proofs.Answering.{keys_up_to, order_from_listed}
use Rattle.fr_tables.proofs.Listing.{listed_none}
use Rattle.fr_tables.proofs.Marks.{none_sound}
use Rattle.fr_tables.proofs.push_room.PushRoom.order_many.Goals as goal

pub mark_groups-requires-clause-sound : goal.mark_groups-requires-clause-sound
mark_groups-requires-clause-sound c =
    none_sound c.deref.result.now c.args.new.now c.deref_mut-2.result.now c.clear.new.self (search rules)
    (search rules) c.requires.change.range c.requires.change.free (search rules) (search rules) c.clear.ensures.items

pub order_by_marks-requires-clause-none : goal.order_by_marks-requires-clause-none
order_by_marks-requires-clause-none c = λ last.
    listed_none c.deref-2.result.now last c.deref_mut-3.result.now c.deref_mut-4.result.now (search rules)
    (search rules)

pub order_by_marks-requires-clause-groups : goal.order_by_marks-requires-clause-groups
order_by_marks-requires-clause-groups c = λ last is k d low.
    let new = c.args.new.now in
    let changed = c.args.changed.now in
    let sound = c.mark_groups.ensures.sound in
    let differ_is =
    c.deref.ensures.value ∙ take_at c.mark_changed.new.differ _ _ (omega (
      arith,
      c.mark_changed.ensures.one_each,
      c.deref_mut.ensures.len,
    )) in
    let marks_are =
    c.deref-2.ensures.value ∙ take_at c.mark_groups.new.marks _ _ (omega (
      arith,
      c.mark_groups.auto.marks,
      c.deref_mut-2.ensures.len,
    )) in
    let marked : AreMarked c.deref.result.now new changed =
    record { table = sound.table; noted = rw differ_is c.mark_changed.ensures.noted; change = c.requires.change } in
    let long : length c.deref_mut-3.result.now ≡ length new = search rules in
    let is_last : IsLast c.mark_groups.new.marks changed last = rw marks_are at is in
    rw (long, marks_are) (keys_up_to c.deref.result.now new changed marked c.mark_groups.new.marks sound.known
    c.mark_groups.ensures.groups last is_last (get_or changed k d) (Contains-get_or changed k d low))

pub returns-clause-order : goal.returns-clause-order
returns-clause-order c =
    let new = c.args.new.now in
    let changed = c.args.changed.now in
    let sound = c.mark_groups.ensures.sound in
    let keys = c.order_by_marks.new.keys in
    let (last, counts, is_last, listed, is) = c.order_by_marks.ensures.order in
    let differ_is =
    c.deref.ensures.value ∙ take_at c.mark_changed.new.differ _ _ (omega (
      arith,
      c.mark_changed.ensures.one_each,
      c.deref_mut.ensures.len,
    )) in
    let marks_are =
    c.deref-2.ensures.value ∙ take_at c.mark_groups.new.marks _ _ (omega (
      arith,
      c.mark_groups.auto.marks,
      c.deref_mut-2.ensures.len,
    )) in
    let marked : AreMarked c.deref.result.now new changed =
    record { table = sound.table; noted = rw differ_is c.mark_changed.ensures.noted; change = c.requires.change } in
    let long : length c.deref_mut-3.result.now ≡ length new = search rules in
    let last_of : IsLast c.mark_groups.new.marks changed last = rw marks_are at is_last in
    let of_groups : AreListed c.mark_groups.new.marks last changed keys counts = rw marks_are at listed in
    order_from_listed c.deref.result.now new changed marked c.mark_groups.new.marks sound.known last last_of keys counts
    (c.order_by_marks.ensures.one_each.0 ∙ long) of_groups c.order_by_marks.new.changed is

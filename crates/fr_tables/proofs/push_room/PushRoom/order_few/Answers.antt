use Rattle.std.proofs.Common.{Bool, List, ap, arith, false, get_or, length, rules, sym, ℕ, ◌<◌, ◌∙◌, ◌≡◌}
use Rattle.std.proofs.lemmas.List.{take_at}
use Rattle.std.proofs.lemmas.List.Sorted.{All-permutation, Contains-permutation, IsPermutation-sym}
use Rattle.fr_tables.proofs.push_room.PushRoom.order_few.Goals as goal

pub clear_marks-requires-clause-nodes : goal.clear_marks-requires-clause-nodes
clear_marks-requires-clause-nodes c =
    let long : length c.deref_mut-3.result.now ≡ length c.args.new.now = search rules in
    rw long (All-permutation (λ (x : ℕ). x < length c.args.new.now)
    c.args.changed.now c.order_by_walks-is_ordered.new.changed c.order_by_walks-is_ordered.ensures.same
    c.requires.change.inside)

pub clear_marks-requires-clause-noted : goal.clear_marks-requires-clause-noted
clear_marks-requires-clause-noted c = λ x.
    let before = c.args.changed.now in
    let after = c.order_by_walks-is_ordered.new.changed in
    let same = c.order_by_walks-is_ordered.ensures.same in
    let whole =
    c.deref_mut-3.ensures.value ∙ take_at c.mark_changed.new.differ _ _ (omega (
      arith,
      c.mark_changed.ensures.one_each,
      c.deref_mut.ensures.len,
    )) in
    let is : get_or c.deref_mut-3.result.now x false ≡ get_or c.mark_changed.new.differ x false =
    ap (λ (bs : List Bool). get_or bs x false) whole in (
      λ found. is
          ∙ (c.mark_changed.ensures.noted x).0
          (Contains-permutation after before x (IsPermutation-sym before after same) found),
      λ t. Contains-permutation before after x same ((c.mark_changed.ensures.noted x).1 (sym is ∙ t)),
    )

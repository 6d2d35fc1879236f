use Rattle.std.proofs.Common.{length, take, vec_capacity, ◌≡◌}
use Rattle.fr_nearest.specs.Update.{IsTouched, Lists}
use Rattle.fr_nearest.proofs.update.list_edits.Given as goal

abbrev pub invariant-loop-edit : goal.invariant-loop-edit
invariant-loop-edit l = record {
  lists : Lists (length l.distances) l.distances l.event (IsTouched l.event (take l.edit-index l.edits)) l.fn.list.items
      l.list.items;
  room : vec_capacity l.list ≡ vec_capacity l.fn.list;
}

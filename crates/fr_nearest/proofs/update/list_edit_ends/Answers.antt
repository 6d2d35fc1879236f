use Rattle.std.proofs.Common.{inl, inr, slice_index}
use Rattle.fr_graph.specs.declared.edit.Edit.TheVariants.{Add, Cut, Join}
use Rattle.fr_nearest.specs.Distances.{no_distance}
use Rattle.fr_nearest.specs.Update.{Touches}
use Rattle.fr_nearest.specs.declared.update.Event.TheVariants.{Gained, Lost}
use Rattle.fr_nearest.proofs.Listing.{ends_seen}
use Rattle.fr_nearest.proofs.update.list_edit_ends.Goals as goal

pub returns-then-list_if_affected-clause-listed : goal.returns-then-list_if_affected-clause-listed
returns-then-list_if_affected-clause-listed c = λ t.
    let u = c.in-Cut.u in
    let v = c.in-Cut.v in
    let table = c.args.distances.now in
    rw (c.in-Cut.is, c.in-Lost.is) (ends_seen Lost (Touches Lost (Cut u v)) u v
    (slice_index table v) no_distance (slice_index table u) no_distance (λ x w ends. ends) (λ a. a) (λ a. a)
    (c.list_if_affected.ensures.listed c.if-list_if_affected.true)
    (c.list_if_affected-then-list_if_affected.ensures.listed t))

pub returns-then-list_if_affected-2-clause-listed : goal.returns-then-list_if_affected-2-clause-listed
returns-then-list_if_affected-2-clause-listed c = λ t.
    let u = c.in-Add.u in
    let v = c.in-Add.v in
    let table = c.args.distances.now in
    let one = c.list_if_affected-in-Gained-event.ensures.listed c.if-list_if_affected-2.true in
    let two = c.list_if_affected-then-list_if_affected-2.ensures.listed t in
    elim c.in-Add.is [
      | inl add ↦ rw (add, c.in-Gained-event.is) (ends_seen Gained (Touches Gained (Add u v)) u v no_distance
          (slice_index table v) no_distance (slice_index table u) (λ x w ends. ends) (λ a. a) (λ a. a) one two)
      | inr join ↦ rw (join, c.in-Gained-event.is) (ends_seen Gained (Touches Gained (Join u v)) u v no_distance
          (slice_index table v) no_distance (slice_index table u) (λ x w ends. ends) (λ a. a) (λ a. a) one two)
    ]

use Rattle.std.proofs.Common.{inl, inr}
use Rattle.fr_nearest.proofs.Marking.{marked_then}
use Rattle.fr_nearest.proofs.affected.Marks.mark_ends.Goals as goal

pub returns : goal.returns
returns c =
    let both = marked_then c.mark.ensures c.mark-in-Cut.ensures in
    elim c.in-Cut.is [
      | inl cut ↦ rw cut both
      | inr other ↦ elim other [
        | inl add ↦ rw add both
        | inr join ↦ rw join both
      ]
    ]

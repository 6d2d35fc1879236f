use Rattle.std.proofs.Common.{Option, ap, ◌∙◌}
use Rattle.std.specs.Prelude.{option_map}
use Rattle.std.specs.declared.alloc.Global.{Global}
use Rattle.std.specs.declared.boxed.Box.{Box}
use Rattle.fr_route.specs.Listing.{notes_told}
use Rattle.fr_route.specs.declared.way_notes.WayNotes.{WayNotes}
use Rattle.fr_route.proofs.WaysTold.{same_list}
use Rattle.fr_route.proofs.changed_nodes.ChangedNodes.begin_ways.Goals as goal

pub note_ways_before-requires-clause-measured : goal.note_ways_before-requires-clause-measured
note_ways_before-requires-clause-measured c =
    let w = c.in-InList-default-Some in
    c.requires.measured (
      w.notes.value,
      ap notes_told w.is
          ∙ ap (λ (it : Option (Box WayNotes Global)). option_map (λ (boxed : Box WayNotes Global). boxed.value) it)
          w.field-1-is,
    )

pub returns-in-InList-default-Some-clause-list : goal.returns-in-InList-default-Some-clause-list
returns-in-InList-default-Some-clause-list c =
    let w = c.in-InList-default-Some in rw (w.is, w.field-1-is) (same_list w.field-0 w.notes _)

use Rattle.std.proofs.Common.{None, Option, Some, refl, ◌≡◌}
use Rattle.std.specs.declared.alloc.Global.{Global}
use Rattle.std.specs.declared.boxed.Box.{Box}
use Rattle.std.proofs.lemmas.Bool.{false≢true}
use Rattle.std.specs.Prelude.{IsTrue, option_map}
use Rattle.std.specs.Option.{is_some}
use Rattle.fr_route.specs.declared.way_notes.WayNotes.{WayNotes}
use Rattle.fr_route.proofs.changed_nodes.ChangedNodes.wants_ways.Goals as goal

abbrev noted : Option (Box WayNotes Global) → Option WayNotes
noted = option_map (λ (boxed : Box WayNotes Global). boxed.value)

asked : (notes : Option (Box WayNotes Global)) → (IsTrue (is_some notes) → (it : WayNotes) × (noted notes ≡ Some it))
    × (((it : WayNotes) × (noted notes ≡ Some it)) → IsTrue (is_some notes))
asked None = (λ h. absurd (false≢true h), λ (it, is). absurd cc)
asked (Some boxed) = (λ h. (boxed.value, refl), λ h. refl)

pub returns-in-InList : goal.returns-in-InList
returns-in-InList c = rw (c.is_some.ensures, c.in-InList.is) (asked c.in-InList.notes)

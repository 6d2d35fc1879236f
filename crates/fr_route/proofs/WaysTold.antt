-- Notes of what a change does to ways, when it is made or fails.
use Rattle.std.proofs.Common.{Some, arith, refl, subst, sym, ◌∙◌, ◌≡◌}
use Rattle.std.specs.declared.alloc.Global.{Global}
use Rattle.std.specs.declared.boxed.Box.{Box}
use Rattle.std.specs.declared.vec.Vec.{Vec}
use Rattle.std.proofs.Common.{ℕ, Option}
use Rattle.fr_ways.specs.Changes.{KeepsPushes, Noted}
use Rattle.fr_route.specs.Listing.{AsksWays, HasSameList, notes_told, noted_in, ways_told}
use Rattle.fr_route.specs.declared.changed_nodes.ChangedNodes.{ChangedNodes}
use Rattle.fr_route.specs.declared.changed_nodes.ChangedNodes.TheVariants.{InList}
use Rattle.fr_route.specs.declared.way_notes.WayNotes.{WayNotes}

pub pushes_same : (n : Noted) → KeepsPushes n n
pushes_same n = record { shrink = refl; emptied = refl; grow = refl; nodes = omega arith; ways = omega arith }

-- with the same notes the caller asks for the same, and has the same pushes
pub same_pushes : (a b : ChangedNodes) → notes_told b ≡ notes_told a → KeepsPushes (ways_told a) (ways_told b)
same_pushes a b same =
    subst (λ (notes : Option WayNotes). KeepsPushes (ways_told a) (noted_in notes)) (sym same)
    (pushes_same (ways_told a))

pub same_asking : (a b : ChangedNodes) → notes_told b ≡ notes_told a → AsksWays a → AsksWays b
same_asking a b same (notes, is) = (notes, same ∙ is)

-- other notes beside the same list
pub same_list : (list : Vec ℕ Global) (a b : Box WayNotes Global)
    → HasSameList (InList list (Some a)) (InList list (Some b))
same_list list a b = record {
  nodes = refl;
  places = λ n has. has;
  listing = λ is. tt;
  ways = (λ _. (b.value, refl), λ _. (a.value, refl));
}

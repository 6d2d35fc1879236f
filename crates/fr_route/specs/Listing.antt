-- What a caller is told of a change, if he asks: the rerouted nodes, and what it does to the ways of nodes. For proofs
-- only.
use Rattle.std.specs.Prelude.{◌≡◌, ℕ, ◌≤◌, ◌↔◌, List, [], Option, Some, None, option_map, vec_capacity}
use Rattle.std.specs.declared.alloc.Global.{Global}
use Rattle.std.specs.declared.boxed.Box.{Box}
use Rattle.fr_graph.specs.declared.edit.Edit.{Edit}
use Rattle.fr_nearest.specs.Distances.{Measured}
use Rattle.fr_ways.specs.Changes.{Noted}
use Rattle.fr_route.specs.States.{State}
use Rattle.fr_route.specs.WayNotes.{IsBegun, LeadsOn}
use Rattle.fr_route.specs.declared.changed_nodes.ChangedNodes.{ChangedNodes}
use Rattle.fr_route.specs.declared.changed_nodes.ChangedNodes.TheVariants.{InList, Unlisted}
use Rattle.fr_route.specs.declared.way_notes.WayNotes.{WayNotes}

-- the caller asks for the list
abbrev pub IsListing : ChangedNodes → Type 0
IsListing Unlisted = ⊥
IsListing (InList list notes) = Unit {0}

-- the nodes in the list
abbrev pub nodes_told : ChangedNodes → List ℕ
nodes_told Unlisted = []
nodes_told (InList list notes) = list.items

-- there is a list, with room for so many nodes
abbrev pub HasPlaces : ℕ → ChangedNodes → Type 0
HasPlaces n Unlisted = ⊥
HasPlaces n (InList list notes) = n ≤ vec_capacity list

-- the notes of what changes do to the ways of nodes, if the caller asks for that
abbrev pub notes_told : ChangedNodes → Option WayNotes
notes_told Unlisted = None
notes_told (InList list notes) = option_map (λ (boxed : Box WayNotes Global). boxed.value) notes

abbrev pub AsksWays : ChangedNodes → Type 0
AsksWays told = (notes : WayNotes) × (notes_told told ≡ Some notes)

-- the pushes in these notes
abbrev pub noted_in : Option WayNotes → Noted
noted_in None = record { shrink = []; emptied = []; grow = []; nodes = 0; ways = 0 }
noted_in (Some notes) = notes.changes

abbrev pub ways_told : ChangedNodes → Noted
ways_told told = noted_in (notes_told told)

-- there is a list after exactly if there was one before, and it has no less room
pub record KeepsPlaces (before after : ChangedNodes) : Type 0 where
  pub places : (n : ℕ) → HasPlaces n before → HasPlaces n after
  pub listing : IsListing after → IsListing before
  pub notes : notes_told after ≡ notes_told before

-- the list is the same
pub record HasSameList (before after : ChangedNodes) : Type 0 where
  pub nodes : nodes_told after ≡ nodes_told before
  pub places : (n : ℕ) → HasPlaces n before → HasPlaces n after
  pub listing : IsListing after → IsListing before
  pub ways : AsksWays before ↔ AsksWays after

-- the notes are begun for a change of this network by these edits
abbrev pub HaveBegun : ℕ → List (ℕ × ℕ) → ℕ → List Edit → ChangedNodes → Type 0
HaveBegun n links d edits told = (notes : WayNotes) → notes_told told ≡ Some notes → IsBegun n links d edits notes

-- these edits have led from one state to the next
abbrev pub HasLedOn : State → State → List Edit → Measured → ChangedNodes → Type 0
HasLedOn s next edits m told = (notes : WayNotes) → notes_told told ≡ Some notes → LeadsOn s next edits m notes

-- What a router notes of a change, so that it can list what the change does to the ways of nodes. For proofs only.
use Rattle.std.specs.Prelude.{◌≡◌, ℕ, ◌<◌, ◌≤◌, ◌+◌, ◌⊎◌, List, length, slice_index}
use Rattle.std.specs.List.{All, Contains}
use Rattle.fr_graph.specs.Limits.{most_edits}
use Rattle.fr_graph.specs.Links.{IsNet, Points}
use Rattle.fr_graph.specs.declared.edit.Edit.{Edit}
use Rattle.fr_nearest.specs.Distances.{AreChanged, AreDistances, Measured}
use Rattle.fr_nearest.specs.LinkChanges.{HadLinks, HasEndsBelow, IsAdded, IsCut}
use Rattle.fr_nearest.specs.Ways.{AreWays}
use Rattle.fr_ways.specs.Changes.{IsNotedTo}
use Rattle.fr_ways.specs.Ways.{ways}
use Rattle.fr_route.specs.NodeWays.{AreAllWays, HasTurnedEnd}
use Rattle.fr_route.specs.Ends.{ends_of}
use Rattle.fr_route.specs.States.{State}
use Rattle.fr_route.specs.declared.way_notes.WayNotes.{WayNotes}

-- exactly the ends of these edits, by number
pub record AreEnds (edits : List Edit) (list : List ℕ) : Type 0 where
  pub these : (x : ℕ) → Contains (ends_of edits) x → Contains list x
  pub sorted : (i j : ℕ) → i ≤ j → j < length list → slice_index list i ≤ slice_index list j
  pub few : length list ≡ length edits + length edits

-- the ways of these nodes, as far as they are nodes
pub record AreWaysOf (n : ℕ) (links : List (ℕ × ℕ)) (d : ℕ) (nodes : List ℕ) (table : List (List ℕ)) : Type 0 where
  pub one_each : length table ≡ length nodes
  pub each : (i : ℕ) → i < length nodes → slice_index nodes i < n → AreWays links d (slice_index nodes i) (ways table i)

-- there is memory for a change of this network by these edits, and the ways of their ends before it are listed
pub record IsBegun (n : ℕ) (links : List (ℕ × ℕ)) (d : ℕ) (edits : List Edit) (notes : WayNotes) : Type 0 where
  pub few : length edits ≤ most_edits
  pub ends : AreEnds edits notes.ends.items
  pub end_ways : AreWaysOf n links d notes.ends.items notes.end_ways
  pub affected : n ≤ notes.affected.room
  pub before : n ≤ length notes.before.items
  pub after : n ≤ length notes.after.items
  pub nodes : n ≤ notes.changes.nodes
  pub ways : length links + length edits ≤ notes.changes.ways

-- the notes have as much memory, and the same ways of ends
pub record HasSameMemory (old new : WayNotes) : Type 0 where
  pub ends : new.ends ≡ old.ends
  pub end_ways : new.end_ways ≡ old.end_ways
  pub room : new.affected.room ≡ old.affected.room
  pub before : length new.before.items ≡ length old.before.items
  pub after : length new.after.items ≡ length old.after.items
  pub nodes : new.changes.nodes ≡ old.changes.nodes
  pub ways : new.changes.ways ≡ old.changes.ways

-- These edits and turns have led from one state to the next, the notes were begun before them, and the distances were
-- updated after them.
pub record LeadsOn (s next : State) (edits : List Edit) (m : Measured) (notes : WayNotes) : Type 0 where
  pub begun : IsBegun next.nodes s.links s.dest edits notes
  pub same_nodes : s.nodes ≡ next.nodes
  pub was_net : IsNet next.nodes s.links
  pub is_net : IsNet next.nodes next.links
  pub was_below : s.dest < next.nodes
  pub is_below : next.dest < next.nodes
  pub were : AreDistances next.nodes s.links s.dest m.before
  pub are : AreDistances next.nodes next.links next.dest m.table
  pub changed : AreChanged m.before m.table m.changed
  pub counted : length next.counts ≡ next.nodes
  pub ends : All (HasEndsBelow next.nodes) edits
  pub kept : (x w : ℕ) → Points s.links x w
      → IsCut edits x w ⊎ (Points next.links x w ⊎ (Points next.links w x × HasTurnedEnd next.counts x w))
  pub new : (x w : ℕ) → Points next.links x w
      → IsAdded edits x w ⊎ (Points s.links x w ⊎ HasTurnedEnd next.counts x w)
  pub had : (x : ℕ) → ¬ Contains (ends_of edits) x → HadLinks next.links next.counts s.links x
  pub few : length next.links ≤ length s.links + length edits

-- x is the next node to note
pub record IsNext (s next : State) (edits : List Edit) (m : Measured) (before after : List (List ℕ)) (x : ℕ)
    (notes : WayNotes) : Type 0 where
  pub leads : LeadsOn s next edits m notes
  pub were : AreAllWays s before
  pub are : AreAllWays next after
  pub node : x < next.nodes
  pub noted : IsNotedTo before after x notes.changes

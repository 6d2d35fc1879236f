-- Getting ready to tell of a change, and following the round after it.
use Rattle.std.proofs.Common.{◌≡◌, ◌∙◌, ℕ, List, Option, Some, Result, Ok, Err, IsTrue, OnOk, length, subst, sym}
use Rattle.std.specs.declared.alloc.AllocError.{AllocError}
use Rattle.fr_graph.specs.Counts.{links_at}
use Rattle.fr_graph.specs.Network.{Network, net_of}
use Rattle.fr_graph.specs.declared.edit.Edit.{Edit}
use Rattle.fr_nearest.specs.Distances.{AreDistances, IsMeasureOf, IsRenewed, Measured}
use Rattle.fr_ways.specs.Changes.{KeepsPushes}
use Rattle.fr_route.specs.Forwarding.{CanTell, IsReady}
use Rattle.fr_route.specs.KeptDistances.{KeepsDistances}
use Rattle.fr_route.specs.Listing.{AsksWays, HasLedOn, HasPlaces, HasSameList, HaveBegun, IsListing, KeepsPlaces}
use Rattle.fr_route.specs.Listing.{nodes_told, notes_told, noted_in, ways_told}
use Rattle.fr_route.specs.NodeWays.{HasDistances}
use Rattle.fr_route.specs.Outcomes.{settled_state}
use Rattle.fr_route.specs.States.{State, state_with}
use Rattle.fr_route.specs.WayPushes.{AreWayChanges}
use Rattle.fr_route.specs.declared.changed_nodes.ChangedNodes.{ChangedNodes}
use Rattle.fr_route.specs.WayNotes.{IsBegun, LeadsOn}
use Rattle.fr_route.specs.declared.way_notes.WayNotes.{WayNotes}
use Rattle.fr_route.specs.declared.forwarding.ForwardingState.{ForwardingState}
use Rattle.fr_route.specs.declared.kept_distances.KeptDistances.{KeptDistances}
use Rattle.fr_route.specs.declared.outcome.Outcome.{Outcome}
use Rattle.fr_route.proofs.WaysTold.{same_asking, same_pushes}

module _ (net : Network) (d : ℕ) (kept : KeptDistances) where
  -- distances do not depend on counts
  pub keeps_with : (a b : List ℕ) → KeepsDistances (state_with net d a) kept → KeepsDistances (state_with net d b) kept
  keeps_with a b keeps = record {
    one_each = keeps.one_each;
    distances = λ is. let has = keeps.distances is in record { dest = has.dest; table = has.table };
  }

  pub measure_of : (counts : List ℕ) → KeepsDistances (state_with net d counts) kept → IsTrue kept.are_kept
      → IsMeasureOf net kept.table × (kept.table.dest ≡ d)
  measure_of counts keeps is =
      let has : HasDistances (state_with net d counts) kept.table = keeps.distances is in (
        subst (λ (e : ℕ). AreDistances net.nodes net.links e kept.table.table) (sym has.dest) has.table,
        has.dest,
      )

  pub keeps_measure : (counts : List ℕ) → length kept.table.table ≡ net.nodes
      → (IsTrue kept.are_kept → IsMeasureOf net kept.table × (kept.table.dest ≡ d))
      → KeepsDistances (state_with net d counts) kept
  keeps_measure counts one_each measured = record {
    one_each = one_each;
    distances = λ is. let m = measured is in record {
      dest = m.1;
      table = subst (λ (e : ℕ). AreDistances net.nodes net.links e kept.table.table) m.1 m.0;
    };
  }

module _ (told roomy : ChangedNodes) (places : KeepsPlaces told roomy) (same : nodes_told roomy ≡ nodes_told told) where
  -- the list with more room is the same
  list_with_room : HasSameList told roomy
  list_with_room = record {
    nodes = same;
    places = places.places;
    listing = places.listing;
    ways = (same_asking told roomy places.notes, same_asking roomy told (sym places.notes));
  }

  module _ (net : Network) (d : ℕ) (edits : List Edit) (kept : KeptDistances) where
    -- there is no memory for more room
    pub no_room : (counts : List ℕ) (e : AllocError) → KeepsDistances (state_with net d counts) kept
        → IsReady net d edits told (Err e) roomy kept
    no_room counts e keeps = record {
      room = tt;
      begun = tt;
      measured = tt;
      keeps = λ b. keeps_with net d kept counts b keeps;
      list = list_with_room;
      same = same_pushes told roomy places.notes;
    }

    module _ (more : ChangedNodes) (list : HasSameList roomy more)
        (pushes : KeepsPushes (ways_told roomy) (ways_told more))
        (measured : IsTrue kept.are_kept → IsMeasureOf net kept.table × (kept.table.dest ≡ d))
        (one_each : length kept.table.table ≡ net.nodes) (asked : AsksWays roomy → IsTrue kept.are_kept)
        (room : IsListing told → HasPlaces net.nodes roomy) where
      whole_list : HasSameList told more
      whole_list = record {
        nodes = list.nodes ∙ same;
        places = λ n has. list.places n (places.places n has);
        listing = λ is. places.listing (list.listing is);
        ways = (λ asks. list.ways.0 (list_with_room.ways.0 asks), λ asks. list_with_room.ways.1 (list.ways.1 asks));
      }

      whole_pushes : KeepsPushes (ways_told told) (ways_told more)
      whole_pushes =
          subst (λ (notes : Option WayNotes). KeepsPushes (noted_in notes) (ways_told more)) places.notes pushes

      -- the notes are begun, or there is no memory for them
      pub ready : (r : Result (Unit {0}) AllocError)
          → OnOk r (HaveBegun net.nodes net.links kept.table.dest edits more) → IsReady net d edits told r more kept
      ready (Ok done) begun = record {
        room = λ listing. list.places net.nodes (room listing);
        begun = λ notes is.
            let asks : AsksWays roomy = list.ways.1 (notes, is) in
            subst (λ (e : ℕ). IsBegun net.nodes net.links e edits notes) (measured (asked asks)).1 (begun notes is);
        measured = λ asks. asked (list.ways.1 asks);
        keeps = λ counts. keeps_measure net d kept counts one_each measured;
        list = whole_list;
        same = whole_pushes;
      }
      ready (Err e) begun = record {
        room = tt;
        begun = tt;
        measured = tt;
        keeps = λ counts. keeps_measure net d kept counts one_each measured;
        list = whole_list;
        same = whole_pushes;
      }

module _ (s : State) (net turned : Network) (outcome : Outcome) (edits : List Edit) (old : ForwardingState)
    (new : Measured) (told : ChangedNodes) (can : CanTell s net outcome edits old told)
    (turned_is : turned ≡ net_of net.nodes (links_at net.links outcome.turns))
    (renewed : IsTrue old.distances.are_kept → IsRenewed turned outcome.dest old.distances.table new) where
  -- once the round is in place, the notes lead to the state after it
  pub led_on : (more : ChangedNodes) → notes_told more ≡ notes_told told
      → HasLedOn s (state_with turned new.dest outcome.turns) edits new more
  led_on more same = λ notes is.
      let begun : notes_told told ≡ Some notes = sym same ∙ is in
      let put : Network = net_of net.nodes (links_at net.links outcome.turns) in
      let is_renewed : IsRenewed put outcome.dest old.distances.table new =
      subst (λ (m : Network). IsRenewed m outcome.dest old.distances.table new) turned_is
      (renewed (can.measured (notes, begun))) in
      subst (λ (m : Network). LeadsOn s (state_with m new.dest outcome.turns) edits new notes) (sym turned_is)
      (subst (λ (e : ℕ). LeadsOn s (state_with put e outcome.turns) edits new notes) (sym is_renewed.dest)
      (can.leads new is_renewed notes begun))

  -- and the changes of ways are those from one state to the other
  pub ways_after : AsksWays told → (shrink grow : List (ℕ × List ℕ))
      → AreWayChanges s (state_with turned new.dest outcome.turns) shrink grow
      → AreWayChanges s (settled_state net outcome.dest outcome.turns) shrink grow
  ways_after asks shrink grow changes =
      subst (λ (m : Network). AreWayChanges s (state_with m outcome.dest outcome.turns) shrink grow) turned_is
      (subst (λ (e : ℕ). AreWayChanges s (state_with turned e outcome.turns) shrink grow)
      (renewed (can.measured asks)).dest changes)

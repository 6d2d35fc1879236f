-- What a router keeps to forward packets, and how it follows a round on an edited network. For proofs only.
use Rattle.std.specs.Prelude.{◌≡◌, ℕ, List, IsTrue, OnOk, Result, length}
use Rattle.std.specs.declared.alloc.AllocError.{AllocError}
use Rattle.fr_crew.specs.Settlements.{IsCounted}
use Rattle.fr_graph.specs.Counts.{links_at}
use Rattle.fr_graph.specs.Network.{Network, net_of}
use Rattle.fr_graph.specs.declared.edit.Edit.{Edit}
use Rattle.fr_nearest.specs.Distances.{IsRenewed, Measured}
use Rattle.fr_tables.specs.Pushes.{IsPushOrder}
use Rattle.fr_ways.specs.Changes.{KeepsPushes}
use Rattle.fr_route.specs.KeptDistances.{KeepsDistances}
use Rattle.fr_route.specs.Listing.{AsksWays, HasLedOn, HasPlaces, HasSameList, HaveBegun, IsListing}
use Rattle.fr_route.specs.Listing.{nodes_told, ways_told}
use Rattle.fr_route.specs.NodeWays.{AreOldDistances}
use Rattle.fr_route.specs.Outcomes.{HoldsMoved, settled_state}
use Rattle.fr_route.specs.Routes.{AreHops}
use Rattle.fr_route.specs.States.{State, state_with}
use Rattle.fr_route.specs.WayPushes.{AreWayChanges}
use Rattle.fr_route.specs.declared.changed_nodes.ChangedNodes.{ChangedNodes}
use Rattle.fr_route.specs.declared.forwarding.ForwardingState.{ForwardingState}
use Rattle.fr_route.specs.declared.forwarding.Moved.{Moved}
use Rattle.fr_route.specs.declared.kept_distances.KeptDistances.{KeptDistances}
use Rattle.fr_route.specs.declared.outcome.Outcome.{Outcome}

-- a list and notes are ready for a change of this network, with destination d, by these edits
pub record IsReady (net : Network) (d : ℕ) (edits : List Edit) (told : ChangedNodes)
    (answer : Result (Unit {0}) AllocError) (more : ChangedNodes) (kept : KeptDistances) : Type 0 where
  pub room : OnOk answer (IsListing told → HasPlaces net.nodes more)
  pub begun : OnOk answer (HaveBegun net.nodes net.links d edits more)
  pub measured : OnOk answer (AsksWays more → IsTrue kept.are_kept)
  pub keeps : (counts : List ℕ) → KeepsDistances (state_with net d counts) kept
  pub list : HasSameList told more
  pub same : KeepsPushes (ways_told told) (ways_told more)

-- a round with this outcome can be put in place on this network, whose edits are made
pub record CanFollow (net : Network) (outcome : Outcome) (moved : Moved) (kept : ForwardingState) : Type 0 where
  pub counted : IsCounted net.nodes outcome.dest net.links outcome.turns
  pub one_each : length kept.hops.items ≡ net.nodes
  pub moved_hops : HoldsMoved (settled_state net outcome.dest outcome.turns) kept.hops.items moved.nodes.now
  pub measured : length kept.distances.table.table ≡ net.nodes
  pub old : IsTrue kept.distances.are_kept → AreOldDistances (net_of net.nodes (links_at net.links outcome.turns))
      outcome.turns moved.edits.now kept.distances.table
  pub room : kept.room ≡ net.nodes

-- If there is a list, it has room for each node. If the caller asks for ways, the distances are kept, and the notes
-- lead from a state to the one after the round.
pub record CanTell (s : State) (net : Network) (outcome : Outcome) (edits : List Edit) (kept : ForwardingState)
    (told : ChangedNodes) : Type 0 where
  pub places : IsListing told → HasPlaces net.nodes told
  pub measured : AsksWays told → IsTrue kept.distances.are_kept
  pub leads : (new : Measured)
      → IsRenewed (net_of net.nodes (links_at net.links outcome.turns)) outcome.dest kept.distances.table new
      → HasLedOn s (settled_state net outcome.dest outcome.turns) edits new told

-- the round is followed, and told of
pub record HasFollowed (net : Network) (outcome : Outcome) (edits : List Edit) (old : ForwardingState)
    (told : ChangedNodes) (new : ForwardingState) (more : ChangedNodes) : Type 0 where
  pub hops : AreHops (settled_state net outcome.dest outcome.turns) net.nodes new.hops.items
  pub distances : KeepsDistances (settled_state net outcome.dest outcome.turns) new.distances
  pub room : new.room ≡ old.room
  pub rerouted : IsListing told → IsPushOrder old.hops.items new.hops.items (nodes_told more)
  pub asks : AsksWays told → AsksWays more
  pub ways : (s : State) → CanTell s net outcome edits old told → AsksWays told
      → AreWayChanges s (settled_state net outcome.dest outcome.turns) (ways_told more).shrink (ways_told more).grow

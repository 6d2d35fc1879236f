-- What a `Graph` keeps, which networks its rows have room for, and how edits are undone. For proofs only.
use Rattle.std.specs.Prelude.{◌≡◌, ◌≢◌, ℕ, ◌<◌, ◌≤◌, ◌++◌, List, [], ◌∷◌, length}
use Rattle.fr_graph.specs.Batches.{IsMade, IsRefusedAt}
use Rattle.fr_graph.specs.Edits.{without}
use Rattle.fr_graph.specs.Evidence.{NamesInBatch}
use Rattle.fr_graph.specs.Faults.{IsFaultless, IsNetworkOf}
use Rattle.fr_graph.specs.Halves.{AreUnjoined}
use Rattle.fr_graph.specs.Heights.{Fit}
use Rattle.fr_graph.specs.KeptRows.{AreRows, links_in}
use Rattle.fr_graph.specs.Limits.{most_links}
use Rattle.fr_graph.specs.Links.{IsAcyclic, Points}
use Rattle.fr_graph.specs.Network.{Network}
use Rattle.fr_graph.specs.Order.{AreInOrder}
use Rattle.fr_graph.specs.Rows.{row}
use Rattle.fr_graph.specs.Tables.{KeepsRooms, room_of}
use Rattle.fr_graph.specs.declared.graph.Effect.{Effect}
use Rattle.fr_graph.specs.declared.graph.Effect.TheVariants.{Removed, Added}
use Rattle.fr_graph.specs.declared.graph.Graph.{Graph}
use Rattle.fr_graph.specs.declared.edit.Edit.{Edit}
use Rattle.fr_graph.specs.declared.fault.EditFault.{EditFault}
use Rattle.fr_graph.specs.declared.fault.NetFault.TheVariants.{Memory}

-- the network of a graph: its links are those of its rows
abbrev pub shown : Graph → Network
shown g = record { nodes = g.nodes; links = links_in g.nodes g.rows }

-- the links have no fault, are in order and counted, the rows are those of the nodes, and the links fall if the heights
-- are known
pub record IsGraph (g : Graph) : Type 0 where
  pub faultless : IsFaultless g.nodes (shown g).links
  pub sorted : AreInOrder (shown g).links
  pub counted : g.link_count ≡ length (shown g).links
  pub rows : AreRows g.nodes (shown g).links g.rows
  pub height_each : length g.heights.heights ≡ g.nodes
  pub fit : Fit (shown g).links g.heights

-- the graph has room for each row of the network
abbrev pub HasRoomFor : Graph → Network → Type 0
HasRoomFor g net = (x : ℕ) → x < net.nodes → length (row net.nodes net.links x) ≤ room_of g.rows x

-- a link from u to v can be added to the network
pub record CanPut (net : Network) (u v : ℕ) : Type 0 where
  pub few : length net.links < most_links
  pub unjoined : AreUnjoined net.nodes net.links u v
  pub acyclic : IsAcyclic (net.links ++ (u, v) ∷ [])

-- what one edit did: a link was removed or added
abbrev pub IsStep : Network → Effect → Network → Type 0
IsStep net (Removed tail head) after = Points net.links tail head
    × IsNetworkOf net.nodes (without tail head net.links) after
IsStep net (Added tail head) after = AreUnjoined net.nodes net.links tail head
    × IsNetworkOf net.nodes (net.links ++ (tail, head) ∷ []) after

-- the same, in a network whose links have no fault and are in order
pub record IsDone (net : Network) (done : Effect) (after : Network) : Type 0 where
  pub faultless : IsFaultless net.nodes net.links
  pub sorted : AreInOrder net.links
  pub step : IsStep net done after

-- the same for several edits, one after the other, and the graph has room for the network before each of them
abbrev pub AreDone : Graph → Network → List Effect → Network → Type 0
AreDone g net [] after = after ≡ net
AreDone g net (done ∷ rest) after = HasRoomFor g net
    × ((next : Network) × (IsDone net done next × AreDone g next rest after))

-- these edits led from the first network to that of the graph, and all of them can be undone
abbrev pub CanUndo : Network → List Effect → Graph → Type 0
CanUndo first done g = AreDone g first done (shown g)

-- the same network, and no row has less room
pub record IsSame (before after : Graph) : Type 0 where
  pub graph : IsGraph after
  pub same : shown after ≡ shown before
  pub rooms : KeepsRooms before.rows after.rows

-- an edit of the batch is refused, and these are what its fault names
pub record IsRefusal (net : Network) (edits : List Edit) (refused : EditFault) : Type 0 where
  pub first : refused.fault ≢ Memory → IsRefusedAt net edits refused.at refused.fault
  pub names : NamesInBatch net edits refused

-- the edit made `after` of `before`, and `done` says how to undo it
pub record IsEdited (before : Graph) (edit : Edit) (after : Graph) (done : Effect) : Type 0 where
  pub graph : IsGraph after
  pub made : IsMade (shown before) edit (shown after)
  pub by : IsDone (shown before) done (shown after)
  pub rooms : KeepsRooms before.rows after.rows
  pub back : HasRoomFor after (shown before)

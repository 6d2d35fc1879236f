use Rattle.std.proofs.Common.{inl, inr, subst, sym}
use Rattle.fr_graph.proofs.Joining.{no_path_free, one_way_free, path_closes, unjoined_turned}
use Rattle.fr_graph.proofs.Remaking.{same_through}
use Rattle.fr_graph.proofs.Undoing.{IsPut, put_with_room}
use Rattle.fr_graph.specs.Graph.{CanPut, IsSame, shown}
use Rattle.fr_graph.specs.Halves.{AreUnjoined}
use Rattle.fr_graph.specs.Links.{IsAcyclic}
use Rattle.fr_graph.specs.Network.{Network}
use Rattle.fr_graph.proofs.graph.Graph.join.Goals as goal
use Rattle.fr_graph.proofs.graph.Graph.join.Goals.{After-make_room, else-branch, then-branch}

-- the graph has the network that was tested
same : (c : After-make_room) → IsSame c.args.self.now c.make_room.new.self
same c =
    same_through c.args.self.now c.has_path_back.new.self c.make_room.new.self c.in_ok-has_path_back.ensures.same
    c.make_room.ensures.same

-- the ends of the link, whichever way it points
ends : (c : After-make_room)
    → AreUnjoined c.args.self.now.nodes (shown c.args.self.now).links c.if-branch.tail.0 c.if-branch.tail.1
ends c =
    let nodes = c.in_ok-test_join.ensures.nodes in
    elim c.if-branch.branch [
      | then-branch w ↦ rw w.tail-is (unjoined_turned _ (shown c.args.self.now).links c.args.u c.args.v nodes)
      | else-branch w ↦ rw w.tail-is nodes
    ]

pub has_path_back-requires-clause-graph : goal.has_path_back-requires-clause-graph
has_path_back-requires-clause-graph c = c.requires

pub has_path_back-requires-clause-nodes : goal.has_path_back-requires-clause-nodes
has_path_back-requires-clause-nodes c = c.in_ok-test_join.ensures.nodes

pub make_room-requires-clause-graph : goal.make_room-requires-clause-graph
make_room-requires-clause-graph c = c.in_ok-has_path_back.ensures.same.graph

pub insert_link-requires-clause-graph : goal.insert_link-requires-clause-graph
insert_link-requires-clause-graph c = c.in_ok-make_room.ensures.same.graph

pub insert_link-requires-clause-link : goal.insert_link-requires-clause-link
insert_link-requires-clause-link c =
    let at = (goal.at.insert_link-requires-clause-link c).After-make_room in
    let links = (shown c.args.self.now).links in
    let u = c.args.u in
    let v = c.args.v in
    let tested = c.in_ok-test_join.ensures in
    let leads = c.in_ok-has_path_back.ensures.leads in
    let acyclic : IsAcyclic links = c.requires.faultless.is_net.acyclic in
    subst (λ (m : Network). CanPut m c.if-branch.tail.0 c.if-branch.tail.1) (sym (same at).same) record {
      few = tested.few;
      unjoined = ends at;
      acyclic = elim c.if-branch.branch [
        | then-branch w ↦ rw w.tail-is
            (one_way_free links u v acyclic tested.nodes.apart (path_closes links u v (leads.0 w.if-branch.true)))
        | else-branch w ↦ rw w.tail-is (no_path_free links u v acyclic (λ path. cc (leads.1 path, w.if-branch.false)))
      ];
    }

pub insert_link-requires-clause-room : goal.insert_link-requires-clause-room
insert_link-requires-clause-room c =
    let made = c.in_ok-make_room.ensures.room in
    elim c.if-branch.branch [
      | then-branch w ↦ rw w.tail-is record { tail = made.head; head = made.tail }
      | else-branch w ↦ rw w.tail-is made
    ]

pub returns-clause-ok : goal.returns-clause-ok
returns-clause-ok c =
    let links = (shown c.args.self.now).links in
    let put : IsPut c.args.self.now c.insert_link.new.self c.if-branch.tail.0 c.if-branch.tail.1 =
    put_with_room c.args.self.now c.make_room.new.self c.insert_link.new.self c.if-branch.tail.0 c.if-branch.tail.1
    c.requires
    (same (goal.at.returns-clause-ok c).After-make_room) c.room_law.ensures
    (ends (goal.at.returns-clause-ok c).After-make_room) c.insert_link.ensures.rooms c.insert_link.ensures.put in
    record {
      graph = c.insert_link.ensures.graph;
      made = elim c.if-branch.branch [
        | then-branch w ↦ inr (
          path_closes links c.args.u c.args.v (c.in_ok-has_path_back.ensures.leads.0 w.if-branch.true),
          rw w.tail-is at put.made,
        )
        | else-branch w ↦ inl (rw w.tail-is at put.made)
      ];
      by = put.by;
      rooms = put.rooms;
      back = put.back;
    }

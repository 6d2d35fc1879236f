use Rattle.std.proofs.Common.{ap, arith, subst, sym, ◌∙◌}
use Rattle.fr_graph.proofs.Joining.{cycle_fault, no_path_free}
use Rattle.fr_graph.proofs.LowestPaths.{closes_by}
use Rattle.fr_graph.proofs.Remaking.{falling_rows, net_shown, same_through}
use Rattle.fr_graph.proofs.Undoing.{IsPut, put_with_room}
use Rattle.fr_graph.specs.Evidence.{IsLowestCycleBy}
use Rattle.fr_graph.specs.Graph.{CanPut, IsSame, shown}
use Rattle.fr_graph.specs.Links.{HasPath}
use Rattle.fr_graph.specs.Network.{Network}
use Rattle.fr_graph.proofs.graph.Graph.add.Goals as goal
use Rattle.fr_graph.proofs.graph.Graph.add.Goals.{After-make_room, In_ok-walk}

-- the graph has the network that was tested
same : (c : After-make_room) → IsSame c.args.self.now c.make_room.new.self
same c =
    same_through c.args.self.now c.has_path_back.new.self c.make_room.new.self c.in_ok-has_path_back.ensures.same
    c.make_room.ensures.same

pub has_path_back-requires-clause-graph : goal.has_path_back-requires-clause-graph
has_path_back-requires-clause-graph c = c.requires

pub has_path_back-requires-clause-nodes : goal.has_path_back-requires-clause-nodes
has_path_back-requires-clause-nodes c = c.in_ok-test_join.ensures.nodes

pub returns-then-branch-clause-unchanged : goal.returns-then-branch-clause-unchanged
returns-then-branch-clause-unchanged c = c.in_ok-has_path_back.ensures.same

pub make_room-requires-clause-graph : goal.make_room-requires-clause-graph
make_room-requires-clause-graph c = c.in_ok-has_path_back.ensures.same.graph

pub make_room-requires-clause-u : goal.make_room-requires-clause-u
make_room-requires-clause-u c =
    omega (
      arith,
      c.in_ok-test_join.ensures.nodes.tail,
      ap (λ (m : Network). m.nodes) c.in_ok-has_path_back.ensures.same.same,
    )

pub make_room-requires-clause-v : goal.make_room-requires-clause-v
make_room-requires-clause-v c =
    omega (
      arith,
      c.in_ok-test_join.ensures.nodes.head,
      ap (λ (m : Network). m.nodes) c.in_ok-has_path_back.ensures.same.same,
    )

pub insert_link-requires-clause-graph : goal.insert_link-requires-clause-graph
insert_link-requires-clause-graph c = c.in_ok-make_room.ensures.same.graph

-- the rows in which the cycle is looked for have the network that was tested, and its links fall
pub lowest_cycle-requires-clause-rows : goal.lowest_cycle-requires-clause-rows
lowest_cycle-requires-clause-rows c =
    let found = c.in_ok-has_path_back.ensures in
    falling_rows c.has_path_back.new.self found.same.graph (found.known c.if-branch.true)

pub lowest_cycle-requires-clause-u : goal.lowest_cycle-requires-clause-u
lowest_cycle-requires-clause-u c =
    let same = c.in_ok-has_path_back.ensures.same in
    omega (
      arith,
      c.in_ok-test_join.ensures.nodes.tail,
      same.graph.rows.one_each,
      ap (λ (m : Network). m.nodes) same.same,
    )

pub lowest_cycle-requires-clause-v : goal.lowest_cycle-requires-clause-v
lowest_cycle-requires-clause-v c =
    let same = c.in_ok-has_path_back.ensures.same in
    omega (
      arith,
      c.in_ok-test_join.ensures.nodes.head,
      same.graph.rows.one_each,
      ap (λ (m : Network). m.nodes) same.same,
    )

pub lowest_cycle-requires-clause-leads : goal.lowest_cycle-requires-clause-leads
lowest_cycle-requires-clause-leads c =
    let found = c.in_ok-has_path_back.ensures in
    subst (λ (m : Network). HasPath m.links c.args.v c.args.u)
    (sym (net_shown c.has_path_back.new.self found.same.graph ∙ found.same.same))
    (found.leads.0 c.if-branch.true)

lowest : (c : In_ok-walk) → IsLowestCycleBy (shown c.args.self.now).links c.args.u c.args.v c.in_ok-walk.walk.items
lowest c =
    let same = c.in_ok-has_path_back.ensures.same in
    subst (λ (m : Network). IsLowestCycleBy m.links c.args.u c.args.v c.in_ok-walk.walk.items)
    (net_shown c.has_path_back.new.self same.graph ∙ same.same) c.in_ok-walk.ensures

pub returns-then-branch-clause-names : goal.returns-then-branch-clause-names
returns-then-branch-clause-names c = lowest (goal.at.returns-then-branch-clause-names c).In_ok-walk

pub returns-then-branch-clause-refused : goal.returns-then-branch-clause-refused
returns-then-branch-clause-refused c _ =
    let g = shown c.args.self.now in
    let tested = c.in_ok-test_join.ensures in
    cycle_fault g.nodes g.links c.args.u c.args.v c.in_ok-walk.walk c.requires.faultless tested.few tested.nodes
    (closes_by g.links c.args.u c.args.v c.in_ok-walk.walk.items
    (lowest (goal.at.returns-then-branch-clause-refused c).In_ok-walk))

pub insert_link-requires-clause-link : goal.insert_link-requires-clause-link
insert_link-requires-clause-link c =
    let tested = c.in_ok-test_join.ensures in
    subst (λ (m : Network). CanPut m c.args.u c.args.v)
    (sym (same (goal.at.insert_link-requires-clause-link c).After-make_room).same) record {
      few = tested.few;
      unjoined = tested.nodes;
      acyclic = no_path_free (shown c.args.self.now).links c.args.u c.args.v c.requires.faultless.is_net.acyclic
          (λ path. cc (c.in_ok-has_path_back.ensures.leads.1 path, c.if-branch.false));
    }

pub returns-clause-ok : goal.returns-clause-ok
returns-clause-ok c =
    let put : IsPut c.args.self.now c.insert_link.new.self c.args.u c.args.v =
    put_with_room c.args.self.now c.make_room.new.self c.insert_link.new.self c.args.u c.args.v c.requires
    (same (goal.at.returns-clause-ok c).After-make_room) c.room_law.ensures c.in_ok-test_join.ensures.nodes
    c.insert_link.ensures.rooms c.insert_link.ensures.put in
    record { graph = c.insert_link.ensures.graph; made = put.made; by = put.by; rooms = put.rooms; back = put.back }

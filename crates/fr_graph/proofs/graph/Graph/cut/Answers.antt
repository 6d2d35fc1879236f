use Rattle.std.proofs.Common.{List, subst, ℕ}
use Rattle.fr_graph.proofs.Places.{joins_ends, without_ends}
use Rattle.fr_graph.proofs.Undoing.{own_room, rooms_kept, still_room}
use Rattle.fr_graph.specs.Faults.{IsNetworkOf}
use Rattle.fr_graph.specs.Graph.{shown}
use Rattle.fr_graph.proofs.graph.Graph.cut.Goals as goal

pub returns-clause-ok : goal.returns-clause-ok
returns-clause-ok c =
    let g = c.args.self.now in
    let links = (shown g).links in
    let link : ℕ × ℕ = (c.in-Some.tail, c.in-Some.head) in
    let ends = rw c.in-Some.is at c.link_between.ensures.ends in
    let stands = rw c.in-Some.is at c.link_between.ensures.stands in
    let after = shown c.remove_link.new.self in
    let kept = rooms_kept g c.remove_link.new.self c.remove_link.ensures.rooms in
    record {
      graph = c.remove_link.ensures.graph;
      made = (
        joins_ends c.args.u c.args.v link links ends stands,
        subst (λ (ls : List (ℕ
            × ℕ)). IsNetworkOf g.nodes ls after) (without_ends c.args.u c.args.v link links ends)
            c.remove_link.ensures.taken,
      );
      by =
          record {
            faultless = c.requires.graph.faultless;
            sorted = c.requires.graph.sorted;
            step = (stands, c.remove_link.ensures.taken);
          };
      rooms = kept;
      back = still_room g c.remove_link.new.self (shown g) kept (own_room g c.requires.graph c.room_law.ensures);
    }

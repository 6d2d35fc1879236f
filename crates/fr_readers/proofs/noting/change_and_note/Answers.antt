use Rattle.std.proofs.Common.{List, arith, length, ℕ, ◌≤◌}
use Rattle.fr_readers.proofs.Leading.{rerouted_short}
use Rattle.fr_readers.proofs.noting.change_and_note.Goals as goal

pub push_nodes-requires : goal.push_nodes-requires
push_nodes-requires c =
    let r = c.args.router.now in
    let changed = c.change_with_ways_alone in
    let nodes : List ℕ = changed.new.reroutes.nodes in
    let short : length nodes ≤ r.nodes =
    rerouted_short r c.args.change changed.new.self nodes c.in_ok-report.ensures.changed
    c.in_ok-report.ensures.told.rerouted.rerouted in
    rw (c.clear.ensures.items, c.nodes-2.ensures)
    (omega (
      arith,
      short,
      c.in_ok-make_room.ensures.room,
      c.nodes.ensures.value,
      c.net.ensures.nodes,
      c.clear.ensures.capacity,
    ))

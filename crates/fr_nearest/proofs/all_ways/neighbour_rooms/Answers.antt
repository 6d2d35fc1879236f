use Rattle.std.proofs.Common.{rules}
use Rattle.fr_nearest.proofs.Filling.{rooms_more}
use Rattle.fr_nearest.proofs.all_ways.neighbour_rooms.Goals as goal

pub loop-x-preserved : goal.loop-x-preserved
loop-x-preserved c =
    let inv = c.loop-x.invariant in
    record {
      rooms = rw (c.in_ok-push.ensures.items, c.degree.ensures)
          (rooms_more c.loop-x.x c.loop-x.starts.items c.loop-x.room inv.rooms);
      few = search rules;
    }

use Rattle.std.proofs.Common.{inr}
use Rattle.fr_tables.proofs.Marks.{group_from_met}
use Rattle.fr_tables.proofs.waves.mark_group.Goals as goal

pub give_groups-requires-clause-sound : goal.give_groups-requires-clause-sound
give_groups-requires-clause-sound c = record {
  table = c.requires.sound.table;
  one_each = c.requires.sound.one_each;
  walking = c.follow_to_known_group-group.ensures.walking;
  known = c.requires.sound.known;
}

pub returns : goal.returns
returns c =
    let marks = c.give_groups.new.marks in
    let walk = c.give_groups.new.walk.items in
    let after = c.give_groups.ensures in
    record {
      sound = after.sound;
      empty = after.empty;
      kept = λ y was. group_from_met marks walk y after.empty (after.met y (inr was));
      met =
          group_from_met marks walk c.args.x after.empty (after.met c.args.x c.follow_to_known_group-group.ensures.met);
    }

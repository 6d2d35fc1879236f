use Rattle.fr_shared.specs.WayTables.{way_codec}
use Rattle.fr_shared.proofs.StepsKeepTheRule.{explains, first_keeps, learned_is_read, only_first, steps_keep, table_now}
use Rattle.fr_shared.proofs.WayMoving.{twice_at_most}
use Rattle.fr_shared.proofs.WayWords.{ways_are_sound}
use Rattle.fr_shared.proofs.ways.laws.shared_law.Goals as goal

pub returns : goal.returns
returns c = record {
  moment = table_now way_codec ways_are_sound;
  history = λ n s r. (r.history, explains way_codec ways_are_sound n s r);
  first = first_keeps way_codec ways_are_sound;
  only = only_first way_codec ways_are_sound;
  kept = steps_keep way_codec ways_are_sound;
  learned = learned_is_read way_codec;
  twice = λ n before new known after x nodes z one goes. twice_at_most one x nodes z goes;
}

use Rattle.fr_shared.specs.HopTables.{hop_codec}
use Rattle.fr_shared.proofs.HopMoving.{twice_at_most}
use Rattle.fr_shared.proofs.HopTables.{hops_are_sound}
use Rattle.fr_shared.proofs.StepsKeepTheRule.{explains, first_keeps, learned_is_read, only_first, steps_keep, table_now}
use Rattle.fr_shared.proofs.hops.laws.shared_law.Goals as goal

pub returns : goal.returns
returns c = record {
  moment = table_now hop_codec hops_are_sound;
  history = λ n s r. (r.history, explains hop_codec hops_are_sound n s r);
  first = first_keeps hop_codec hops_are_sound;
  only = only_first hop_codec hops_are_sound;
  kept = steps_keep hop_codec hops_are_sound;
  learned = learned_is_read hop_codec;
  twice = λ n before new order known after x nodes z one goes. twice_at_most one x nodes z goes;
}

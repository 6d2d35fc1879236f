use Rattle.std.proofs.Common.{arith, get_or, length, ◌<◌}
use Rattle.std.proofs.lemmas.List.{get_or_default}
use Rattle.std.proofs.lemmas.List.Edits.{map_over_more}
use Rattle.fr_nearest.specs.Ranks.{number_of}
use Rattle.fr_nearest.proofs.ways.ranks_to_numbers.Goals as goal

pub loop-rank-preserved : goal.loop-rank-preserved
loop-rank-preserved c =
    let now = c.loop-rank.ranks in
    let i = c.loop-rank.rank-index in
    let inside : i < length c.args.ranks.now = c.loop-rank-test.true in
    let here : i < length now = omega (arith, inside, c.loop-rank.auto.ranks) in
    map_over_more number_of c.args.ranks.now now i (get_or now i 0) inside c.loop-rank.invariant
    (get_or_default now i 0 (get_or now i 0) here)

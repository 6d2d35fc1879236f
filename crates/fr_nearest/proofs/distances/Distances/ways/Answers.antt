use Rattle.std.proofs.Common.{List, ap, arith, length, map, subst, sym, ℕ, ◌∙◌, ◌≡◌}
use Rattle.std.specs.Vec.{with_items}
use Rattle.std.proofs.lemmas.List.{length-map, with_items_is}
use Rattle.std.proofs.lemmas.List.Sorted.{IsNonDecreasingBy-from_sort}
use Rattle.fr_nearest.specs.Ranks.{AreRanked, number_of}
use Rattle.fr_nearest.specs.Ways.{AreWays}
use Rattle.fr_nearest.proofs.Ranking.{inside_net, ways_of_ranks}
use Rattle.fr_nearest.proofs.distances.Distances.ways.Goals as goal

pub returns-clause-ways : goal.returns-clause-ways
returns-clause-ways c =
    let net = c.args.net.now in
    let m = c.args.self.now in
    let room = c.resize.new.self in
    let written = c.rank_ways-count.new.ranks in
    let ranks = c.truncate.new.self in
    let sorted = c.sort_unstable.new.self in
    let numbers = c.ranks_to_numbers.new.ranks in
    let long = c.rank_ways-count.ensures.same in
    let whole : (with_items room written).items ≡ written =
    with_items_is room written (omega (arith, long, ap length c.deref_mut.ensures.value, room.ok.0)) in
    let ranked : AreRanked net.links m.table c.args.x ranks.items =
    rw (c.truncate.ensures.items, whole, sym c.numbers.ensures) c.rank_ways-count.ensures.ranked in
    let is : numbers ≡ map number_of sorted.items =
    c.ranks_to_numbers.ensures ∙ ap (map number_of) c.deref_mut-2.ensures.value in
    let items : (with_items sorted numbers).items ≡ map number_of sorted.items =
    with_items_is sorted numbers (omega (arith, ap length is, length-map sorted.items number_of, sorted.ok.0)) ∙ is in
    subst (λ (xs : List ℕ). AreWays net.links m.dest c.args.x xs) (sym items)
    (ways_of_ranks (inside_net net.nodes net.links c.args.x c.network_law.ensures.is_net) c.requires.measured
    c.network_law.ensures.limits.nodes_few ranked
    c.sort_unstable.ensures.permutation
    (IsNonDecreasingBy-from_sort (λ (r : ℕ). r) sorted.items c.sort_unstable.ensures.sorted))

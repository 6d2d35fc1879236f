use Rattle.std.proofs.Common.{ap, arith, drop, length, length-append, length-drop, ℕ, ◌∙◌, ◌≡◌}
use Rattle.std.proofs.lemmas.List.{length-map, length-take-le, take_at}
use Rattle.std.proofs.lemmas.List.Sorted.{IsNonDecreasingBy-from_sort}
use Rattle.fr_nearest.specs.Ranks.{number_of}
use Rattle.fr_nearest.proofs.ways.sort_ways.Goals as goal

pub returns : goal.returns
returns c =
    let ranks = c.args.ranks.now in
    let sorted = c.sort_unstable.new.self in
    let numbers = c.ranks_to_numbers.new.ranks in
    let rest = drop c.args.count ranks in
    let long : length numbers ≡ c.args.count =
    omega (
      arith,
      ap length c.ranks_to_numbers.ensures,
      length-map sorted number_of,
      c.sort_unstable.ensures.len,
      length-take-le c.args.count ranks c.requires,
    ) in
    record {
      sorted = sorted;
      same = c.sort_unstable.ensures.permutation;
      rises = IsNonDecreasingBy-from_sort (λ (r : ℕ). r) sorted c.sort_unstable.ensures.sorted;
      numbers = take_at numbers rest c.args.count long ∙ c.ranks_to_numbers.ensures;
      long = omega (arith, long, length-append numbers rest, length-drop c.args.count ranks, c.requires);
    }

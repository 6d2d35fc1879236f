use Rattle.std.proofs.Common.{◌≡◌, ◌++◌, decimal, drop, string_bytes}
use Rattle.fr_route.specs.Separated.{listed, separated}
use Rattle.fr_route.proofs.json.push_counts.Given as goal

abbrev pub invariant-loop-count : goal.invariant-loop-count
invariant-loop-count l =
    string_bytes l.line ++ separated decimal l.first (drop l.count-index l.counts) ≡ string_bytes l.fn.line
    ++ listed decimal l.counts

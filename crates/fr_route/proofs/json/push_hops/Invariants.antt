use Rattle.std.proofs.Common.{◌≡◌, ◌++◌, drop, string_bytes}
use Rattle.fr_route.specs.Json.{hop_json}
use Rattle.fr_route.specs.Separated.{listed, separated}
use Rattle.fr_route.proofs.json.push_hops.Given as goal

abbrev pub invariant-loop-hop : goal.invariant-loop-hop
invariant-loop-hop l =
    string_bytes l.line ++ separated hop_json l.first (drop l.hop-index l.hops) ≡ string_bytes l.fn.line
    ++ listed hop_json l.hops

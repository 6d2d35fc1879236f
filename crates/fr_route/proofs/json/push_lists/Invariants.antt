use Rattle.std.proofs.Common.{List, map, take, ℕ, ◌≡◌, ◌≤◌, ◌+◌, ◌*◌, ◌++◌, drop, length, string_bytes}
use Rattle.std.specs.List.{concat}
use Rattle.std.specs.Prelude.{string_capacity, string_len}
use Rattle.fr_ways.specs.PushLists.{AreListed}
use Rattle.fr_route.specs.Json.{list_json}
use Rattle.fr_route.specs.Separated.{listed, separated}
use Rattle.fr_route.proofs.json.push_lists.Given as goal

abbrev pub invariant-loop-at : goal.invariant-loop-at
invariant-loop-at l = record {
  text : (these : List (ℕ × List ℕ)) → AreListed these l.pushes
      → string_bytes l.line ++ separated list_json l.first (drop l.at these) ≡ string_bytes l.fn.line
      ++ listed list_json these;
  written : (these : List (ℕ × List ℕ)) → AreListed these l.pushes
      → string_len l.line ≤ string_len l.fn.line
      + (16 * l.at + 11 * length (concat (take l.at (map (λ p. p.1) these))));
  capacity : string_capacity l.fn.line ≤ string_capacity l.line;
}

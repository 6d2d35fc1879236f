use Rattle.std.proofs.Common.{◌≡◌, ◌≤◌, ◌+◌, ◌*◌, ◌++◌, drop, string_bytes}
use Rattle.std.specs.Prelude.{string_capacity, string_len}
use Rattle.fr_route.specs.Json.{change_json}
use Rattle.fr_route.specs.Separated.{listed, separated}
use Rattle.fr_route.specs.Pushing.{changes_of}
use Rattle.fr_route.proofs.json.push_changes.Given as goal

abbrev pub invariant-loop-x : goal.invariant-loop-x
invariant-loop-x l = record {
  text : string_bytes l.line ++ separated change_json l.first (changes_of l.hops (drop l.x-index l.changed))
      ≡ string_bytes l.fn.line ++ listed change_json (changes_of l.hops l.changed);
  written : string_len l.line ≤ string_len l.fn.line + 24 * l.x-index;
  capacity : string_capacity l.fn.line ≤ string_capacity l.line;
}

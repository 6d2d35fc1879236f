use Rattle.std.proofs.Common.{◌≡◌, ◌++◌, codes, string_bytes}
use Rattle.fr_route.specs.Json.{link_json, links_json}
use Rattle.fr_route.specs.Separated.{separated}
use Rattle.fr_route.proofs.json.links_object.Given as goal

abbrev pub invariant-loop-link : goal.invariant-loop-link
invariant-loop-link l =
    string_bytes l.line ++ (separated link_json l.first l.link-iterator ++ codes "]}") ≡ links_json l.fn.links

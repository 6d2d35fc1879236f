use Rattle.std.proofs.Common.{codes, decimal, string_bytes, ◌++◌}
use Rattle.fr_route.specs.Json.{place_json}
use Rattle.fr_route.specs.Separated.{listed}
use Rattle.fr_route.proofs.Glued.{glued3}
use Rattle.fr_route.proofs.json.push_fault_nodes.Goals as goal

pub returns : goal.returns
returns c =
    glued3 (string_bytes c.args.line.now) (string_bytes c.push_str.new.self) (string_bytes c.push_nodes.new.line) (string_bytes c.push_edit_place.new.line)
    (codes "\",\"nodes\":[") (listed decimal c.args.refusal.now.nodes.now) (codes "]" ++ place_json c.args.refusal.now.edit)
    c.in_ok-push_str.ensures.bytes c.in_ok-push_nodes.ensures.text c.in_ok-push_edit_place.ensures

use Rattle.std.proofs.Common.{List, ap, append_assoc, arith, codes, length, string_bytes, ℕ, ◌*◌, ◌+◌, ◌++◌, ◌∙◌, ◌≡◌}
use Rattle.std.proofs.lemmas.Result.{on_ok_weaker}
use Rattle.std.specs.Prelude.{string_len}
use Rattle.fr_route.specs.Json.{lists_json, more_json}
use Rattle.fr_route.specs.Rooms.{lists_size}
use Rattle.fr_route.proofs.PhaseLists.{fits_after}
use Rattle.fr_route.proofs.json.push_report_with_ways.Goals as goal

pub returns-clause-text : goal.returns-clause-text
returns-clause-text c = λ shrink grow are.
    let front = string_bytes c.push_report_front.new.line in
    let lists = lists_json shrink grow in
    on_ok_weaker c.push_phases.result
    (λ (e : string_bytes c.push_phases.new.line ≡ string_bytes c.push_str.new.self ++ lists).
    e ∙ (ap (λ (t : List ℕ). t ++ lists) c.in_ok-push_str.ensures.bytes
    ∙ (append_assoc front (codes "],\"shrink\":[") lists
    ∙ c.in_ok-push_report_front.ensures.text (more_json shrink grow))))
    (c.push_phases.ensures.text shrink grow are)

pub returns-clause-room : goal.returns-clause-room
returns-clause-room c = λ shrink grow are.
    let sizes = lists_size shrink + lists_size grow in
    let front = c.in_ok-push_report_front.ensures.room in
    let long : string_len c.push_str.new.self ≡ string_len c.push_report_front.new.line + 12 =
    c.in_ok-push_str.ensures.len in
    fits_after c.args.line.now c.push_str.new.self c.push_phases.new.line c.push_phases.result (12 + sizes)
    (100 + 24 * length c.args.changed.now + sizes) (c.push_phases.ensures.room shrink grow are)
    (omega (arith, front.capacity, c.in_ok-push_str.ensures.capacity)) (omega (arith, front.length, long))

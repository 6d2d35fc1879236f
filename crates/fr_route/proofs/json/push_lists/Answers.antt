use Rattle.std.proofs.Common.{List, ap, arith, drop, false, length, map, slice_index, string_bytes, sym, ℕ, ◌+◌, ◌++◌}
use Rattle.std.proofs.Common.{◌<◌, ◌∙◌, ◌≡◌}
use Rattle.std.proofs.lemmas.Result.{err_from_is_err_and}
use Rattle.fr_ways.specs.Ways.{ways}
use Rattle.fr_route.specs.Json.{list_json}
use Rattle.fr_route.specs.Separated.{comma_before, separated}
use Rattle.fr_route.proofs.Glued.{glued_rest}
use Rattle.fr_route.proofs.PhaseLists.{next_push, push_within, rows_more}
use Rattle.fr_route.proofs.json.push_lists.Goals as goal

pub returns-in_err-push_list-clause-room : goal.returns-in_err-push_list-clause-room
returns-in_err-push_list-clause-room c = λ these are.
    let at = c.loop-at.at in
    let lists = c.args.pushes in
    let low : at < length lists.nodes.now = omega (arith, c.loop-at-test.true) in
    let row : length c.row.result.now ≡ length (ways (map (λ (p : ℕ × List ℕ). p.1) these) at) =
    ap length (c.row.ensures these are) in
    let p = err_from_is_err_and c.from_residual.result c.from_residual.ensures.1 in
    rw p.1 (record {
      length = tt;
      capacity = omega (arith, c.loop-at.invariant.capacity, c.in_err-push_list.ensures.room.capacity);
      full = omega (
        arith,
        c.loop-at.invariant.capacity,
        c.in_err-push_list.ensures.room.full,
        c.loop-at.invariant.written these are,
        row,
        rows_more these lists are at low,
        push_within these lists are at low,
      );
    })

pub loop-at-preserved : goal.loop-at-preserved
loop-at-preserved c =
    let at = c.loop-at.at in
    let lists = c.args.pushes in
    let low : at < length lists.nodes.now = omega (arith, c.loop-at-test.true) in
    let line = string_bytes c.loop-at.line in
    let node = slice_index lists.nodes.now at in
    let first = comma_before c.loop-at.first in
    record {
      text = λ these are.
          let list = ways (map (λ (p : ℕ × List ℕ). p.1) these) at in
          let rest = separated list_json false (drop (at + 1) these) in
          glued_rest line (string_bytes c.push_list.new.line) first (list_json (node, list)) rest _
          (c.in_ok-push_list.ensures.text
          ∙ ap (λ (l : List ℕ). line ++ (first ++ list_json (node, l))) (c.row.ensures these are))
          (ap (λ (xs : List (ℕ × List ℕ)). line
          ++ separated list_json c.loop-at.first xs) (sym (next_push these lists are at low))
          ∙ c.loop-at.invariant.text these are);
      written = λ these are.
          let row : length c.row.result.now ≡ length (ways (map (λ (p : ℕ × List ℕ). p.1) these) at) =
          ap length (c.row.ensures these are) in
          omega (
            arith,
            c.loop-at.invariant.written these are,
            c.in_ok-push_list.ensures.room.length,
            row,
            rows_more these lists are at low,
          );
      capacity = omega (arith, c.loop-at.invariant.capacity, c.in_ok-push_list.ensures.room.capacity);
    }

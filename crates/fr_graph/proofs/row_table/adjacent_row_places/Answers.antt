use Rattle.std.proofs.Common.{arith, get_or, sym, ◌+◌, ◌∙◌, ◌≡◌}
use Rattle.std.proofs.lemmas.List.FromFn.{map-range_with_len_more}
use Rattle.std.proofs.lemmas.Grind.{common_steps}
use Rattle.fr_graph.specs.Tables.{place_between}
use Rattle.fr_graph.proofs.row_table.adjacent_row_places.Goals as goal

pub loop-x-preserved : goal.loop-x-preserved
loop-x-preserved c =
    let starts = c.args.starts.now in
    let x = c.loop-x.x in
    let end : c.unwrap_or-end.result ≡ get_or starts (x + 1) 0 = grind (arith, common_steps) in
    c.in_ok-push.ensures.items
    ∙ rw (c.loop-x.invariant, end) (sym (map-range_with_len_more (place_between starts) 0 x x (omega arith)))

use Rattle.std.proofs.Common.{List, ap, arith, sym, ℕ, ◌∙◌, ◌≡◌}
use Rattle.fr_shared.specs.declared.view.Push.{Push}
use Rattle.fr_shared.specs.Histories.{blank, table_of}
use Rattle.fr_shared.specs.WayTables.{last_ways, way_codec}
use Rattle.fr_readers.proofs.ways.WayTables.open.Goals as goal

pub invariant_of-result : goal.invariant_of-result
invariant_of-result c =
    let k = c.in_ok-publisher.publisher in
    let opened = c.in_ok-publisher.ensures in
    let none : last_ways k ≡ blank way_codec k.nodes =
    ap (λ (h : List (Push (List ℕ))). table_of way_codec k.nodes h) opened.none_yet in
    record {
      table = opened.nodes;
      wanted = c.in_ok-new.ensures ∙ sym (none ∙ ap (λ (n : ℕ). blank way_codec n) opened.nodes);
      space = omega (arith, c.in_ok-vec.ensures.len, c.in_ok-vec.field-0.ok.0);
      listed = omega (arith, c.in_ok-with_capacity.ensures.capacity);
    }

use Rattle.std.proofs.Common.{ap, arith, sym, take, [], ◌++◌, ◌∷◌, ◌∙◌}
use Rattle.fr_node.specs.declared.way.Way.{Way}
use Rattle.fr_node.specs.Distances.{way_of, ways_of}
use Rattle.fr_node.specs.Links.{is_way}
use Rattle.fr_node.proofs.Ways.{length_pushed, listed_more, listed_same, pushed}
use Rattle.fr_node.proofs.node.push_ways.Goals as goal
use Rattle.fr_node.proofs.node.push_ways.Goals.{else-is_way, then-is_way}

pub loop-link-preserved : goal.loop-link-preserved
loop-link-preserved c =
    let before = c.loop-link.invariant in
    let own = c.args.own.now in
    let links = c.args.links.now in
    let so_far = ways_of own (take c.loop-link.link-index links) in
    elim c.if-is_way.branch [
      | then-is_way w ↦ let items = w.push_reserved.ensures.items in rw w.ways-is (record {
        room = w.push_reserved.ensures.capacity ∙ before.room;
        few = omega (arith, length_pushed _ _ _ items, before.few);
        listed = pushed _ _ _ _ items before.listed
            ∙ ap (λ (v : Way). so_far ++ v ∷ []) w.way.ensures
            ∙ sym (listed_more (is_way own) way_of links _ _ c.loop-link-test.true (sym c.is_way.ensures
            ∙ w.if-is_way.true));
      })
      | else-is_way w ↦ rw w.ways-is (record {
        room = before.room;
        few = omega (arith, before.few);
        listed =
            before.listed ∙ sym (listed_same (is_way own) way_of links _ _ c.loop-link-test.true (sym c.is_way.ensures
            ∙ w.if-is_way.false));
      })
    ]

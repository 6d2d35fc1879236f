use Rattle.std.proofs.Common.{List, [], ap, get_or, sym, ℕ, ◌++◌, ◌∙◌, ◌∷◌}
use Rattle.std.proofs.lemmas.List.{take_more}
use Rattle.fr_graph.proofs.heights.refill_from.Goals as goal

pub loop-x-preserved : goal.loop-x-preserved
loop-x-preserved c =
    let nodes = c.args.nodes.now in
    let i = c.loop-x.x-index in
    let before = c.loop-x.invariant in
    record {
      items =
          c.push_reserved.ensures.items ∙ ap (λ (xs : List ℕ). xs ++ get_or nodes i 0 ∷ []) before.items
          ∙ sym (take_more nodes i 0 c.loop-x-test.true);
      same_room = c.push_reserved.ensures.capacity ∙ before.same_room;
    }

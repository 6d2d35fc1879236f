use Rattle.std.proofs.Common.{append_assoc, List, [], ap, get_or, sym, take, ℕ, ◌++◌, ◌∙◌, ◌∷◌}
use Rattle.std.proofs.lemmas.List.{take_more}
use Rattle.fr_readers.proofs.noting.push_nodes.Goals as goal

pub loop-x-preserved : goal.loop-x-preserved
loop-x-preserved c =
    let nodes = c.args.nodes.now in
    let old : List ℕ = c.args.list.now.items in
    let i = c.loop-x.x-index in
    let before = c.loop-x.invariant in
    record {
      items = c.push_reserved.ensures.items
          ∙ (ap (λ (xs : List ℕ). xs ++ get_or nodes i 0 ∷ []) before.items
          ∙ (append_assoc old (take i nodes) (get_or nodes i 0 ∷ [])
          ∙ ap (λ (xs : List ℕ). old ++ xs) (sym (take_more nodes i 0 c.loop-x-test.true))));
      same_room = c.push_reserved.ensures.capacity ∙ before.same_room;
    }

use Rattle.std.proofs.Common.{◌≡◌, ◌∙◌, ◌∷◌, ◌++◌, ◌+◌, List, [], ap, arith, string_bytes, sym, ℕ}
use Rattle.std.specs.List.{range_with_len}
use Rattle.std.proofs.lemmas.List.{flat_map_more, map-id}
use Rattle.std.proofs.lemmas.List.FromFn.{map-range_with_len_more}
use Rattle.revdot.specs.Changes.{new_ways}
use Rattle.revdot.proofs.changes.push_all_new_ways.Goals as goal

-- numbers and the next one
range_more : (n : ℕ) → range_with_len 0 (n + 1) ≡ range_with_len 0 n ++ n ∷ []
range_more n =
    sym (map-id (range_with_len 0 (n + 1)))
    ∙ (map-range_with_len_more (λ (x : ℕ). x) 0 n n (omega arith)
    ∙ ap (λ (xs : List ℕ). xs ++ n ∷ []) (map-id (range_with_len 0 n)))

pub loop-x-preserved : goal.loop-x-preserved
loop-x-preserved c =
    let x = c.loop-x.x in
    let told = new_ways c.args.old.now c.args.new.now in
    let old = string_bytes c.args.story.now in
    rw (c.in_ok-push_new_ways.ensures, c.loop-x.invariant, range_more x) (flat_map_more told old (range_with_len 0 x) x)

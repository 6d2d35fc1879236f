use Rattle.std.proofs.Common.{List, ap, arith, length, ℕ, ◌≡◌}
use Rattle.std.proofs.lemmas.List.Sorted.{Contains-permutation, IsNonDecreasingBy-from_sort}
use Rattle.fr_route.specs.Ends.{ends_of}
use Rattle.fr_route.proofs.Touched.{ends_length}
use Rattle.fr_route.proofs.way_notes.list_ends.Goals as goal

pub returns : goal.returns
returns c =
    let edits = c.args.edits.now in
    let listed = c.push_ends.new.nodes in
    let sorted = c.sort_unstable.new.self in
    let are : listed.items ≡ ends_of edits = rw c.clear.ensures.items at c.in_ok-push_ends.ensures in
    record {
      these = λ x h. Contains-permutation listed.items sorted.items x c.sort_unstable.ensures.permutation (rw are h);
      sorted = λ i j le low.
          IsNonDecreasingBy-from_sort (λ (x : ℕ). x) sorted.items c.sort_unstable.ensures.sorted i j 0 le low;
      few = omega (
        arith,
        sorted.ok.0,
        listed.ok.0,
        c.sort_unstable.ensures.len,
        ap (λ (xs : List ℕ). length xs) are,
        ends_length edits,
      );
    }

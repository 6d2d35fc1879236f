use Rattle.std.proofs.Common.{List, ap, arith, length, subst, ℕ, ◌++◌, ◌∙◌, ◌≡◌}
use Rattle.std.specs.List.Sorted.{IsPermutation}
use Rattle.std.proofs.lemmas.List.Sorted.{IsNonDecreasingBy-from_sort}
use Rattle.fr_readers.proofs.ways.list_nodes.Goals as goal

pub push_nodes-requires : goal.push_nodes-requires
push_nodes-requires c =
    omega (arith, c.requires, ap length c.clear.ensures.items, c.clear.ensures.capacity)

pub push_nodes-requires-2 : goal.push_nodes-requires-2
push_nodes-requires-2 c =
    let some : c.push_nodes.new.list.items ≡ c.args.some.now =
    c.push_nodes.ensures.items ∙ ap (λ (xs : List ℕ). xs ++ c.args.some.now) c.clear.ensures.items in
    omega (arith, c.requires, ap length some, c.clear.ensures.capacity, c.push_nodes.ensures.room)

pub returns-clause-these : goal.returns-clause-these
returns-clause-these c =
    let all : c.push_nodes-2.new.list.items ≡ c.args.some.now ++ c.args.others.now =
    c.push_nodes-2.ensures.items
    ∙ ap (λ (xs : List ℕ). xs ++ c.args.others.now)
    (c.push_nodes.ensures.items ∙ ap (λ (xs : List ℕ). xs ++ c.args.some.now) c.clear.ensures.items) in
    subst (λ (xs : List ℕ). IsPermutation xs c.sort_unstable.new.self.items) all c.sort_unstable.ensures.permutation

pub returns-clause-by_number : goal.returns-clause-by_number
returns-clause-by_number c =
    IsNonDecreasingBy-from_sort (λ (x : ℕ). x) c.sort_unstable.new.self.items c.sort_unstable.ensures.sorted

pub returns-clause-room : goal.returns-clause-room
returns-clause-room c =
    c.sort_unstable.ensures.capacity
    ∙ (c.push_nodes-2.ensures.room ∙ (c.push_nodes.ensures.room ∙ c.clear.ensures.capacity))

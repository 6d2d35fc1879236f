-- Pushes of two phases as numbers.
use Rattle.std.proofs.Common.{List, [], append-nil, append_assoc, ap, get_or, length, map, sym, take, ℕ}
use Rattle.std.proofs.Common.{◌++◌, ◌+◌, ◌<◌, ◌∙◌, ◌∷◌, ◌≡◌}
use Rattle.std.proofs.lemmas.List.{get_or-map, take_more}
use Rattle.fr_ways.specs.PushLists.{AreListed}
use Rattle.fr_ways.specs.Ways.{ways}
use Rattle.fr_ways.specs.declared.push_list.PushList.{PushList}
use Rattle.revroute_c.specs.Phases.{numbers_of}

-- one more push
numbers_push : (pushes : List (ℕ × List ℕ)) (push : ℕ × List ℕ)
    → numbers_of (pushes ++ push ∷ []) ≡ numbers_of pushes ++ (push.0 ∷ length push.1 ∷ push.1)
numbers_push [] push = append-nil (push.0 ∷ length push.1 ∷ push.1)
numbers_push (other ∷ others) push =
    let one : List ℕ = other.0 ∷ length other.1 ∷ other.1 in
    ap (λ (rest : List ℕ). one ++ rest) (numbers_push others push)
    ∙ sym (append_assoc one (numbers_of others) (push.0 ∷ length push.1 ∷ push.1))

-- the numbers of one more push of a list
pub numbers_more : (pushes : List (ℕ × List ℕ)) (lists : PushList) (k : ℕ) (numbers row : List ℕ) (x n : ℕ)
    → AreListed pushes lists → k < length pushes → numbers ≡ numbers_of (take k pushes)
    → x ≡ get_or lists.nodes.now k 0 → row ≡ ways (map (λ p. p.1) pushes) k → n ≡ length row
    → ((numbers ++ x ∷ []) ++ n ∷ []) ++ row ≡ numbers_of (take (k + 1) pushes)
numbers_more pushes lists k numbers row x n are low were at_x at_row at_n =
    let push : ℕ × List ℕ = get_or pushes k (0, []) in
    let node : x ≡ push.0 =
    at_x ∙ (ap (λ (xs : List ℕ). get_or xs k 0) are.nodes ∙ get_or-map (λ p. p.0) pushes k (0, []) 0 low) in
    let list : row ≡ push.1 = at_row ∙ get_or-map (λ p. p.1) pushes k (0, []) [] low in
    rw (at_n, list, node, were, take_more pushes k (0, []) low, numbers_push (take k pushes) push)
    (append_assoc (numbers_of (take k pushes) ++ push.0 ∷ []) (length push.1 ∷ []) push.1
    ∙ append_assoc (numbers_of (take k pushes)) (push.0 ∷ []) (length push.1 ∷ push.1))

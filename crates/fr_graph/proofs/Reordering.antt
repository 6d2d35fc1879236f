-- The first links in another order give the same links in order.
use Rattle.std.proofs.Common.{◌≡◌, ℕ, List, Bool, IsPermutation, arith}
use Rattle.std.proofs.lemmas.List.Sorted.{sum_by-IsPermutation}
use Rattle.fr_graph.specs.Counts.{link_at, links_at}
use Rattle.fr_graph.specs.Order.{in_order}
use Rattle.fr_graph.proofs.Counting.{count-filter_map, passes, weigh}
use Rattle.fr_graph.proofs.Ordering.{same_order, in_order_order, is_pair, times-in_order}

pub in_order-links_at : (first other : List (ℕ × ℕ)) (counts : List ℕ) → IsPermutation first other
    → in_order (links_at first counts) ≡ in_order (links_at other counts)
in_order-links_at first other counts same =
    same_order (in_order (links_at first counts)) (in_order (links_at other counts))
    (in_order_order (links_at first counts)) (in_order_order (links_at other counts))
    (λ x.
    let p : ℕ × ℕ → Bool = is_pair x.0 x.1 in
    let weight : ℕ × ℕ → ℕ = λ l. weigh (passes p (link_at counts l)) in
    omega (
      arith,
      times-in_order (links_at first counts) x,
      times-in_order (links_at other counts) x,
      count-filter_map p (link_at counts) first,
      count-filter_map p (link_at counts) other,
      sum_by-IsPermutation weight first other same,
    ))

-- The links of a network without one of them are those of a network.
use Rattle.std.proofs.Common.{Bool, Contains, List, [], arith, cond, count_by, false, get_or, inl, inr, subst, true, ℕ}
use Rattle.std.proofs.Common.{◌<◌, ◌∷◌, ◌≡◌, ◌≤◌}
use Rattle.std.specs.Prelude.{not}
use Rattle.std.specs.List.{filter}
use Rattle.std.proofs.lemmas.List.Elements.{All-filter}
use Rattle.std.proofs.lemmas.List.Sums.{count_by-le-length, length-filter, sum_by-cons}
use Rattle.fr_graph.proofs.Counting.{one_passes, weigh}
use Rattle.fr_graph.proofs.Linking.{is_between_itself, walk_carries}
use Rattle.fr_graph.proofs.Members.{Contains-cases, Contains-head, Contains-tail}
use Rattle.fr_graph.specs.Edits.{without}
use Rattle.fr_graph.specs.Faults.{IsFaultless}
use Rattle.fr_graph.specs.Links.{IsNet, is_between}

-- a link that a test keeps was there, and equally often
from_filter_by : (b : Bool) (p : ℕ × ℕ → Bool) (l : ℕ × ℕ) (ls : List (ℕ × ℕ)) (x : ℕ × ℕ)
    → (Contains (filter p ls) x → Contains ls x) → Contains (cond b (l ∷ filter p ls) (filter p ls)) x
    → Contains (l ∷ ls) x
from_filter_by true p l ls x rest h =
    elim (Contains-cases x l (filter p ls) h) [
      | inl e ↦ subst (λ (y : ℕ × ℕ). Contains (l ∷ ls) y) e
          (Contains-head l ls)
      | inr g ↦ Contains-tail x l ls (rest g)
    ]
from_filter_by false p l ls x rest h = Contains-tail x l ls (rest h)

pub from_filter : (p : ℕ × ℕ → Bool) (links : List (ℕ × ℕ)) (x : ℕ × ℕ) → Contains (filter p links) x → Contains links x
from_filter p [] x h = h
from_filter p (l ∷ ls) x h = from_filter_by (p l) p l ls x (from_filter p ls x) h

count_filter_by : (b : Bool) (q p : ℕ × ℕ → Bool) (l : ℕ × ℕ) (ls : List (ℕ × ℕ))
    → count_by q (filter p ls) ≤ count_by q ls
    → count_by q (cond b (l ∷ filter p ls) (filter p ls)) ≤ count_by q (l ∷ ls)
count_filter_by true q p l ls rest =
    let f : ℕ × ℕ → ℕ = λ y. weigh (q y) in omega (arith, sum_by-cons f l (filter p ls), sum_by-cons f l ls, rest)
count_filter_by false q p l ls rest = let f : ℕ × ℕ → ℕ = λ y. weigh (q y) in omega (arith, sum_by-cons f l ls, rest)

count-filter-le : (q p : ℕ × ℕ → Bool) (links : List (ℕ × ℕ)) → count_by q (filter p links) ≤ count_by q links
count-filter-le q p [] = omega arith
count-filter-le q p (l ∷ ls) = count_filter_by (p l) q p l ls (count-filter-le q p ls)

filter_net : (n : ℕ) (p : ℕ × ℕ → Bool) (links : List (ℕ × ℕ)) → IsNet n links → IsNet n (filter p links)
filter_net n p links net = record {
  in_range = All-filter p (λ (l : ℕ × ℕ). (l.0 < n) × (l.1 < n)) links net.in_range;
  no_self = All-filter p (λ (l : ℕ × ℕ). ¬ (l.0 ≡ l.1)) links net.no_self;
  single = λ k d l.
      let link = get_or (filter p links) k d in
      let all = All-filter p (λ (y : ℕ × ℕ). count_by (is_between y.0 y.1) links ≡ 1) links net.single in
      omega (
        arith,
        all k d l,
        count-filter-le (is_between link.0 link.1) p links,
        one_passes (is_between link.0 link.1)
            (filter p links) k d l (is_between_itself link),
      );
  acyclic =
      λ u vs h. net.acyclic u vs (walk_carries (filter p links) links (λ x y c. from_filter p links (x, y) c) u vs h);
}

pub faultless_cut : (n : ℕ) (links : List (ℕ × ℕ)) (u v : ℕ) → IsFaultless n links → IsFaultless n (without u v links)
faultless_cut n links u v clear =
    let kept : ℕ × ℕ → Bool = λ l. not (is_between u v l) in
    record {
      limits = record {
        nodes_few = clear.limits.nodes_few;
        links_few =
            omega (arith, length-filter kept links, count_by-le-length kept links, clear.limits.links_few);
      };
      some = clear.some;
      is_net = filter_net n kept links clear.is_net;
    }

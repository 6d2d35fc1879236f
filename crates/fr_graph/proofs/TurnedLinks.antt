-- The links that counts give are those of a network.
use Rattle.std.proofs.Common.{All, List, Some, [], ap, arith, count_by, eq-eqb, eqb, eqb-true, false, get_or, inl, inr, length, refl, sym, ℕ, ◌+◌}
use Rattle.std.proofs.Common.{◌<◌, ◌∷◌, ◌≡◌, ◌⊎◌}
use Rattle.std.proofs.lemmas.Bool.{cases_Bool}
use Rattle.std.proofs.lemmas.List.Elements.{All-contains, All-head, All-tail, Contains-get_or}
use Rattle.std.proofs.lemmas.List.Sums.{sum_by-cons}
use Rattle.fr_graph.proofs.Acyclic.{links_at_acyclic}
use Rattle.fr_graph.proofs.Booleans.{flip}
use Rattle.fr_graph.proofs.Counting.{one_passes, weigh}
use Rattle.fr_graph.proofs.Linking.{is_between_itself, not_twice}
use Rattle.fr_graph.specs.Counts.{IsKept, link_at, links_at}
use Rattle.fr_graph.specs.Faults.{IsFaultless}
use Rattle.fr_graph.proofs.Giving.{Points-links_at_from}
use Rattle.fr_graph.specs.Links.{IsNet, is_between}

-- a link that the counts give
pub kept_cases : (counts : List ℕ) (l : ℕ × ℕ) → IsKept counts l
    → ((link_at counts l ≡ Some l) × (get_or counts l.1 0 ≡ get_or counts l.0 0))
    ⊎ ((link_at counts l ≡ Some (l.1, l.0)) × (get_or counts l.1 0 ≡ get_or counts l.0 0 + 1))
kept_cases counts l (inl e) = inl (rw (eq-eqb _ _ e) refl, e)
kept_cases counts l (inr e) =
    let off : eqb (get_or counts l.1 0) (get_or counts l.0 0) ≡ false =
    elim (cases_Bool (eqb (get_or counts l.1 0) (get_or counts l.0 0))) [ inl t ↦ absurd (omega (arith, eqb-true _ _ t, e)) | inr f ↦ f ] in
    inr (rw (off, eq-eqb _ _ e) refl, e)

pub count-links_at : (links : List (ℕ × ℕ)) (counts : List ℕ) (u v : ℕ) → All (IsKept counts) links
    → count_by (is_between u v) (links_at links counts) ≡ count_by (is_between u v) links
count-links_at [] counts u v all = refl
count-links_at (l ∷ ls) counts u v all =
    let f : ℕ × ℕ → ℕ = λ y. weigh (is_between u v y) in
    let rest = count-links_at ls counts u v (All-tail (IsKept counts) l ls all) in
    let turned : ℕ × ℕ = (l.1, l.0) in
    let flipped : f turned ≡ f l = ap weigh (flip (eqb l.0 u) (eqb l.1 v) (eqb l.0 v) (eqb l.1 u)) in
    elim (kept_cases counts l (All-head (IsKept counts) l ls all)) [
      | inl m ↦ rw m.0 (omega (arith, sum_by-cons f l (links_at ls counts), sum_by-cons f l ls, rest))
      | inr m ↦ rw m.0 (omega (arith, sum_by-cons f turned (links_at ls counts), sum_by-cons f l ls, rest, flipped))
    ]

pub length-links_at : (links : List (ℕ × ℕ)) (counts : List ℕ) → All (IsKept counts) links → length (links_at links counts) ≡ length links
length-links_at [] counts all = refl
length-links_at (l ∷ ls) counts all =
    let rest = length-links_at ls counts (All-tail (IsKept counts) l ls all) in
    elim (kept_cases counts l (All-head (IsKept counts) l ls all)) [
      | inl m ↦ rw m.0 (omega (arith, rest))
      | inr m ↦ rw m.0 (omega (arith, rest))
    ]

pub net_turned : (n : ℕ) (links : List (ℕ × ℕ)) (counts : List ℕ) → All (IsKept counts) links → IsNet n links → IsNet n (links_at links counts)
net_turned n links counts all net = record {
  in_range = λ k d l.
      let x = get_or (links_at links counts) k d in
      elim (Points-links_at_from links counts x.0 x.1 (Contains-get_or (links_at links counts) k d l)) [
        | inl t ↦ All-contains (λ (y : ℕ × ℕ). (y.0 < n) × (y.1 < n)) links x net.in_range t.0
        | inr t ↦ let b = All-contains (λ (y : ℕ × ℕ). (y.0 < n) × (y.1 < n)) links (x.1, x.0) net.in_range t.0 in (b.1, b.0)
      ];
  no_self = λ k d l.
      let x = get_or (links_at links counts) k d in
      elim (Points-links_at_from links counts x.0 x.1 (Contains-get_or (links_at links counts) k d l)) [
        | inl t ↦ All-contains (λ (y : ℕ × ℕ). ¬ (y.0 ≡ y.1)) links x net.no_self t.0
        | inr t ↦ λ e. All-contains (λ (y : ℕ × ℕ). ¬ (y.0 ≡ y.1)) links (x.1, x.0) net.no_self t.0 (sym e)
      ];
  single = λ k d l.
      let x = get_or (links_at links counts) k d in
      omega (
        arith,
        count-links_at links counts x.0 x.1 all,
        not_twice links x.0 x.1 net.single,
        one_passes (is_between x.0 x.1) (links_at links counts) k d l (is_between_itself x),
      );
  acyclic = links_at_acyclic links counts net.acyclic;
}

-- so a network can be made of them
pub turned_faultless : (n : ℕ) (links : List (ℕ × ℕ)) (counts : List ℕ) → All (IsKept counts) links → IsFaultless n links
    → IsFaultless n (links_at links counts)
turned_faultless n links counts all f = record {
  limits = record { nodes_few = f.limits.nodes_few; links_few = omega (arith, length-links_at links counts all, f.limits.links_few) };
  some = f.some;
  is_net = net_turned n links counts all f.is_net;
}

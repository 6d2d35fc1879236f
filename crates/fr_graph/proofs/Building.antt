-- From the sorted half-links to the network, or to the fault of the links.
use Rattle.std.proofs.Common.{Bool, IsPermutation, List, [], ap, arith, count_by, eqb, eqb-true, false, get_or, inl}
use Rattle.std.proofs.Common.{inr, map, refl, suc, sym, true}
use Rattle.std.proofs.Common.{ℕ, ◌&&◌, ◌+◌, ◌<◌, ◌||◌, ◌∙◌, ◌∷◌, ◌≡◌, ◌≤◌}
use Rattle.std.proofs.lemmas.Bool.{and_parts}
use Rattle.std.proofs.lemmas.List.Sorted.{All-permutation, Contains-permutation, IsPermutation-sym, length_permutation}
use Rattle.std.proofs.lemmas.List.Sorted.{sum_by-IsPermutation}
use Rattle.std.proofs.lemmas.List.Sums.{sum_by-cons}
use Rattle.fr_graph.proofs.Counting.{at_most_one, one_passes, weigh}
use Rattle.fr_graph.proofs.HalfLinks.{rising_pair, shows_row}
use Rattle.fr_graph.proofs.Linking.{is_between_itself, one_way, walk_carries}
use Rattle.fr_graph.specs.Faults.{IsFaultless, IsInRange}
use Rattle.fr_graph.specs.Halves.{AreHalvesOf, AreHalvesRising, ShowsRow, entry_of, halves_of, is_at}
use Rattle.fr_graph.specs.Limits.{IsWithinLimits}
use Rattle.fr_graph.specs.Links.{AreBelow, AreSingle, HasNoSelfLink, IsAcyclic, IsCycle, IsNet, Points, is_between}
use Rattle.fr_graph.specs.Order.{IsBefore}
use Rattle.fr_graph.specs.declared.first.First.TheVariants.{Inward, Outward}
use Rattle.fr_graph.specs.declared.half_links.HalfLink.{HalfLink}

one_half : (a b c d : Bool) → ¬ ((a ≡ true) × (b ≡ true) × (c ≡ true) × (d ≡ true))
    → weigh (a && b) + weigh (d && c) ≡ weigh ((a && b) || (c && d))
one_half false b false true bar = refl
one_half false b false false bar = refl
one_half false b true true bar = refl
one_half false b true false bar = refl
one_half true false false true bar = refl
one_half true false false false bar = refl
one_half true false true true bar = refl
one_half true false true false bar = refl
one_half true true false true bar = refl
one_half true true false false bar = refl
one_half true true true false bar = refl
one_half true true true true bar = absurd (bar (refl, refl, refl, refl))

pub count_halves : (links : List (ℕ × ℕ)) (u v : ℕ) → HasNoSelfLink links
    → count_by (is_at u v) (halves_of links) ≡ count_by (is_between u v) links
count_halves [] u v bar = refl
count_halves (l ∷ ls) u v bar =
    let a : HalfLink = record { node = l.0; neighbour = l.1; first = Outward } in
    let b : HalfLink = record { node = l.1; neighbour = l.0; first = Inward } in
    let weight : HalfLink → ℕ = λ h. weigh (is_at u v h) in
    let link_weight : ℕ × ℕ → ℕ = λ y. weigh (is_between u v y) in
    let first = sum_by-cons weight a (b ∷ halves_of ls) in
    let second = sum_by-cons weight b (halves_of ls) in
    let whole = sum_by-cons link_weight l ls in
    let rest = count_halves ls u v (λ k d i. bar (suc k) d (omega arith)) in
    let here : weight a + weight b ≡ link_weight l =
    one_half (eqb l.0 u) (eqb l.1 v) (eqb l.0 v) (eqb l.1 u) (λ t. bar 0 l (omega arith) (eqb-true _ _ t.0
    ∙ sym (eqb-true _ _ t.3))) in
    omega (arith, first, second, whole, rest, here)

pub at_place : (u v : ℕ) (h : HalfLink) → is_at u v h ≡ true → (h.node ≡ u) × (h.neighbour ≡ v)
at_place u v h e = let t = and_parts _ _ e in (eqb-true _ _ t.0, eqb-true _ _ t.1)

pub not_below_itself : {p q : ℕ × ℕ} → IsBefore p q → p.0 ≡ q.0 → p.1 ≡ q.1 → ⊥
not_below_itself (inl a) e f = omega arith
not_below_itself (inr a) e f = omega arith

rising_once : (halves : List HalfLink) (u v : ℕ) → AreHalvesRising halves → count_by (is_at u v) halves ≤ 1
rising_once halves u v rising = at_most_one (is_at u v) halves (λ i j d lt l e f.
    let p = at_place u v (get_or halves i d) e in
    let q = at_place u v (get_or halves j d) f in
    not_below_itself (rising_pair halves rising i j d lt l) (p.0 ∙ sym q.0) (p.1 ∙ sym q.1))

pub count_same : (listed : List (ℕ × ℕ)) (halves : List HalfLink) (u v : ℕ) → IsPermutation (halves_of listed) halves
    → HasNoSelfLink listed → count_by (is_at u v) halves ≡ count_by (is_between u v) listed
count_same listed halves u v both bar =
    let f : HalfLink → ℕ = λ h. weigh (is_at u v h) in
    sum_by-IsPermutation f (halves_of listed) halves both ∙ count_halves listed u v bar

no_self_sorted : (listed sorted : List (ℕ × ℕ)) → IsPermutation listed sorted → HasNoSelfLink listed
    → HasNoSelfLink sorted
no_self_sorted listed sorted same bar = All-permutation (λ (l : ℕ × ℕ). ¬ (l.0 ≡ l.1)) listed sorted same bar

-- what the sorted half-links show about the listed links
pub twice_stands : (listed : List (ℕ × ℕ)) (halves : List HalfLink) (u v : ℕ) → IsPermutation (halves_of listed) halves
    → HasNoSelfLink listed → 2 ≤ count_by (is_at u v) halves → 2 ≤ count_by (is_between u v) listed
twice_stands listed halves u v both bar h = omega (arith, count_same listed halves u v both bar, h)

pub single_from_rising : (listed : List (ℕ × ℕ)) (halves : List HalfLink) → IsPermutation (halves_of listed) halves
    → HasNoSelfLink listed → AreHalvesRising halves → AreSingle listed
single_from_rising listed halves both bar rising k d l =
    let link = get_or listed k d in
    omega (
      arith,
      count_same listed halves link.0 link.1 both bar,
      rising_once halves link.0 link.1 rising,
      one_passes (is_between link.0 link.1) listed k d l (is_between_itself link),
    )

pub single_sorted : (listed sorted : List (ℕ × ℕ)) → IsPermutation listed sorted → AreSingle listed → AreSingle sorted
single_sorted listed sorted same single =
    let all = All-permutation (λ (l : ℕ × ℕ). count_by (is_between l.0 l.1) listed ≡ 1) listed sorted same single in
    λ k d l.
    let link = get_or sorted k d in
    let g : ℕ × ℕ → ℕ = λ y. weigh (is_between link.0 link.1 y) in
    sum_by-IsPermutation g listed sorted same ∙ all k d l

pub cycle_stands : (some other : List (ℕ × ℕ)) (walk : List ℕ) → ((u v : ℕ) → Points some u v → Points other u v)
    → IsCycle some walk → IsCycle other walk
cycle_stands some other [] same p = p
cycle_stands some other (u ∷ vs) same p = walk_carries some other same u vs p

pub acyclic_fewer : (some fewer : List (ℕ × ℕ)) → ((u v : ℕ) → Points fewer u v → Points some u v) → IsAcyclic some
    → IsAcyclic fewer
acyclic_fewer some fewer same a u vs p = a u vs (walk_carries fewer some same u vs p)

pub acyclic_listed : (listed sorted : List (ℕ × ℕ)) → IsPermutation listed sorted → IsAcyclic sorted → IsAcyclic listed
acyclic_listed listed sorted same =
    acyclic_fewer sorted listed (λ x y h. Contains-permutation listed sorted (x, y) same h)

pub below_sorted : (n : ℕ) (listed sorted : List (ℕ × ℕ)) → IsPermutation listed sorted → AreBelow n listed
    → AreBelow n sorted
below_sorted n listed sorted same below =
    All-permutation (λ (l : ℕ × ℕ). (l.0 < n) × (l.1 < n)) listed sorted same below

pub net_sorted : (n : ℕ) (listed sorted : List (ℕ × ℕ)) → IsPermutation listed sorted → IsAcyclic sorted
    → IsNet n listed → IsNet n sorted
net_sorted n listed sorted same a net = record {
  in_range = below_sorted n listed sorted same net.in_range;
  no_self = no_self_sorted listed sorted same net.no_self;
  single = single_sorted listed sorted same net.single;
  acyclic = a;
}

-- links in range without a self link have no fault if their half-links increase and the links contain no cycle
pub faultless_listed : (n : ℕ) (listed : List (ℕ × ℕ)) (halves : List HalfLink) → IsWithinLimits n listed
    → IsInRange n listed → HasNoSelfLink listed → IsPermutation (halves_of listed) halves → AreHalvesRising halves
    → IsAcyclic listed → IsFaultless n listed
faultless_listed n listed halves limits range bar both rising a = record {
  limits = limits;
  some = range.some;
  is_net = record {
    in_range = range.below;
    no_self = bar;
    single = single_from_rising listed halves both bar rising;
    acyclic = a;
  };
}

pub faultless_sorted : (n : ℕ) (listed sorted : List (ℕ × ℕ)) → IsPermutation listed sorted → IsAcyclic sorted
    → IsFaultless n listed → IsFaultless n sorted
faultless_sorted n listed sorted same a f = record {
  limits =
      record {
        nodes_few = f.limits.nodes_few;
        links_few = omega (arith, length_permutation listed sorted same, f.limits.links_few);
      };
  some = f.some;
  is_net = net_sorted n listed sorted same a f.is_net;
}

pub rows_shown : (n : ℕ) (listed : List (ℕ × ℕ)) (halves : List HalfLink) (starts : List ℕ)
    → AreHalvesOf n listed halves starts → (x : ℕ) → x < n → ShowsRow n listed starts (map entry_of halves) x
rows_shown n listed halves starts of x lt =
    shows_row n listed halves starts x lt
    (one_way listed of.no_self (single_from_rising listed halves of.same of.no_self of.rising))
    (λ u v p.
    let b = of.below p.0 (u, v) p.1 in
    let f = ap (λ (l : ℕ × ℕ). l.0) p.2 in
    let g = ap (λ (l : ℕ × ℕ). l.1) p.2 in
    (omega (arith, b.0, f), omega (arith, b.1, g)))
    of.same of.rising of.start_each

-- the links of a network in another order are those of a network
pub permuted_net : (n : ℕ) (a b : List (ℕ × ℕ)) → IsPermutation a b → IsNet n a → IsNet n b
permuted_net n a b same net = net_sorted n a b same (acyclic_listed b a (IsPermutation-sym a b same) net.acyclic) net

-- Links have no fault or a first fault.
use Rattle.std.proofs.Common.{Any, Contains, List, [], ap, arith, count_by, eqb, inl, inr, length, length-append, refl}
use Rattle.std.proofs.Common.{subst, suc, sym, zero, ℕ}
use Rattle.std.proofs.Common.{⊎_elim, ◌++◌, ◌<◌, ◌^◌, ◌∙◌, ◌∷◌, ◌≡◌, ◌≤◌, ◌⊎◌}
use Rattle.std.proofs.lemmas.Bool.{cases_eq, cases_lt}
use Rattle.std.specs.List.{IsDistinct}
use Rattle.std.specs.declared.vec.Vec.{Vec}
use Rattle.std.specs.declared.alloc.Global.{Global}
use denote.RawPtr.{null_ptr}
use Rattle.fr_graph.proofs.Counting.{one_passes}
use Rattle.fr_graph.proofs.Linking.{is_between_itself}
use Rattle.fr_graph.proofs.Members.{Contains-cases, Contains-none, cases_some}
use Rattle.fr_graph.specs.Faults.{IsFaultless, IsFirstFault}
use Rattle.fr_graph.specs.Limits.{IsWithinLimits, most_links, most_nodes}
use Rattle.fr_graph.specs.Links.{AreBelow, AreSingle, HasNoSelfLink, IsAcyclic, IsClosedWalk, IsCycle, IsPath, Points}
use Rattle.fr_graph.specs.Links.{end_of, is_between}
use Rattle.fr_graph.specs.declared.fault.NetFault.{NetFault}
use Rattle.fr_graph.specs.declared.fault.NetFault.TheVariants.{Cycle, Range, SelfLink, TooMany, Twice}
use Rattle.fr_core.proofs.Pigeons.{IsDistinct-more, IsDistinct-none, distinct_length}
use Rattle.fr_core.proofs.Searching.{cases_below}
use Rattle.fr_core.proofs.Turning.{All-from_Contains}

-- a path of k links from x
abbrev pub PathOf : List (ℕ × ℕ) → ℕ → ℕ → Type 0
PathOf links k x = (vs : List ℕ) × IsPath links x vs × (length vs ≡ k)

-- a link from x with a path of k links after it
abbrev Begins : List (ℕ × ℕ) → ℕ → ℕ → ℕ × ℕ → Type 0
Begins links k x l = (l.0 ≡ x) × PathOf links k l.1

begins_or_not : (links : List (ℕ × ℕ)) (k x : ℕ) → ((y : ℕ) → PathOf links k y ⊎ ¬ PathOf links k y) → (l : ℕ × ℕ)
    → Begins links k x l ⊎ ¬ Begins links k x l
begins_or_not links k x shorter l = ⊎_elim (λ e. ⊎_elim (λ p. inl (e, p)) (λ none. inr (λ q. none q.1)) (shorter l.1))
    (λ ne. inr (λ q. ne q.0)) (cases_eq l.0 x)

no_first : (links : List (ℕ × ℕ)) (k x : ℕ) → ((l : ℕ × ℕ) → Contains links l → ¬ Begins links k x l)
    → ¬ PathOf links (suc k) x
no_first links k x none ([], p, e) = absurd (omega (arith, e))
no_first links k x none (v ∷ vs, p, e) = none (x, v) p.0 (refl, (vs, p.1, omega (arith, e)))

one_more : (links : List (ℕ × ℕ)) (k x : ℕ) → ((y : ℕ) → PathOf links k y ⊎ ¬ PathOf links k y)
    → PathOf links (suc k) x ⊎ ¬ PathOf links (suc k) x
one_more links k x shorter = ⊎_elim
    (λ b. let l = b.0 in inl (
      l.1 ∷ b.2.1.0,
      (subst (λ (z : ℕ). Points links z l.1) b.2.0 b.1, b.2.1.1),
      omega (arith, b.2.1.2),
    ))
    (λ none. inr (no_first links k x none))
    (cases_some (Begins links k x) (begins_or_not links k x shorter) links)

pub path_or_not : (links : List (ℕ × ℕ)) (k x : ℕ) → PathOf links k x ⊎ ¬ PathOf links k x
path_or_not links zero x = inl ([], tt, refl)
path_or_not links (suc k) x = one_more links k x (path_or_not links k)

-- the part of a path up to a node on it
pub part_to : (links : List (ℕ × ℕ)) (s : ℕ) (vs : List ℕ) (u : ℕ) → IsPath links s vs → Contains vs u
    → (v : ℕ) × (ws : List ℕ)
    × IsPath links s (v ∷ ws) × (end_of v ws ≡ u) × (length ws < length vs)
part_to links s [] u path h = absurd (Contains-none u h)
part_to links s (v ∷ vs) u path h = ⊎_elim
    (λ e. (v, [], (path.0, tt), e, omega arith))
    (λ r. let p = part_to links v vs u path.1 r in (v, p.0 ∷ p.1, (path.0, p.2), p.3, omega (arith, p.4)))
    (Contains-cases u v vs h)

-- a cycle of few steps
abbrev ShortCycle : List (ℕ × ℕ) → ℕ → Type 0
ShortCycle links most = (w : ℕ) × (ws : List ℕ) × IsClosedWalk links w ws × (length ws ≤ most)

-- a path visits no node twice, or contains a cycle
distinct_or_cycle : (links : List (ℕ × ℕ)) (u : ℕ) (vs : List ℕ) → IsPath links u vs
    → IsDistinct eqb (u ∷ vs) ⊎ ShortCycle links (length vs)
distinct_or_cycle links u [] path = inl (IsDistinct-more u [] (λ y h. absurd (Contains-none y h)) IsDistinct-none)
distinct_or_cycle links u (v ∷ vs) path = ⊎_elim
    (λ distinct. ⊎_elim
    (λ back. let p = part_to links u (v ∷ vs) back.0 path back.1 in inr (
      u,
      p.0 ∷ p.1,
      (p.2, p.3 ∙ sym back.2),
      omega (arith, p.4),
    ))
    (λ none. inl (IsDistinct-more u (v ∷ vs) none distinct))
    (cases_some (λ y. u ≡ y) (cases_eq u) (v ∷ vs)))
    (λ c. inr (c.0, c.1, c.2, omega (arith, c.3)))
    (distinct_or_cycle links v vs path.1)

pub below_of : (n : ℕ) (links : List (ℕ × ℕ)) (u v : ℕ) → AreBelow n links → Points links u v → (u < n) × (v < n)
below_of n links u v below p =
    let b = below p.0 (u, v) p.1 in
    (omega (arith, b.0, ap (λ (l : ℕ × ℕ). l.0) p.2), omega (arith, b.1, ap (λ (l : ℕ × ℕ). l.1) p.2))

pub path_in_range : (n : ℕ) (links : List (ℕ × ℕ)) → AreBelow n links → (u : ℕ) (vs : List ℕ) → u < n
    → IsPath links u vs → (q : ℕ) → Contains (u ∷ vs) q → q < n
path_in_range n links below u [] l path q h =
    ⊎_elim (λ e. omega (arith, e)) (λ r. absurd (Contains-none q r)) (Contains-cases q u [] h)
path_in_range n links below u (v ∷ vs) l path q h = ⊎_elim (λ e. omega (arith, e))
    (path_in_range n links below v vs (below_of n links u v below path.0).1 path.1 q) (Contains-cases q u (v ∷ vs) h)

-- a path and another one from its end
pub path_on : (links : List (ℕ × ℕ)) (u v : ℕ) (vs ws : List ℕ) → IsPath links u vs → end_of u vs ≡ v
    → IsPath links v ws
    → IsPath links u (vs ++ ws) × (end_of u (vs ++ ws) ≡ end_of v ws)
path_on links u v [] ws p e q = (subst (λ (z : ℕ). IsPath links z ws) (sym e) q, ap (λ (z : ℕ). end_of z ws) e)
path_on links u v (w ∷ vs) ws p e q = let rest = path_on links w v vs ws p.1 e q in ((p.0, rest.0), rest.1)

-- the same cycle again and again
pub again : (links : List (ℕ × ℕ)) (u : ℕ) (vs : List ℕ) → IsClosedWalk links u vs → (k : ℕ)
    → (ws : List ℕ) × IsPath links u ws
    × (end_of u ws ≡ u) × (k ≤ length ws)
again links u [] closed k = absurd closed
again links u (v ∷ vs) closed zero = ([], tt, refl, omega arith)
again links u (v ∷ vs) closed (suc k) =
    let rest = again links u (v ∷ vs) closed k in
    let on = path_on links u u (v ∷ vs) rest.0 closed.0 closed.1 rest.1 in
    ((v ∷ vs) ++ rest.0, on.0, on.1 ∙ rest.2, omega (arith, rest.3, length-append (v ∷ vs) rest.0))

pub first_part : (links : List (ℕ × ℕ)) (k u : ℕ) (ws : List ℕ) → IsPath links u ws → k ≤ length ws → PathOf links k u
first_part links zero u ws p l = ([], tt, refl)
first_part links (suc k) u [] p l = absurd (omega (arith, l))
first_part links (suc k) u (w ∷ ws) p l =
    let rest = first_part links k w ws p.1 (omega (arith, l)) in (w ∷ rest.0, (p.0, rest.1), omega (arith, rest.2))

pub closed_begins : (n : ℕ) (links : List (ℕ × ℕ)) (u : ℕ) (vs : List ℕ) → AreBelow n links → IsClosedWalk links u vs
    → u < n
closed_begins n links u [] below closed = absurd closed
closed_begins n links u (v ∷ vs) below closed = (below_of n links u v below closed.0.0).0

-- links among n nodes contain no cycle, or one of at most n steps
pub acyclic_or_cycle : (n : ℕ) (links : List (ℕ × ℕ)) → AreBelow n links → IsAcyclic links ⊎ ShortCycle links n
acyclic_or_cycle n links below = ⊎_elim
    (λ long. ⊎_elim
    (λ distinct. absurd (omega (
      arith,
      distinct_length n (long.0 ∷ long.2.0) distinct (path_in_range n links below long.0 long.2.0 long.1 long.2.1),
      long.2.2,
    )))
    (λ c. inr (c.0, c.1, c.2, omega (arith, c.3, long.2.2)))
    (distinct_or_cycle links long.0 long.2.0 long.2.1))
    (λ none. inl (λ u vs closed.
    let round = again links u vs closed n in
    none u (closed_begins n links u vs below closed) (first_part links n u round.0 round.1 round.3)))
    (cases_below (PathOf links n) (path_or_not links n) n)

-- each link is in range, or one is not
pub below_or_past : (n : ℕ) (links : List (ℕ × ℕ))
    → AreBelow n links ⊎ ((x : ℕ) × (n ≤ x) × Any (λ (l : ℕ × ℕ). (l.0 ≡ x) ⊎ (l.1 ≡ x)) links)
below_or_past n links = ⊎_elim
    (λ s. let l = s.0 in ⊎_elim (λ a. inr (l.0, a, (s.1.0, l, s.1.1, s.1.2, inl refl))) (λ b. inr (
      l.1,
      b,
      (s.1.0, l, s.1.1, s.1.2, inr refl),
    )) s.2)
    (λ none. inl (All-from_Contains (λ l. (l.0 < n) × (l.1 < n)) links (λ l h. (
      ⊎_elim (λ a. a) (λ a. absurd (none l h (inl a))) (cases_lt l.0 n),
      ⊎_elim (λ b. b) (λ b. absurd (none l h (inr b))) (cases_lt l.1 n),
    ))))
    (cases_some (λ (l : ℕ × ℕ). (n ≤ l.0) ⊎ (n ≤ l.1)) (λ l. past l.0 l.1) links)
  where
    past : (u v : ℕ) → ((n ≤ u) ⊎ (n ≤ v)) ⊎ ¬ ((n ≤ u) ⊎ (n ≤ v))
    past u v = ⊎_elim
        (λ a. ⊎_elim (λ b. inr (λ e. ⊎_elim (λ p. omega (arith, p, a)) (λ p. omega (arith, p, b)) e))
        (λ b. inl (inr b)) (cases_lt v n))
        (λ a. inl (inl a))
        (cases_lt u n)

-- no link joins a node with itself, or one does
pub self_or_none : (links : List (ℕ × ℕ)) → HasNoSelfLink links ⊎ ((u : ℕ) × Contains links (u, u))
self_or_none links = ⊎_elim
    (λ s. let l = s.0 in inr (l.0, subst (λ (z : ℕ). Contains links (l.0, z)) (sym s.2) s.1))
    (λ none. inl (All-from_Contains (λ l. ¬ (l.0 ≡ l.1)) links none))
    (cases_some (λ (l : ℕ × ℕ). l.0 ≡ l.1) (λ l. cases_eq l.0 l.1) links)

at_least_one : (links : List (ℕ × ℕ)) (l : ℕ × ℕ) → Contains links l → 1 ≤ count_by (is_between l.0 l.1) links
at_least_one links l h =
    one_passes (is_between l.0 l.1) links h.0 l h.1 (ap (is_between l.0 l.1) h.2 ∙ is_between_itself l)

-- no two links join the same nodes, or some do
pub single_or_twice : (links : List (ℕ × ℕ))
    → AreSingle links ⊎ ((u : ℕ) × (v : ℕ) × (2 ≤ count_by (is_between u v) links))
single_or_twice links = ⊎_elim
    (λ s. inr (s.0.0, s.0.1, s.2))
    (λ none. inl (All-from_Contains (λ l. count_by (is_between l.0 l.1) links ≡ 1) links (λ l h.
    ⊎_elim (λ few. omega (arith, few, at_least_one links l h)) (λ many. absurd (none l h many))
    (cases_lt (count_by (is_between l.0 l.1) links) 2))))
    (cases_some (λ (l : ℕ × ℕ). 2 ≤ count_by (is_between l.0 l.1) links)
    (λ l. ⊎_elim (λ few. inr (λ many. omega (arith, few, many))) inl
    (cases_lt (count_by (is_between l.0 l.1) links) 2)) links)

-- a `Vec` with these items, which holds the evidence of a cycle
pub vec_with : (items : List ℕ) → length items < 2 ^ 63 → (v : Vec ℕ Global) × (v.items ≡ items)
vec_with items few = (
  record {
    ptr = null_ptr;
    len = length items;
    cap = length items;
    alloc =
        record { memory = record { seal = tt } };
    items = items;
    ok = (refl, omega arith);
    small = few;
  },
  refl,
)

module _ (n : ℕ) (links : List (ℕ × ℕ)) (limits : IsWithinLimits n links) (some : 0 < n) (below : AreBelow n links)
    (no_self : HasNoSelfLink links) (single : AreSingle links) where
  cycle_stands : ShortCycle links n → (fault : NetFault) × IsFirstFault n links fault
  cycle_stands c =
      let few : length (c.0 ∷ c.1) < 2 ^ 63 = omega (arith, c.3, limits.nodes_few) in
      let walk = vec_with (c.0 ∷ c.1) few in (
        Cycle walk.0,
        (limits, record { some = some; below = below }, no_self, single, subst (IsCycle links) (sym walk.1) c.2),
      )

  single_or_fault : IsFaultless n links ⊎ ((fault : NetFault) × IsFirstFault n links fault)
  single_or_fault = ⊎_elim
      (λ acyclic. inl (record {
        limits = limits;
        some = some;
        is_net = record { in_range = below; no_self = no_self; single = single; acyclic = acyclic };
      }))
      (λ c. inr (cycle_stands c))
      (acyclic_or_cycle n links below)

module _ (n : ℕ) (links : List (ℕ × ℕ)) (limits : IsWithinLimits n links) (some : 0
    < n) (below : AreBelow n links) where
  range_or_fault : IsFaultless n links ⊎ ((fault : NetFault) × IsFirstFault n links fault)
  range_or_fault = ⊎_elim
      (λ no_self. ⊎_elim
      (λ single. single_or_fault n links limits some below no_self single)
      (λ t. inr (Twice t.0 t.1, (limits, record { some = some; below = below }, no_self, t.2)))
      (single_or_twice links))
      (λ s. inr (SelfLink s.0, (limits, record { some = some; below = below }, s.1)))
      (self_or_none links)

-- links have no fault, or a first fault
pub faultless_or_fault : (n : ℕ) (links : List (ℕ × ℕ))
    → IsFaultless n links ⊎ ((fault : NetFault) × IsFirstFault n links fault)
faultless_or_fault n links = ⊎_elim
    (λ many. inr (TooMany, inl many))
    (λ nodes. ⊎_elim
    (λ many. inr (TooMany, inr many))
    (λ few. within (record { nodes_few = nodes; links_few = few }))
    (cases_lt most_links (length links)))
    (cases_lt most_nodes n)
  where
    within : IsWithinLimits n links → IsFaultless n links ⊎ ((fault : NetFault) × IsFirstFault n links fault)
    within limits = ⊎_elim
        (λ some. ⊎_elim (range_or_fault n links limits some) (λ p. inr (Range p.0, (limits, inr (some, p.1, p.2))))
        (below_or_past n links))
        (λ none. inr (Range 0, (limits, inl (omega (arith, none), refl))))
        (cases_lt 0 n)

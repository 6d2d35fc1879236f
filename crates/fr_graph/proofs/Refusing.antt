-- Links without a fault are refused only for missing memory.
use Rattle.std.proofs.Common.{◌≢◌, Contains, List, [], ap, arith, inl, inr, refl, sym, ℕ, ◌<◌, ◌∙◌, ◌∷◌, ◌≡◌}
use Rattle.fr_graph.proofs.Linking.{not_twice}
use Rattle.std.proofs.Common.{subst}
use Rattle.std.proofs.lemmas.Bool.{cases_lt}
use Rattle.fr_graph.specs.Faults.{IsInRange, IsFaultless, IsTooLarge, IsFirstFault, IsOutOfRange}
pub use Rattle.fr_graph.specs.Faults.{fault_place}
use Rattle.fr_graph.specs.Limits.{IsWithinLimits}
use Rattle.fr_graph.specs.Links.{AreBelow, AreSingle, HasNoSelfLink, IsAcyclic, IsCycle}
use Rattle.fr_graph.specs.declared.fault.NetFault.{NetFault}
use Rattle.fr_graph.specs.declared.fault.NetFault.TheVariants.{Cycle, Memory, NoLink, Range, SelfLink, TooMany, Twice}

-- links without a fault are refused only for missing memory
pub no_self_link : (links : List (ℕ × ℕ)) (u : ℕ) → HasNoSelfLink links → ¬ Contains links (u, u)
no_self_link links u clear h =
    clear h.0 (u, u) h.1 (ap (λ (l : ℕ × ℕ). l.0) h.2 ∙ sym (ap (λ (l : ℕ × ℕ). l.1) h.2))

pub no_cycle_stands : (links : List (ℕ × ℕ)) (walk : List ℕ) → IsAcyclic links → ¬ IsCycle links walk
no_cycle_stands links [] a h = h
no_cycle_stands links (u ∷ vs) a h = a u vs h

pub range_stands : (n : ℕ) (links : List (ℕ × ℕ)) (x : ℕ) → 0 < n → AreBelow n links → ¬ IsOutOfRange n links x
range_stands n links x some below (inl t) = omega arith
range_stands n links x some below (inr t) =
    let any = t.2 in
    let l = below any.0 any.1 any.2 in
    let e0 = ap (λ (y : ℕ × ℕ). y.0) any.3 in
    let e1 = ap (λ (y : ℕ × ℕ). y.1) any.3 in
    elim any.4 [ inl a ↦ omega (arith, l.0, e0, a, t.1) | inr b ↦ omega (arith, l.1, e1, b, t.1) ]

pub not_too_large : (n : ℕ) (links : List (ℕ × ℕ)) → IsWithinLimits n links → ¬ IsTooLarge n links
not_too_large n links limits (inl h) = omega (arith, limits.nodes_few, h)
not_too_large n links limits (inr h) = omega (arith, limits.links_few, h)

-- a refusal of links without a fault
pub only_memory : (n : ℕ) (links : List (ℕ × ℕ)) (fault : NetFault) → IsFaultless n links
    → (fault ≢ Memory → IsFirstFault n links fault) → fault ≡ Memory
only_memory n links TooMany f h = absurd (not_too_large n links f.limits (h (λ e. cc)))
only_memory n links (Range x) f h = absurd (range_stands n links x f.some f.is_net.in_range (h (λ e. cc)).1)
only_memory n links (SelfLink u) f h = absurd (no_self_link links u f.is_net.no_self (h (λ e. cc)).2)
only_memory n links (Twice u v) f h = absurd (omega (arith, (h (λ e. cc)).3, not_twice links u v f.is_net.single))
only_memory n links (Cycle walk) f h = absurd (no_cycle_stands links walk.items f.is_net.acyclic (h (λ e. cc)).4)
only_memory n links NoLink f h = absurd (h (λ e. cc))
only_memory n links Memory f h = refl

-- what a later fault implies about the tests before it
limits_passed : (n : ℕ) (links : List (ℕ × ℕ)) (g : NetFault) → 0 < fault_place g → IsFirstFault n links g
    → IsWithinLimits n links
limits_passed n links TooMany l h = absurd (omega arith)
limits_passed n links (Range x) l h = h.0
limits_passed n links (SelfLink u) l h = h.0
limits_passed n links (Twice u v) l h = h.0
limits_passed n links (Cycle walk) l h = h.0
limits_passed n links NoLink l h = absurd h
limits_passed n links Memory l h = absurd h

range_passed : (n : ℕ) (links : List (ℕ × ℕ)) (g : NetFault) → 1 < fault_place g → IsFirstFault n links g
    → IsInRange n links
range_passed n links TooMany l h = absurd (omega arith)
range_passed n links (Range x) l h = absurd (omega arith)
range_passed n links (SelfLink u) l h = h.1
range_passed n links (Twice u v) l h = h.1
range_passed n links (Cycle walk) l h = h.1
range_passed n links NoLink l h = absurd h
range_passed n links Memory l h = absurd h

self_passed : (n : ℕ) (links : List (ℕ × ℕ)) (g : NetFault) → 2 < fault_place g → IsFirstFault n links g
    → HasNoSelfLink links
self_passed n links TooMany l h = absurd (omega arith)
self_passed n links (Range x) l h = absurd (omega arith)
self_passed n links (SelfLink u) l h = absurd (omega arith)
self_passed n links (Twice u v) l h = h.2
self_passed n links (Cycle walk) l h = h.2
self_passed n links NoLink l h = absurd h
self_passed n links Memory l h = absurd h

single_passed : (n : ℕ) (links : List (ℕ × ℕ)) (g : NetFault) → 3 < fault_place g → IsFirstFault n links g
    → AreSingle links
single_passed n links TooMany l h = absurd (omega arith)
single_passed n links (Range x) l h = absurd (omega arith)
single_passed n links (SelfLink u) l h = absurd (omega arith)
single_passed n links (Twice u v) l h = absurd (omega arith)
single_passed n links (Cycle walk) l h = h.3
single_passed n links NoLink l h = absurd h
single_passed n links Memory l h = absurd h

none_follows : (n : ℕ) (links : List (ℕ × ℕ)) (f g : NetFault) → fault_place f < fault_place g → IsFirstFault n links f
    → ¬ IsFirstFault n links g
none_follows n links TooMany g l hf hg = not_too_large n links (limits_passed n links g l hg) hf
none_follows n links (Range x) g l hf hg =
    let r = range_passed n links g l hg in range_stands n links x r.some r.below hf.1
none_follows n links (SelfLink u) g l hf hg = no_self_link links u (self_passed n links g l hg) hf.2
none_follows n links (Twice u v) g l hf hg = omega (arith, hf.3, not_twice links u v (single_passed n links g l hg))
none_follows n links (Cycle walk) TooMany l hf hg = omega arith
none_follows n links (Cycle walk) (Range x) l hf hg = omega arith
none_follows n links (Cycle walk) (SelfLink u) l hf hg = omega arith
none_follows n links (Cycle walk) (Twice u v) l hf hg = omega arith
none_follows n links (Cycle walk) (Cycle other) l hf hg = omega arith
none_follows n links (Cycle walk) NoLink l hf hg = hg
none_follows n links (Cycle walk) Memory l hf hg = hg
none_follows n links NoLink g l hf hg = hf
none_follows n links Memory g l hf hg = hf

-- two first faults are of one kind
pub first_fault_place : (n : ℕ) (links : List (ℕ × ℕ)) (f g : NetFault) → IsFirstFault n links f
    → IsFirstFault n links g → fault_place f ≡ fault_place g
first_fault_place n links f g hf hg =
    elim (cases_lt (fault_place f) (fault_place g)) [
      | inl l ↦ absurd (none_follows n links f g l hf hg)
      | inr ge ↦ elim (cases_lt (fault_place g) (fault_place f)) [
        | inl l ↦ absurd (none_follows n links g f l hg hf)
        | inr le ↦ omega arith
      ]
    ]

-- links without a fault have no first fault
pub no_first_fault : (n : ℕ) (links : List (ℕ × ℕ)) (f : NetFault) → IsFaultless n links → ¬ IsFirstFault n links f
no_first_fault n links f clear h = subst (IsFirstFault n links) (only_memory n links f clear (λ _. h)) h

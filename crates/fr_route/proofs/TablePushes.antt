-- The pushes between two tables: there are some or a fault, never both, and the tables determine them.
use Rattle.std.proofs.Common.{List, None, Option, Some, [], arith, get_or, inl, inr, length, length-append, max, refl}
use Rattle.std.proofs.Common.{replicate, subst, sym, ℕ, ◌++◌, ◌-◌, ◌<◌}
use Rattle.std.proofs.Common.{◌∙◌, ◌∷◌, ◌≡◌, ◌≤◌, ◌⊎◌}
use Rattle.std.proofs.lemmas.Bool.{cases_lt}
use Rattle.std.proofs.lemmas.List.{length-replicate}
use Rattle.std.proofs.lemmas.Option.{slice_get_within}
use Rattle.fr_core.proofs.Searching.{cases_below}
use Rattle.fr_graph.specs.Limits.{most_nodes}
use Rattle.fr_requests.specs.Requests.{PlainRequest, add_link, ask, ask_node, cut_link, join_nodes, make_edits}
use Rattle.fr_requests.specs.Requests.{move_dest, new_network, order_pushes, push_ways, walk_from}
use Rattle.fr_route.specs.Pushing.{AreAsked, AreTablePushes, IsFaultFrom, IsPushesRefused, IsTablesFault, LeadFrom}
use Rattle.fr_route.specs.Pushing.{LeadTo, changes_of, padded}
use Rattle.fr_route.specs.Routes.{AreHops}
use Rattle.fr_route.specs.States.{State}
use Rattle.fr_route.proofs.LoopWalks.{loop_or_free, lowest_unique}
use Rattle.fr_tables.specs.Tables.{IsFirstOutside, IsInRange, SendsOn}
use Rattle.fr_tables.specs.declared.hop.Hop.{Hop}
use Rattle.fr_tables.specs.declared.hop.Hop.TheVariants.{CutOff, To}
use Rattle.fr_tables.proofs.Existing.{order_exists}
use Rattle.fr_tables.proofs.Orders.{order_unique}
use Rattle.fr_tables.proofs.Walks.{cases_sends, sends_one}

-- Each hop names a node, or there is a first that does not

abbrev IsOutside : List Hop → ℕ → Type 0
IsOutside table x = (y : ℕ) × SendsOn table x y × (length table ≤ y)

outside_or_not : (table : List Hop) (x : ℕ) → IsOutside table x ⊎ ¬ IsOutside table x
outside_or_not table x = elim (cases_sends table x) [
  | inr none ↦ inr (λ out. none out.0 out.1)
  | inl sent ↦ elim (cases_lt sent.0 (length table)) [
    | inr past ↦ inl (sent.0, sent.1, past)
    | inl low ↦ inr (λ out. let same = sends_one table x sent.0 out.0 sent.1 out.1 in omega (arith, same, low, out.2))
  ]
]

range_or_outside : (table : List Hop) → ((y : ℕ) × IsFirstOutside table y) ⊎ IsInRange table
range_or_outside table = elim (cases_below (IsOutside table) (outside_or_not table) (length table)) [
  | inl (x, low, out, least) ↦ inl (
    out.0,
    record {
      at = x;
      sends = out.1;
      outside = out.2;
      first = λ w z before sends. inside w z sends (λ p. let l = least w p in omega (arith, l, before));
    },
  )
  | inr none ↦ inr (λ x y sends. inside x y sends (none x (slice_get_within table x (To y) sends)))
]
  where
    inside : (w z : ℕ) → SendsOn table w z → ¬ IsOutside table w → z < length table
    inside w z sends not = elim (cases_lt z (length table)) [ inl low ↦ low | inr past ↦ absurd (not (z, sends, past)) ]

outside_unique : (table : List Hop) (y z : ℕ) → IsFirstOutside table y → IsFirstOutside table z → y ≡ z
outside_unique table y z a b =
    let same : a.at ≡ b.at = omega (arith, not_before y z a b, not_before z y b a) in
    sends_one table b.at y z (subst (λ (x : ℕ). SendsOn table x y) same a.sends) b.sends
  where
    not_before : (y z : ℕ) (a : IsFirstOutside table y) (b : IsFirstOutside table z) → b.at ≤ a.at
    not_before y z a b = elim (cases_lt a.at b.at) [
      | inl before ↦ let low = b.first a.at y before a.sends in let out = a.outside in absurd (omega (arith, low, out))
      | inr le ↦ le
    ]

no_outside : (table : List Hop) (y : ℕ) → IsFirstOutside table y → ¬ IsInRange table
no_outside table y out range = let low = range out.at y out.sends in let past = out.outside in omega (arith, low, past)

-- Two tables of one length

abbrev AreOutside : List Hop → List Hop → ℕ → Type 0
AreOutside old new x = IsFirstOutside old x ⊎ (IsInRange old × IsFirstOutside new x)

some_outside_unique : (old new : List Hop) (y z : ℕ) → AreOutside old new y → AreOutside old new z → y ≡ z
some_outside_unique old new y z (inl a) (inl b) = outside_unique old y z a b
some_outside_unique old new y z (inl a) (inr b) = absurd (no_outside old y a b.0)
some_outside_unique old new y z (inr a) (inl b) = absurd (no_outside old z b a.0)
some_outside_unique old new y z (inr a) (inr b) = outside_unique new y z a.1 b.1

some_outside : (old new : List Hop) (y : ℕ) → AreOutside old new y → IsInRange old → ¬ IsInRange new
some_outside old new y (inl a) range too = no_outside old y a range
some_outside old new y (inr a) range too = no_outside new y a.1 too

tables_unique : (old new : List Hop) (j k : ℕ) (a b : List ℕ) → IsTablesFault old new j a → IsTablesFault old new k b
    → (j ≡ k) × (a ≡ b)
tables_unique old new j k a b (inl h) (inl g) =
    let same = some_outside_unique old new h.0 g.0 h.1 g.1 in (h.2 ∙ sym g.2, h.3 ∙ ((λ i. same i ∷ []) ∙ sym g.3))
tables_unique old new j k a b (inl h) (inr g) = absurd (some_outside old new h.0 h.1 g.0 g.1)
tables_unique old new j k a b (inr h) (inl g) = absurd (some_outside old new g.0 g.1 h.0 h.1)
tables_unique old new j k a b (inr (r, s, (loop, low, is), e)) (inr (t, u, (other, lower, too), f)) =
    let same = lowest_unique new loop other low lower in
    (e ∙ sym f, is ∙ ((λ i. same i ++ get_or (same i) 0 0 ∷ []) ∙ sym too))

lead_unique : (old new : List Hop) (a b : List (ℕ × Hop)) → LeadTo old new a → LeadTo old new b → a ≡ b
lead_unique old new a b h g =
    let same = order_unique old new h.0 g.0 h.1.is_order g.1.is_order in
    h.2 ∙ ((λ i. changes_of new (same i)) ∙ sym g.2)

lead_no_fault : (old new : List Hop) (a : List (ℕ × Hop)) (k : ℕ) (b : List ℕ) → LeadTo old new a
    → ¬ IsTablesFault old new k b
lead_no_fault old new a k b h (inl g) = some_outside old new g.0 g.1 h.1.tables.old_range h.1.tables.new_range
lead_no_fault old new a k b h (inr g) = h.1.loop_free g.2.0 g.2.1.is_loop

lead_or_fault : (old new : List Hop) → length old ≡ length new → length new ≤ most_nodes
    → ((a : List (ℕ × Hop)) × LeadTo old new a) ⊎ ((k : ℕ) × (b : List ℕ) × IsTablesFault old new k b)
lead_or_fault old new same few = elim (range_or_outside old) [
  | inl out ↦ inr (4, out.0 ∷ [], inl (out.0, inl out.1, refl, refl))
  | inr old_range ↦ elim (range_or_outside new) [
    | inl out ↦ inr (4, out.0 ∷ [], inl (out.0, inr (old_range, out.1), refl, refl))
    | inr new_range ↦ elim (loop_or_free new new_range) [
      | inl loop ↦ inr (7, loop.0 ++ get_or loop.0 0 0 ∷ [], inr (old_range, new_range, (loop.0, loop.1, refl), refl))
      | inr free ↦
          let order = order_exists old new same new_range free in
          inl (
            changes_of new order.0,
            (
              order.0,
              record {
                tables =
                    record {
                      one_length = record { same = same; few = omega (arith, few) };
                      old_range = old_range;
                      new_range = new_range;
                    };
                loop_free = free;
                is_order = order.1;
              },
              refl,
            ),
          )
    ]
  ]
]

-- From a table of any length

pub length-padded : (n : ℕ) (table : List Hop) → length table ≤ n → length (padded n table) ≡ n
length-padded n table le =
    omega (
      arith,
      length-append table (replicate (n - length table) CutOff),
      length-replicate (n - length table) CutOff,
      le,
    )

from_unique : (table hops : List Hop) (a b : List (ℕ × Hop)) → LeadFrom table hops a → LeadFrom table hops b → a ≡ b
from_unique table hops a b h g = lead_unique (padded (length hops) table) hops a b h.2 g.2

fault_unique : (table hops : List Hop) (j k : ℕ) (a b : List ℕ) → IsFaultFrom table hops j a
    → IsFaultFrom table hops k b → (j ≡ k) × (a ≡ b)
fault_unique table hops j k a b (inl h) (inl g) = (h.1 ∙ sym g.1, h.2 ∙ sym g.2)
fault_unique table hops j k a b (inl h) (inr (inl g)) = absurd (omega (arith, h.0, g.0))
fault_unique table hops j k a b (inl h) (inr (inr g)) = absurd (omega (arith, h.0, g.0))
fault_unique table hops j k a b (inr (inl h)) (inl g) = absurd (omega (arith, h.0, g.0))
fault_unique table hops j k a b (inr (inl h)) (inr (inl g)) = (h.2 ∙ sym g.2, h.3 ∙ sym g.3)
fault_unique table hops j k a b (inr (inl h)) (inr (inr g)) = absurd (omega (arith, h.1, g.1))
fault_unique table hops j k a b (inr (inr h)) (inl g) = absurd (omega (arith, h.0, g.0))
fault_unique table hops j k a b (inr (inr h)) (inr (inl g)) = absurd (omega (arith, h.1, g.1))
fault_unique table hops j k a b (inr (inr h)) (inr (inr g)) =
    tables_unique (padded (length hops) table) hops j k a b h.2 g.2

from_no_fault : (table hops : List Hop) (a : List (ℕ × Hop)) (k : ℕ) (b : List ℕ) → LeadFrom table hops a
    → ¬ IsFaultFrom table hops k b
from_no_fault table hops a k b h (inl g) = omega (arith, h.0, g.0)
from_no_fault table hops a k b h (inr (inl g)) = omega (arith, h.1, g.1)
from_no_fault table hops a k b h (inr (inr g)) = lead_no_fault (padded (length hops) table) hops a k b h.2 g.2

pub from_or_fault : (table hops : List Hop)
    → ((a : List (ℕ × Hop)) × LeadFrom table hops a) ⊎ ((k : ℕ) × (b : List ℕ) × IsFaultFrom table hops k b)
from_or_fault table hops = elim (cases_lt most_nodes (max (length hops) (length table))) [
  | inl many ↦ inr (9, [], inl (many, refl, refl))
  | inr few ↦ elim (cases_lt (length hops) (length table)) [
    | inl longer ↦ inr (4, length hops ∷ [], inr (inl (few, longer, refl, refl)))
    | inr fits ↦ elim (lead_or_fault (padded (length hops) table) hops (length-padded (length hops) table fits) (omega (
      arith,
      few,
    ))) [
      | inl lead ↦ inl (lead.0, (few, fits, lead.1))
      | inr fault ↦ inr (fault.0, fault.1, inr (inr (few, fits, fault.2)))
    ]
  ]
]

-- In a state

module _ (hops_unique : (s : State) (n : ℕ) (a b : List Hop) → AreHops s n a → AreHops s n b → a ≡ b) where
  pub pushes_refusal_unique : (s : Option State) (table : List Hop) (wanted : Option (List Hop)) (j k : ℕ)
      (a b : List ℕ)
      → IsPushesRefused s table wanted j a → IsPushesRefused s table wanted k b → (j ≡ k) × (a ≡ b)
  pushes_refusal_unique s table (Some new) j k a b h g =
      fault_unique table (padded (max (length table) (length new)) new) j k a b h g
  pushes_refusal_unique None table None j k a b h g = (h.0 ∙ sym g.0, h.1 ∙ sym g.1)
  pushes_refusal_unique (Some s) table None j k a b (hops, are, h) (too, same, g) =
      fault_unique table too j k a b
      (subst (λ (t : List Hop). IsFaultFrom table t j a) (hops_unique s s.nodes hops too are same) h) g

  pushes_one : (s : Option State) (table : List Hop) (wanted : Option (List Hop)) (a b : List (ℕ × Hop))
      → AreTablePushes s table wanted a → AreTablePushes s table wanted b → a ≡ b
  pushes_one s table (Some new) a b h g = from_unique table (padded (max (length table) (length new)) new) a b h g
  pushes_one None table None a b h g = absurd h
  pushes_one (Some s) table None a b (hops, are, h) (too, same, g) =
      from_unique table too a b
      (subst (λ (t : List Hop). LeadFrom table t a) (hops_unique s s.nodes hops too are same) h) g

  pub pushes_not_refused : (s : Option State) (table : List Hop) (wanted : Option (List Hop)) (a : List (ℕ
      × Hop)) (k : ℕ) (b : List ℕ)
      → AreTablePushes s table wanted a → ¬ IsPushesRefused s table wanted k b
  pushes_not_refused s table (Some new) a k b h g =
      from_no_fault table (padded (max (length table) (length new)) new) a k b h g
  pushes_not_refused None table None a k b h g = h
  pushes_not_refused (Some s) table None a k b (hops, are, h) (too, same, g) =
      from_no_fault table too a k b
      (subst (λ (t : List Hop). LeadFrom table t a) (hops_unique s s.nodes hops too are same) h) g

  pub asked_unique : (s : Option State) (r : PlainRequest) (a b : List (ℕ × Hop)) → AreAsked s r a → AreAsked s r b
      → a ≡ b
  asked_unique s (new_network n d links) a b h g = absurd h
  asked_unique s (cut_link u v) a b h g = absurd h
  asked_unique s (add_link u v) a b h g = absurd h
  asked_unique s (join_nodes u v) a b h g = absurd h
  asked_unique s (make_edits edits) a b h g = absurd h
  asked_unique s (move_dest d) a b h g = absurd h
  asked_unique s (walk_from x) a b h g = absurd h
  asked_unique s (ask q) a b h g = absurd h
  asked_unique s (ask_node q x) a b h g = absurd h
  asked_unique s (push_ways table) a b h g = absurd h
  asked_unique s (order_pushes table wanted) a b h g = pushes_one s table wanted a b h g

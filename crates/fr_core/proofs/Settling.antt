-- Where no node can turn, lawful counts are settled.
use Rattle.std.proofs.Common.{List, [], ap, arith, inl, inr, length, refl, slice_index, subst, suc, sym, zero, ℕ}
use Rattle.std.proofs.Common.{⊎_elim, ◌++◌, ◌+◌, ◌<◌, ◌∙◌, ◌∷◌}
use Rattle.std.proofs.Common.{◌≡◌, ◌≤◌, ◌⊎◌}
use Rattle.std.proofs.lemmas.Bool.{cases_eq, cases_lt}
use Rattle.fr_core.proofs.Away.{Climbs, climbs_from_meets, lawful_at_most}
use Rattle.fr_core.proofs.Following.{path_short}
use Rattle.fr_core.proofs.Pigeons.{too_many_counts}
use Rattle.fr_core.proofs.Sinks.{sink_from_none_out}
use Rattle.fr_core.specs.History.{moment_of}
use Rattle.fr_core.specs.Legal.{NoneCanTurn}
use Rattle.fr_core.specs.Settled.{AreSettled, IsSettledCount}
use Rattle.fr_core.specs.Walks.{HasUndirectedWalk, IsConnected, IsUndirectedWalk}
use Rattle.fr_graph.proofs.Acyclic.{links_at_acyclic}
use Rattle.fr_graph.proofs.Giving.{ComesFrom, Points-links_at_from}
use Rattle.fr_graph.proofs.Linking.{joined_below}
use Rattle.fr_graph.proofs.Members.{cases_some}
use Rattle.fr_graph.specs.Counts.{AreLawful, links_at}
use Rattle.fr_graph.specs.Links.{IsAlone, IsNet, IsPath, Joins, Points}

pub cases_linked : (links : List (ℕ × ℕ)) (x : ℕ) → ((w : ℕ) × Joins links x w) ⊎ IsAlone links x
cases_linked links x = ⊎_elim
    (λ f. inl (⊎_elim (λ e. (f.0.1, inl (subst (λ (z : ℕ). Points links z f.0.1) e f.1)))
    (λ e. (f.0.0, inr (subst (λ (z : ℕ). Points links f.0.0 z) e f.1))) f.2))
    (λ none. inr (λ w. ⊎_elim (λ h. none (x, w) h (inl refl)) (λ h. none (w, x) h (inr refl))))
    (cases_some (λ (l : ℕ × ℕ). (l.0 ≡ x) ⊎ (l.1 ≡ x))
    (λ l. ⊎_elim (λ e. inl (inl e)) (λ n. ⊎_elim (λ e. inl (inr e)) (λ m. inr (⊎_elim n m)) (cases_eq l.1 x))
    (cases_eq l.0 x)) links)

pub cases_out : (links : List (ℕ × ℕ)) (x : ℕ) → ((y : ℕ) × Points links x y) ⊎ ((y : ℕ) → ¬ Points links x y)
cases_out links x = ⊎_elim
    (λ f. inl (f.0.1, subst (λ (z : ℕ). Points links z f.0.1) f.2 f.1))
    (λ none. inr (λ y h. none (x, y) h refl))
    (cases_some (λ (l : ℕ × ℕ). l.0 ≡ x) (λ l. cases_eq l.0 x) links)

pub walk_along : (links : List (ℕ × ℕ)) (u : ℕ) (vs : List ℕ) (k y x : ℕ) → IsUndirectedWalk links u vs k y
    → Points links y x → IsUndirectedWalk links u (vs ++ x ∷ []) (k + 1) x
walk_along links u [] k y x w h = inl (subst (λ (z : ℕ). Points links z x) w.0 h, (0, omega (arith, w.1), (refl, refl)))
walk_along links u (v ∷ vs) k y x (inl w) h =
    inl (w.0, (w.1.0 + 1, omega (arith, w.1.1), walk_along links v vs w.1.0 y x w.1.2 h))
walk_along links u (v ∷ vs) k y x (inr w) h = inr (w.0, walk_along links v vs k y x w.1 h)

pub walk_against : (links : List (ℕ × ℕ)) (u : ℕ) (vs : List ℕ) (k y x : ℕ) → IsUndirectedWalk links u vs k y
    → Points links x y → IsUndirectedWalk links u (vs ++ x ∷ []) k x
walk_against links u [] k y x w h = inr (subst (λ (z : ℕ). Points links x z) w.0 h, (refl, w.1))
walk_against links u (v ∷ vs) k y x (inl w) h = inl (w.0, (w.1.0, w.1.1, walk_against links v vs w.1.0 y x w.1.2 h))
walk_against links u (v ∷ vs) k y x (inr w) h = inr (w.0, walk_against links v vs k y x w.1 h)

-- on a walk that climbs by at most one a step each count between its ends is taken
pub walk_takes : (n : ℕ) (links : List (ℕ × ℕ)) → ((u w : ℕ) → Joins links u w → u < n) → (c : List ℕ) → Climbs links c
    → (u : ℕ) → u < n → (vs : List ℕ) (k x : ℕ) → IsUndirectedWalk links u vs k x
    → (m : ℕ) → slice_index c u ≤ m → m ≤ slice_index c x → (y : ℕ) × (y < n) × (slice_index c y ≡ m)
walk_takes n links below c climbs u in_range [] k x w m low high = (u, in_range, omega (arith, ap (slice_index c) w.0))
walk_takes n links below c climbs u in_range (v ∷ vs) k x (inl w) m low high = ⊎_elim
    (λ e. (u, in_range, e))
    (λ ne. walk_takes n links below c climbs v (below v u (inr w.0)) vs w.1.0 x w.1.2 m (omega (
      arith,
      climbs.along u v w.0,
    )) high)
    (cases_eq (slice_index c u) m)
walk_takes n links below c climbs u in_range (v ∷ vs) k x (inr w) m low high =
    walk_takes n links below c climbs v (below v u (inl w.0)) vs k x w.1 m (omega (arith, climbs.against u v w.0)) high

-- so no walk climbs from 0 to n
pub no_walk_to_n : (n : ℕ) (links : List (ℕ × ℕ)) → ((u w : ℕ) → Joins links u w → u < n) → (c : List ℕ)
    → Climbs links c
    → (d : ℕ) → d < n → slice_index c d ≡ 0 → (x : ℕ) → IsConnected links d x → slice_index c x < n
no_walk_to_n n links below c climbs d in_range start x (k, (vs, w)) = ⊎_elim (λ l. l)
    (λ high. absurd (too_many_counts n (slice_index c)
    (λ m l. walk_takes n links below c climbs d in_range vs k x w m (omega arith) (omega arith))))
    (cases_lt (slice_index c x) n)

module _ (n d : ℕ) (first : List (ℕ × ℕ)) (net : IsNet n first) (in_range : d
    < n) (c : List ℕ) (lawful : AreLawful n d first c) where
  module _ (none_left : NoneCanTurn n d (moment_of first c)) where
    out_of : (x w : ℕ) → Joins first x w → ¬ (x ≡ d) → slice_index c x < n → (y : ℕ) × Points (links_at first c) x y
    out_of x w linked apart below = ⊎_elim (λ f. f)
        (λ none. absurd (none_left x (record {
          not_destination = apart;
          below_cap = below;
          sink = sink_from_none_out first c lawful.kept x w linked none;
        })))
        (cases_out (links_at first c) x)

    reach_further : (x y : ℕ) → ComesFrom first c x y → HasUndirectedWalk first d y (slice_index c y)
        → HasUndirectedWalk first d x (slice_index c x)
    reach_further x y (inl h) (vs, w) = (
      vs ++ x ∷ [],
      walk_against first d vs (slice_index c x) y x (subst (λ (k : ℕ). IsUndirectedWalk first d vs k y) h.1 w) h.0,
    )
    reach_further x y (inr h) (vs, w) = (
      vs ++ x ∷ [],
      subst (λ (k : ℕ). IsUndirectedWalk first d (vs ++ x
          ∷ []) k x) (sym h.1) (walk_along first d vs (slice_index c y) y x w h.0),
    )

    falls : (x y : ℕ) → ComesFrom first c x y → slice_index c y ≤ slice_index c x
    falls x y (inl h) = omega (arith, h.1)
    falls x y (inr h) = omega (arith, h.1)

    linked_back : (x y : ℕ) → ComesFrom first c x y → Joins first y x
    linked_back x y (inl h) = inr h.0
    linked_back x y (inr h) = inl h.0

    follow : (k x w : ℕ) → Joins first x w → slice_index c x < n → HasUndirectedWalk first d x (slice_index c x)
        ⊎ ((vs : List ℕ) × (length vs ≡ k) × IsPath (links_at first c) x vs)
    follow zero x w linked below = inr ([], refl, tt)
    follow (suc k) x w linked below = ⊎_elim
        (λ e. inl ([], (e, ap (slice_index c) e ∙ lawful.destination)))
        (λ apart.
        let o = out_of x w linked apart below in
        let from = Points-links_at_from first c x o.0 o.1 in
        let l = falls x o.0 from in
        ⊎_elim (λ r. inl (reach_further x o.0 from r)) (λ p. inr (
          o.0
              ∷ p.0,
          ap suc p.1,
          (o.1, p.2),
        )) (follow k o.0 x (linked_back x o.0 from) (omega arith)))
        (cases_eq x d)

    reached : (x w : ℕ) → Joins first x w → slice_index c x < n → HasUndirectedWalk first d x (slice_index c x)
    reached x w linked below = ⊎_elim (λ r. r)
        (λ p. absurd (omega (
          arith,
          p.1,
          path_short (links_at first c) n (links_at_acyclic first c net.acyclic)
              (λ u v h. (joined_below n first v u net (linked_back u v (Points-links_at_from first c u v h))).0) x p.0
              (joined_below n first x w net linked).0 p.2,
        )))
        (follow n x w linked below)

    settled_count : (x : ℕ) → x < n → IsSettledCount n d first x (slice_index c x)
    settled_count x l = ⊎_elim
        (λ linked. ⊎_elim
        (λ below. inr (inl (
          λ alone. alone linked.0 linked.1,
          record { reached = reached x linked.0 linked.1 below; least = lawful_at_most n d first c lawful x },
        )))
        (λ high. inr (inr (
          λ alone. alone linked.0 linked.1,
          (λ joined. omega (
            arith,
            no_walk_to_n n first (λ x w h. (joined_below n first x w net h).0) c
                (climbs_from_meets first c lawful.kept) d in_range lawful.destination x joined,
          )),
          omega (arith, lawful.capped x),
        )))
        (cases_lt (slice_index c x) n))
        (λ alone. inl (alone, lawful.alone x alone))
        (cases_linked first x)

    pub settled_from_none : AreSettled n d first c
    settled_from_none = record { one_each = lawful.one_each; settled = settled_count }

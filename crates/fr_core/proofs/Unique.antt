-- What settled counts are: alone in being settled, lawful, and without a node that can turn.
use Rattle.std.proofs.Common.{List, [], ap, arith, inl, inr, refl, slice_index, subst, sym, ℕ, ⊎_elim, ◌++◌, ◌+◌, ◌<◌}
use Rattle.std.proofs.Common.{◌∙◌, ◌∷◌, ◌≡◌, ◌≤◌, ◌⊎◌}
use Rattle.std.proofs.lemmas.Bool.{cases_eq, cases_lt}
use Rattle.std.proofs.lemmas.List.{ext_get_or, get_or_past}
use Rattle.fr_core.proofs.Away.{Climbs, lawful_at_most}
use Rattle.fr_core.proofs.Settling.{no_walk_to_n, walk_against, walk_along}
use Rattle.fr_core.proofs.Turning.{All-from_Contains, sink_linked}
use Rattle.fr_core.specs.History.{moment_of}
use Rattle.fr_core.specs.Legal.{NoneCanTurn}
use Rattle.fr_core.specs.Settled.{AreSettled, IsSettledCount}
use Rattle.fr_core.specs.Walks.{IsConnected, IsLeastAway, IsUndirectedWalk}
use Rattle.fr_graph.proofs.Giving.{Points-links_at_same, Points-links_at_turned}
use Rattle.fr_graph.proofs.Linking.{joined_below}
use Rattle.fr_graph.specs.Counts.{AreLawful, IsKept, links_at}
use Rattle.fr_graph.specs.Links.{IsAlone, IsNet, Joins, Points}

-- what a linked node's settled count is
abbrev pub IsLinkedCount : ℕ → ℕ → List (ℕ × ℕ) → ℕ → ℕ → Type 0
IsLinkedCount n d links x k = IsLeastAway links d x k ⊎ (¬ IsConnected links d x × (k ≡ n))

pub linked_count : (n d : ℕ) (links : List (ℕ × ℕ)) (x k : ℕ) → IsSettledCount n d links x k → ¬ IsAlone links x
    → IsLinkedCount n d links x k
linked_count n d links x k (inl h) linked = absurd (linked h.0)
linked_count n d links x k (inr (inl h)) linked = inl h.1
linked_count n d links x k (inr (inr h)) linked = inr (h.1, h.2)

linked_unique : (n d : ℕ) (links : List (ℕ × ℕ)) (x k l : ℕ) → IsLinkedCount n d links x k
    → IsLinkedCount n d links x l → k ≡ l
linked_unique n d links x k l (inl h) (inl g) = omega (arith, h.least l g.reached, g.least k h.reached)
linked_unique n d links x k l (inl h) (inr g) = absurd (g.0 (k, h.reached))
linked_unique n d links x k l (inr h) (inl g) = absurd (h.0 (l, g.reached))
linked_unique n d links x k l (inr h) (inr g) = omega (arith, h.1, g.1)

pub count_unique : (n d : ℕ) (links : List (ℕ × ℕ)) (x k l : ℕ) → IsSettledCount n d links x k
    → IsSettledCount n d links x l → k ≡ l
count_unique n d links x k l (inl h) (inl g) = omega (arith, h.1, g.1)
count_unique n d links x k l (inl h) (inr (inl g)) = absurd (g.0 h.0)
count_unique n d links x k l (inl h) (inr (inr g)) = absurd (g.0 h.0)
count_unique n d links x k l (inr (inl h)) g =
    linked_unique n d links x k l (inl h.1) (linked_count n d links x l g h.0)
count_unique n d links x k l (inr (inr h)) g =
    linked_unique n d links x k l (inr (h.1, h.2)) (linked_count n d links x l g h.0)

pub settled_unique : (n d : ℕ) (links : List (ℕ × ℕ)) (b c : List ℕ) → AreSettled n d links b → AreSettled n d links c
    → b ≡ c
settled_unique n d links b c hb hc = ext_get_or 0 b c (hb.one_each ∙ sym hc.one_each)
    (λ i l. let below : i
    < n = omega (arith, hb.one_each) in count_unique n d links i (slice_index b i) (slice_index c i)
    (hb.settled i below) (hc.settled i below))

-- lawful counts are at most the settled ones
pub lawful_le_settled : (n d : ℕ) (links : List (ℕ × ℕ)) (b c : List ℕ) → AreLawful n d links b → AreSettled n d links c
    → (x : ℕ) → x < n → slice_index b x ≤ slice_index c x
lawful_le_settled n d links b c lawful settled x l = go (settled.settled x l)
  where
    go : IsSettledCount n d links x (slice_index c x) → slice_index b x ≤ slice_index c x
    go (inl h) = omega (arith, lawful.alone x h.0)
    go (inr (inl h)) = lawful_at_most n d links b lawful x (slice_index c x) h.1.reached
    go (inr (inr h)) = omega (arith, lawful.capped x, h.2)

module _ (n d : ℕ) (first : List (ℕ × ℕ)) (net : IsNet n first) (in_range : d
    < n) (c : List ℕ) (settled : AreSettled n d first c) where
  pub of_linked : (x w : ℕ) → Joins first x w → IsLinkedCount n d first x (slice_index c x)
  of_linked x w h =
      linked_count n d first x (slice_index c x) (settled.settled x (joined_below n first x w net h).0)
      (λ alone. alone w h)

  pub joined_along : (u v : ℕ) → Points first u v → IsConnected first d u → IsConnected first d v
  joined_along u v h (k, (vs, w)) = (k + 1, (vs ++ v ∷ [], walk_along first d vs k u v w h))

  pub joined_against : (u v : ℕ) → Points first v u → IsConnected first d u → IsConnected first d v
  joined_against u v h (k, (vs, w)) = (k, (vs ++ v ∷ [], walk_against first d vs k u v w h))

  climbs_along : (u v : ℕ) → Points first u v → IsLinkedCount n d first u (slice_index c u)
      → IsLinkedCount n d first v (slice_index c v) → slice_index c v ≤ slice_index c u + 1
  climbs_along u v h (inl f) (inl g) =
      g.least (slice_index c u + 1) (
        f.reached.0 ++ v ∷ [],
        walk_along first d f.reached.0 (slice_index c u) u v f.reached.1 h,
      )
  climbs_along u v h (inl f) (inr g) = absurd (g.0 (joined_along u v h (slice_index c u, f.reached)))
  climbs_along u v h (inr f) (inl g) = absurd (f.0 (joined_against v u h (slice_index c v, g.reached)))
  climbs_along u v h (inr f) (inr g) = omega (arith, f.1, g.1)

  climbs_against : (u v : ℕ) → Points first v u → IsLinkedCount n d first u (slice_index c u)
      → IsLinkedCount n d first v (slice_index c v) → slice_index c v ≤ slice_index c u
  climbs_against u v h (inl f) (inl g) =
      g.least (slice_index c u) (
        f.reached.0 ++ v ∷ [],
        walk_against first d f.reached.0 (slice_index c u) u v f.reached.1 h,
      )
  climbs_against u v h (inl f) (inr g) = absurd (g.0 (joined_against u v h (slice_index c u, f.reached)))
  climbs_against u v h (inr f) (inl g) = absurd (f.0 (joined_along v u h (slice_index c v, g.reached)))
  climbs_against u v h (inr f) (inr g) = omega (arith, f.1, g.1)

  pub settled_climbs : Climbs first c
  settled_climbs = record {
    along = λ u v h. climbs_along u v h (of_linked u v (inl h)) (of_linked v u (inr h));
    against = λ u v h. climbs_against u v h (of_linked u v (inr h)) (of_linked v u (inl h));
  }

  pub settled_destination : slice_index c d ≡ 0
  settled_destination = go (settled.settled d in_range)
    where
      go : IsSettledCount n d first d (slice_index c d) → slice_index c d ≡ 0
      go (inl h) = h.1
      go (inr (inl h)) = omega (arith, h.1.least 0 ([], (refl, refl)))
      go (inr (inr h)) = absurd (h.1 (0, ([], (refl, refl))))

  pub joined_count_below : (x : ℕ) → IsConnected first d x → slice_index c x < n
  joined_count_below x joined =
      no_walk_to_n n first (λ y w h. (joined_below n first y w net h).0) c settled_climbs d in_range
      settled_destination x joined

  settled_capped : (x : ℕ) → slice_index c x ≤ n
  settled_capped x =
      ⊎_elim (λ l. go (settled.settled x l)) (λ h. omega (arith, get_or_past c x 0 (omega (arith, settled.one_each))))
      (cases_lt x n)
    where
      go : IsSettledCount n d first x (slice_index c x) → slice_index c x ≤ n
      go (inl h) = omega (arith, h.1)
      go (inr (inl h)) = omega (arith, joined_count_below x (slice_index c x, h.1.reached))
      go (inr (inr h)) = omega (arith, h.2)

  settled_alone : (x : ℕ) → IsAlone first x → slice_index c x ≡ 0
  settled_alone x alone =
      ⊎_elim (λ l. go (settled.settled x l)) (λ h. get_or_past c x 0 (omega (arith, settled.one_each))) (cases_lt x n)
    where
      go : IsSettledCount n d first x (slice_index c x) → slice_index c x ≡ 0
      go (inl h) = h.1
      go (inr (inl h)) = absurd (h.0 alone)
      go (inr (inr h)) = absurd (h.0 alone)

  settled_meets : (u v : ℕ) → Points first u v → IsKept c (u, v)
  settled_meets u v h = ⊎_elim inl (λ ne. inr (omega (arith, settled_climbs.along u v h, settled_climbs.against v u h)))
      (cases_eq (slice_index c v) (slice_index c u))

  pub settled_lawful : AreLawful n d first c
  settled_lawful = record {
    one_each = settled.one_each;
    destination = settled_destination;
    alone = settled_alone;
    capped = settled_capped;
    kept = All-from_Contains (IsKept c) first (λ l h. settled_meets l.0 l.1 h);
  }

  -- the last step of a walk with the least away number is against a link that the counts give
  last_step : (u : ℕ) (vs : List ℕ) (k x : ℕ) → IsUndirectedWalk first u vs k x → slice_index c u + k ≤ slice_index c x
      → ¬ (u ≡ x)
      → (y : ℕ) × Points (links_at first c) x y
  last_step u [] k x w l apart = absurd (apart (sym w.0))
  last_step u (v ∷ vs) k x (inl w) l apart = ⊎_elim
      (λ e. (
        u,
        Points-links_at_turned first c x u (subst (λ (z : ℕ). Points first u z) e w.0)
            (omega (arith, w.1.1, settled_climbs.along u v w.0, ap (slice_index c) e)),
      ))
      (λ ne. last_step v vs w.1.0 x w.1.2 (omega (arith, w.1.1, settled_climbs.along u v w.0)) ne)
      (cases_eq v x)
  last_step u (v ∷ vs) k x (inr w) l apart = ⊎_elim
      (λ e. (
        u,
        Points-links_at_same first c x u (subst (λ (z : ℕ). Points first z u) e w.0)
            (omega (arith, settled_climbs.against u v w.0, ap (slice_index c) e)),
      ))
      (λ ne. last_step v vs k x w.1 (omega (arith, settled_climbs.against u v w.0)) ne)
      (cases_eq v x)

  pub settled_out : (x : ℕ) → IsLeastAway first d x (slice_index c x) → ¬ (d ≡ x)
      → (y : ℕ) × Points (links_at first c) x y
  settled_out x least apart =
      last_step d least.reached.0 (slice_index c x) x least.reached.1 (omega (arith, settled_destination)) apart

  pub none_at_settled : NoneCanTurn n d (moment_of first c)
  none_at_settled x can = let s = sink_linked first c x can.sink in go (of_linked x s.0 s.1)
    where
      go : IsLinkedCount n d first x (slice_index c x) → ⊥
      go (inl h) = let o = settled_out x h (λ e. can.not_destination (sym e)) in can.sink.1 o.0 o.1
      go (inr h) = omega (arith, h.1, can.below_cap)

  pub cap_from_not_joined : (x : ℕ) → x < n → ¬ IsAlone first x → ¬ IsConnected first d x → slice_index c x ≡ n
  cap_from_not_joined x l linked apart = ⊎_elim (λ least. absurd (apart (slice_index c x, least.reached))) (λ h. h.1)
      (linked_count n d first x (slice_index c x) (settled.settled x l) linked)

  pub not_joined_from_cap : (x : ℕ) → slice_index c x ≡ n → ¬ IsConnected first d x
  not_joined_from_cap x e joined = omega (arith, joined_count_below x joined)

-- The search by levels, step by step.
use Rattle.std.proofs.Common.{All, List, [], ap, arith, inl, inr, length, refl, slice_index, subst, sym, ℕ, ⊎_elim}
use Rattle.std.proofs.Common.{◌++◌, ◌+◌, ◌<◌, ◌∙◌, ◌∷◌, ◌≡◌, ◌≤◌}
use Rattle.std.proofs.lemmas.Bool.{cases_lt}
use Rattle.std.proofs.lemmas.List.Elements.{All-contains}
use Rattle.fr_core.proofs.Joining.{walk_linked}
use Rattle.fr_core.proofs.Reaching.{queued_more}
use Rattle.fr_core.proofs.Settling.{cases_linked, walk_against, walk_along}
use Rattle.fr_core.specs.LevelSearch.{IsLevelSearch, IsSeen}
use Rattle.fr_core.specs.Reaching.{IsNeighbour, IsQueued, IsReached, ReachesOnly}
use Rattle.fr_core.specs.Settled.{AreSettled, IsSettledCount}
use Rattle.fr_core.specs.Walks.{HasUndirectedWalk, IsUndirectedWalk}
use Rattle.fr_graph.proofs.Linking.{joined_below}
use Rattle.fr_graph.proofs.Neighbours.{in_of_row, out_of_row, row_of_in, row_of_out}
use Rattle.fr_graph.specs.Links.{IsAlone, IsNet, Joins, Points}
use Rattle.fr_graph.specs.Rows.{row}
use Rattle.fr_graph.specs.declared.first.First.TheVariants.{Inward, Outward}

module _ (n d : ℕ) (first : List (ℕ
    × ℕ)) (c q : List ℕ) (closed opened start level : ℕ) (s : IsLevelSearch n d first c q closed opened start level)
  where
    positive : 0 < n
    positive = omega (arith, s.nodes 0 s.begun)

    -- some nodes more are reached
    module _ (P : ℕ → Type 0) (e r : List ℕ) (g : ReachesOnly n P level c q e r) (leads : (x : ℕ) → P x → (x < n)
        × HasUndirectedWalk first d x level) (one_each : length e ≡ n) where
      count_kept : (i : ℕ) → i < length q → slice_index e (slice_index r i) ≡ slice_index c (slice_index q i)
      count_kept i l = ap (slice_index e) (g.kept i l) ∙ g.same (slice_index q i) (λ z. omega (arith, z, s.reached i l))

      same_queued : (w : ℕ) → IsQueued q w → slice_index e w ≡ slice_index c w
      same_queued w h = g.same w (λ z. omega (arith, z, s.reached h.0 h.1, ap (slice_index c) h.2))

      stays_queued : (w : ℕ) → IsQueued q w → IsQueued r w
      stays_queued w h = queued_more q r w g.longer g.kept h

      seen_more : (x : ℕ) → IsSeen n first c q x → IsSeen n first e r x
      seen_more x (inl h) = inl (h.0, g.same x (λ w. omega (arith, w, h.1, positive)) ∙ h.1)
      seen_more x (inr (inl h)) = ⊎_elim (λ w. inr (inl (h.0, w))) (λ w. inr (inr w)) (g.rest x h.1)
      seen_more x (inr (inr h)) = inr (inr (stays_queued x h))

      pub search_more : IsLevelSearch n d first e r closed opened start level
      search_more = record {
        one_each = one_each;
        begun = omega (arith, s.begun, g.longer);
        head = g.kept 0 s.begun ∙ s.head;
        zero = g.same d (λ z. omega (arith, z, s.zero, positive)) ∙ s.zero;
        seen = λ x l. seen_more x (s.seen x l);
        nodes =
            λ i l. ⊎_elim (λ b. omega (arith, g.kept i b, s.nodes i b))
            (λ a. (leads (slice_index r i) (g.added i a l).0).0) (cases_lt i (length q));
        walks = λ i l. ⊎_elim {C = HasUndirectedWalk first d (slice_index r i) (slice_index e (slice_index r i))}
            (λ b. subst (HasUndirectedWalk first d (slice_index r i)) (sym (count_kept i b))
            (subst (λ (z : ℕ). HasUndirectedWalk first d z (slice_index c (slice_index q i))) (sym (g.kept i b))
            (s.walks i b)))
            (λ a. subst (HasUndirectedWalk first d (slice_index r i)) (sym (g.added i a l).1)
            (leads (slice_index r i) (g.added i a l).0).1)
            (cases_lt i (length q));
        most =
            λ i l. ⊎_elim (λ b. omega (arith, count_kept i b, s.most i b)) (λ a. omega (arith, (g.added i a l).1))
            (cases_lt i (length q));
        reached = λ i l. ⊎_elim (λ b. omega (arith, count_kept i b, s.reached i b))
            (λ a. omega (arith, (g.added i a l).1, (g.added i a l).2)) (cases_lt i (length q));
        before = λ i l m. omega (arith, count_kept i (omega (arith, s.start_in)), s.before i l m);
        here = λ i l m. ⊎_elim (λ b. count_kept i b ∙ s.here i l b) (λ a. (g.added i a m).1) (cases_lt i (length q));
        against = λ i l w h.
            let b : i < length q = omega (arith, s.closed_in) in
            let p = s.against i l w (subst (λ (z : ℕ). Points first w z) (g.kept i b) h) in
            (stays_queued w p.0, omega (arith, p.1, same_queued w p.0, count_kept i b));
        along = λ i l w h.
            let b : i < length q = omega (arith, s.opened_in, s.start_in) in
            let p = s.along i l w (subst (λ (z : ℕ). Points first z w) (g.kept i b) h) in
            (stays_queued w p.0, omega (arith, p.1, same_queued w p.0, count_kept i b));
        closed_in = omega (arith, s.closed_in, g.longer);
        opened_in = s.opened_in;
        start_in = omega (arith, s.start_in, g.longer);
        few = omega (arith, g.balance, s.few);
        low = s.low;
      }

    -- a neighbour that is reached stands in the queue
    queued_neighbour : (x w : ℕ) → Joins first w x → IsSeen n first c q w → ¬ (slice_index c w ≡ n) → IsQueued q w
    queued_neighbour x w h (inl a) ne = absurd (a.0 x h)
    queued_neighbour x w h (inr (inl a)) ne = absurd (ne a.1)
    queued_neighbour x w h (inr (inr a)) ne = a

    module _ (net : IsNet n first) where
      -- the neighbours against the links of one more node are all reached
      closes : closed < length q → start ≤ closed → All (IsReached n c Inward) (row n first (slice_index q closed))
          → (w : ℕ) → Points first w (slice_index q closed)
          → IsQueued q w × (slice_index c w ≤ slice_index c (slice_index q closed))
      closes l m all w h =
          let x : ℕ = slice_index q closed in
          let ne : ¬ (slice_index c w ≡ n) =
          All-contains (IsReached n c Inward) (row n first x) (w, Inward) all (row_of_in n first x w net h) refl in
          let f = queued_neighbour x w (inl h) (s.seen w (joined_below n first w x net (inl h)).0) ne in
          (f, omega (arith, s.most f.0 f.1, ap (slice_index c) f.2, s.here closed m l))

      pub close_one : closed < length q → start ≤ closed
          → All (IsReached n c Inward) (row n first (slice_index q closed))
          → IsLevelSearch n d first c q (closed + 1) opened start level
      close_one l m all = record {
        one_each = s.one_each;
        begun = s.begun;
        head = s.head;
        zero = s.zero;
        seen = s.seen;
        nodes = s.nodes;
        walks = s.walks;
        most = s.most;
        reached = s.reached;
        before = s.before;
        here = s.here;
        along = s.along;
        opened_in = s.opened_in;
        start_in = s.start_in;
        few = s.few;
        low = s.low;
        against = λ i b w h. ⊎_elim {C = IsQueued q w × (slice_index c w ≤ slice_index c (slice_index q i))}
            (λ below. s.against i below w h)
            (λ above.
            let e : closed ≡ i = omega arith in
            let there : (v : ℕ) → Points first v (slice_index q i)
            → IsQueued q v × (slice_index c v ≤ slice_index c (slice_index q i)) =
            subst (λ (z : ℕ). (v : ℕ) → Points first v (slice_index q z) → IsQueued q v
            × (slice_index c v ≤ slice_index c (slice_index q z))) e (closes l m all) in
            there w h)
            (cases_lt i closed);
        closed_in = omega arith;
      }

      -- and so are those along its links
      opens : opened < start → All (IsReached n c Outward) (row n first (slice_index q opened))
          → (w : ℕ) → Points first (slice_index q opened) w
          → IsQueued q w × (slice_index c w ≤ slice_index c (slice_index q opened) + 1)
      opens l all w h =
          let x : ℕ = slice_index q opened in
          let ne : ¬ (slice_index c w ≡ n) =
          All-contains (IsReached n c Outward) (row n first x) (w, Outward) all (row_of_out n first x w net h) refl in
          let f = queued_neighbour x w (inr h) (s.seen w (joined_below n first w x net (inr h)).0) ne in
          (f, omega (arith, s.most f.0 f.1, ap (slice_index c) f.2, s.before opened (omega arith) l))

      pub open_one : opened < start → All (IsReached n c Outward) (row n first (slice_index q opened))
          → IsLevelSearch n d first c q closed (opened + 1) start level
      open_one l all = record {
        one_each = s.one_each;
        begun = s.begun;
        head = s.head;
        zero = s.zero;
        seen = s.seen;
        nodes = s.nodes;
        walks = s.walks;
        most = s.most;
        reached = s.reached;
        here = s.here;
        against = s.against;
        closed_in = s.closed_in;
        start_in = s.start_in;
        few = s.few;
        low = s.low;
        before = λ i b m. s.before i (omega arith) m;
        along = λ i b w h. ⊎_elim {C = IsQueued q w × (slice_index c w ≤ slice_index c (slice_index q i) + 1)}
            (λ below. s.along i below w h)
            (λ above.
            let e : opened ≡ i = omega arith in
            let there : (v : ℕ) → Points first (slice_index q i) v
            → IsQueued q v × (slice_index c v ≤ slice_index c (slice_index q i) + 1) =
            subst (λ (z : ℕ). (v : ℕ) → Points first (slice_index q z) v → IsQueued q v
            × (slice_index c v ≤ slice_index c (slice_index q z) + 1)) e (opens l all) in
            there w h)
            (cases_lt i opened);
        opened_in = omega arith;
      }

-- one node of the queue is followed
module _ (n d : ℕ) (first : List (ℕ × ℕ)) (net : IsNet n first) (c q : List ℕ) (closed opened start level : ℕ)
    (s : IsLevelSearch n d first c q closed opened start level) (e r : List ℕ) (one_each : length e ≡ n) where
  pub close_step : closed < length q → start ≤ closed
      → ReachesOnly n (IsNeighbour (row n first (slice_index q closed)) Inward) level c q e r
      → All (IsReached n e Inward) (row n first (slice_index q closed))
      → IsLevelSearch n d first e r (closed + 1) opened start level
  close_step l m g all =
      let u : ℕ = slice_index q closed in
      let leads : (x : ℕ) → IsNeighbour (row n first u) Inward x → (x < n) × HasUndirectedWalk first d x level = λ x h.
      let p : Points first x u = in_of_row n first u x h in
      let w : HasUndirectedWalk first d u level =
      subst (HasUndirectedWalk first d u) (s.here closed m l) (s.walks closed l) in
      ((joined_below n first x u net (inl p)).0, (w.0 ++ x ∷ [], walk_against first d w.0 level u x w.1 p)) in
      let t =
      search_more n d first c q closed opened start level s (IsNeighbour (row n first u) Inward) e r g leads one_each in
      close_one n d first e r closed opened start level t net (omega (arith, g.longer)) m
      (subst (λ (z : ℕ). All (IsReached n e Inward) (row n first z)) (sym (g.kept closed l)) all)

  pub open_step : opened < start
      → ReachesOnly n (IsNeighbour (row n first (slice_index q opened)) Outward) level c q e r
      → All (IsReached n e Outward) (row n first (slice_index q opened))
      → IsLevelSearch n d first e r closed (opened + 1) start level
  open_step l g all =
      let u : ℕ = slice_index q opened in
      let queued : opened < length q = omega (arith, s.start_in) in
      let leads : (x : ℕ) → IsNeighbour (row n first u) Outward x → (x < n) × HasUndirectedWalk first d x level = λ x h.
      let p : Points first u x = out_of_row n first u x h in
      let w : HasUndirectedWalk first d u (slice_index c u) = s.walks opened queued in (
        (joined_below n first x u net (inr p)).0,
        subst (HasUndirectedWalk first d x) (s.before opened (omega arith) l)
            (w.0 ++ x ∷ [], walk_along first d w.0 (slice_index c u) u x w.1 p),
      ) in
      let t =
      search_more n d first c q closed opened start level s (IsNeighbour (row n first u) Outward) e r g leads one_each
      in
      open_one n d first e r closed opened start level t net l
      (subst (λ (z : ℕ). All (IsReached n e Outward) (row n first z)) (sym (g.kept opened queued)) all)

-- from a level that is closed the next one is opened
pub next_level : (n d : ℕ) (first : List (ℕ × ℕ)) (c q : List ℕ) (start level : ℕ)
    → IsLevelSearch n d first c q (length q) start start level → start < length q
    → IsLevelSearch n d first c q (length q) start (length q) (level + 1)
next_level n d first c q start level s l = record {
  one_each = s.one_each;
  begun = s.begun;
  head = s.head;
  zero = s.zero;
  seen = s.seen;
  nodes = s.nodes;
  walks = s.walks;
  reached = s.reached;
  against = s.against;
  along = s.along;
  closed_in = s.closed_in;
  few = s.few;
  most = λ i b. omega (arith, s.most i b);
  before = λ i a b. omega (arith, s.here i a b);
  here = λ i a b. absurd (omega arith);
  opened_in = omega arith;
  start_in = omega arith;
  low = omega (arith, s.low);
}

-- where no node is left to follow, the counts are the settled ones
module _ (n d : ℕ) (first : List (ℕ × ℕ)) (c q : List ℕ) (start level : ℕ)
    (s : IsLevelSearch n d first c q start start start level) (done : length q ≤ start) where
  climb : (u : ℕ) (vs : List ℕ) (away x : ℕ) → IsUndirectedWalk first u vs away x → IsQueued q u
      → IsQueued q x × (slice_index c x ≤ slice_index c u + away)
  climb u [] away x w h = (subst (IsQueued q) (sym w.0) h, omega (arith, ap (slice_index c) w.0))
  climb u (v ∷ vs) away x (inl w) h =
      let p = s.along h.0 (omega (arith, h.1)) v (subst (λ (z : ℕ). Points first z v) (sym h.2) w.0) in
      let rest = climb v vs w.1.0 x w.1.2 p.0 in
      (rest.0, omega (arith, rest.1, p.1, ap (slice_index c) h.2, w.1.1))
  climb u (v ∷ vs) away x (inr w) h =
      let p = s.against h.0 (omega (arith, h.1)) v (subst (λ (z : ℕ). Points first v z) (sym h.2) w.0) in
      let rest = climb v vs away x w.1 p.0 in
      (rest.0, omega (arith, rest.1, p.1, ap (slice_index c) h.2))

  from_start : (vs : List ℕ) (away x : ℕ) → IsUndirectedWalk first d vs away x
      → IsQueued q x × (slice_index c x ≤ slice_index c d + away)
  from_start vs away x w = climb d vs away x w (0, s.begun, s.head)

  walk_of : (x : ℕ) → IsQueued q x → HasUndirectedWalk first d x (slice_index c x)
  walk_of x h = subst (λ (z : ℕ). HasUndirectedWalk first d z (slice_index c z)) h.2 (s.walks h.0 h.1)

  alone_zero : (x : ℕ) → IsAlone first x → IsQueued q x → slice_index c x ≡ 0
  alone_zero x alone h =
      let w = walk_of x h in
      ⊎_elim (λ e. ap (slice_index c) e
      ∙ s.zero) (λ j. absurd (alone j.0 j.1)) (walk_linked first d w.0 (slice_index c x) x w.1)

  settled_count : (x : ℕ) → IsSeen n first c q x → IsSettledCount n d first x (slice_index c x)
  settled_count x (inl h) = inl h
  settled_count x (inr (inl h)) =
      inr (inr (
        h.0,
        λ joined. (let p = (from_start joined.1.0 joined.0 x joined.1.1).0 in omega (
          arith,
          s.reached p.0 p.1,
          ap (slice_index c) p.2,
          h.1,
        )),
        h.1,
      ))
  settled_count x (inr (inr h)) = ⊎_elim {C = IsSettledCount n d first x (slice_index c x)}
      (λ linked. inr (inl (
        (λ alone. alone linked.0 linked.1),
        record {
          reached = walk_of x h;
          least = λ away walk. omega (arith, s.zero, (from_start walk.0 away x walk.1).1);
        },
      )))
      (λ alone. inl (alone, alone_zero x alone h))
      (cases_linked first x)

  pub search_ends : AreSettled n d first c
  search_ends = record { one_each = s.one_each; settled = λ x l. settled_count x (s.seen x l) }

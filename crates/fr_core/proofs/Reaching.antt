-- How a search reaches nodes: some, one more, and those of a row.
use Rattle.std.proofs.Common.{All, Contains, List, [], ap, arith, cond, eq-eqb, get_or, inl, inr, length, ne_eqb, refl}
use Rattle.std.proofs.Common.{slice_index, slice_set, subst}
use Rattle.std.proofs.Common.{sym, take, ℕ, ⊎_elim, ◌++◌, ◌+◌, ◌<◌, ◌==◌, ◌∙◌, ◌∷◌, ◌≡◌, ◌≤◌, ◌⊎◌}
use Rattle.std.proofs.lemmas.Bool.{cases_eq, cases_lt, cond-false, cond-true}
use Rattle.std.proofs.lemmas.List.{get_or-set_other, get_or-set_same, get_or_append_left, get_or_push, length_push}
use Rattle.std.proofs.lemmas.List.Elements.{All-more, Contains-get_or}
use Rattle.std.proofs.lemmas.List.Sums.{sum_by-set}
use Rattle.fr_core.specs.Reaching.{IsNeighbour, IsQueued, IsReached, ReachesOnly, unreached_count}
use Rattle.fr_graph.specs.declared.first.First.{First}
use Rattle.fr_graph.specs.declared.first.First.TheVariants.{Outward}

pub queued_more : (q r : List ℕ) (x : ℕ) → length q ≤ length r
    → ((i : ℕ) → i < length q → slice_index r i ≡ slice_index q i) → IsQueued q x → IsQueued r x
queued_more q r x longer kept h = (h.0, omega (arith, h.1), kept h.0 h.1 ∙ h.2)

pub reaches_more : (n : ℕ) (P Q : ℕ → Type 0) (level : ℕ) (c q d r e s : List ℕ)
    → ReachesOnly n P level c q d r → ReachesOnly n Q level d r e s → ((x : ℕ) → Q x → P x)
    → ReachesOnly n P level c q e s
reaches_more n P Q level c q d r e s g h within = record {
  longer = omega (arith, g.longer, h.longer);
  kept = λ i l. h.kept i (omega (arith, g.longer)) ∙ g.kept i l;
  added = λ i l m. ⊎_elim {C = P (slice_index s i) × (slice_index e (slice_index s i) ≡ level) × (level < n)}
      (λ below.
      let f = g.added i l below in
      let stays : slice_index e (slice_index r i) ≡ slice_index d (slice_index r i) =
      h.same (slice_index r i) (λ z. omega (arith, f.1, f.2, z)) in
      (subst P (sym (h.kept i below)) f.0, ap (slice_index e) (h.kept i below) ∙ stays ∙ f.1, f.2))
      (λ above. let f = h.added i above m in (within (slice_index s i) f.0, f.1, f.2))
      (cases_lt i (length r));
  same = λ x z. h.same x (λ w. z (sym (g.same x z) ∙ w)) ∙ g.same x z;
  rest = λ x z. ⊎_elim (λ w. h.rest x w) (λ w. inr (queued_more r s x h.longer h.kept w)) (g.rest x z);
  balance = h.balance ∙ g.balance;
}

-- one node is reached
module _ (n level : ℕ) (c q : List ℕ) (x : ℕ) (one_each : length c ≡ n) (in_range : x < n)
    (few : length q + unreached_count n c ≤ n) (low : level ≤ length q) (at : slice_index c x ≡ n) (P : ℕ
    → Type 0) (has : P x) where
  one_at : ◌≡◌ {A = ℕ} (cond (slice_index c x == n) 1 0) 1
  one_at = cond-true {A = ℕ} (slice_index c x == n) 1 0 (eq-eqb (slice_index c x) n at)

  one_less : (k : ℕ) → ¬ (k ≡ n) → unreached_count n (slice_set c x k) + 1 ≡ unreached_count n c
  one_less k ne = omega (
    arith,
    sum_by-set (λ (y : ℕ). cond (y == n) 1 0) c x k 0 (omega (arith, one_each)),
    one_at,
    cond-false {A = ℕ} (k == n) 1 0 (ne_eqb k n ne),
  )

  pub has_room : length q < n
  has_room = omega (arith, one_less 0 (λ e. omega (arith, in_range, e)))

  place_last : (i : ℕ) → length q ≤ i → i < length (q ++ x ∷ []) → slice_index (q ++ x ∷ []) i ≡ x
  place_last i l m = get_or_push q x 0 i (omega (arith, length_push q x))

  pub reaches_one : ReachesOnly n P level c q (slice_set c x level) (q ++ x ∷ [])
  reaches_one = record {
    longer = omega (arith, length_push q x);
    kept = λ i l. get_or_append_left q (x ∷ []) 0 i l;
    added = λ i l m. (
      subst P (sym (place_last i l m)) has,
      ap (slice_index (slice_set c x level)) (place_last i l m) ∙ get_or-set_same c x level 0 (omega (arith, one_each)),
      omega (arith, has_room),
    );
    same = λ y z. get_or-set_other c x y level 0 (λ e. z (ap (slice_index c) e ∙ at));
    rest = λ y z. ⊎_elim {C = (slice_index (slice_set c x level) y ≡ n) ⊎ IsQueued (q ++ x ∷ []) y}
        (λ e. inr (length q, omega (arith, length_push q x), get_or_push q x 0 (length q) refl ∙ sym e))
        (λ ne. inl (get_or-set_other c x y level 0 ne ∙ z))
        (cases_eq y x);
    balance = omega (arith, length_push q x, one_less level (λ e. omega (arith, e, has_room)));
  }

-- the neighbours of a row are reached one by one
module _ (n level : ℕ) (row : List (ℕ × First)) (wanted : First) (c q : List ℕ) (i : ℕ) (l : i < length row) where
  -- what holds once the entries before j are reached
  abbrev pub AreReached : ℕ → List ℕ → List ℕ → Type 0
  AreReached j d r = ReachesOnly n (IsNeighbour row wanted) level c q d r × All (IsReached n d wanted) (take j row)

  pub reached_step : (d r e s : List ℕ) → AreReached i d r
      → ReachesOnly n (λ (x : ℕ). (x ≡ (get_or row i (0, Outward)).0)
      × ((get_or row i (0, Outward)).1 ≡ wanted)) level d r e s
      → IsReached n e wanted (get_or row i (0, Outward)) → AreReached (i + 1) e s
  reached_step d r e s h g here =
      let at : ℕ × First = get_or row i (0, Outward) in
      let stands : Contains row (at.0, at.1) = Contains-get_or row i (0, Outward) l in
      let before : All (IsReached n e wanted) (take i row) = λ k x m w z.
      let out : ¬ (slice_index d (get_or (take i row) k x).0 ≡ n) = h.1 k x m w in
      out (sym (g.same (get_or (take i row) k x).0 out) ∙ z) in (
        reaches_more n (IsNeighbour row wanted) (λ (x : ℕ). (x ≡ at.0) × (at.1 ≡ wanted)) level c q d r e s h.0 g
            (λ x p. subst (λ (z : ℕ). Contains row (z, wanted)) (sym p.0) (subst (λ (b : First). Contains row (
              at.0,
              b,
            )) p.1 stands)),
        All-more (IsReached n e wanted) row i (0, Outward) l before here,
      )

-- How the search by levels starts.
use Rattle.std.proofs.Common.{List, [], ap, arith, cond, eq-eqb, inl, inr, length, ne_eqb, refl, slice_index, slice_set}
use Rattle.std.proofs.Common.{subst, sym, ℕ, ⊎_elim, ◌+◌}
use Rattle.std.proofs.Common.{◌<◌, ◌==◌, ◌∙◌, ◌∷◌, ◌≡◌, ◌≤◌}
use Rattle.std.proofs.lemmas.Bool.{cases_eq, cond-false, cond-true}
use Rattle.std.proofs.lemmas.List.{get_or-set_other, get_or-set_same, length-set}
use Rattle.std.proofs.lemmas.List.Sums.{count_by-le-length, sum_by-set}
use Rattle.fr_core.specs.LevelSearch.{IsLevelSearch, IsSeen}
use Rattle.fr_core.specs.NodeCounts.{IsMostCount}
use Rattle.fr_core.specs.Reaching.{unreached_count}
use Rattle.fr_core.specs.Walks.{HasUndirectedWalk}

module _ (n d : ℕ) (first : List (ℕ × ℕ)) (c : List ℕ) (one_each : length c ≡ n) (in_range : d < n) (cleared : (x : ℕ)
    → x < n → IsMostCount n first x (slice_index c x)) where
  abbrev counts : List ℕ
  counts = slice_set c d 0

  abbrev queue : List ℕ
  queue = d ∷ []

  zero_at : slice_index counts d ≡ 0
  zero_at = get_or-set_same c d 0 0 (omega arith)

  only : (i : ℕ) → i < length queue → slice_index queue i ≡ d
  only i l = let e : i ≡ 0 = omega arith in ap (slice_index queue) e

  count_only : (i : ℕ) → i < length queue → slice_index counts (slice_index queue i) ≡ 0
  count_only i l = ap (slice_index counts) (only i l) ∙ zero_at

  seen_other : (x : ℕ) → ¬ (x ≡ d) → IsMostCount n first x (slice_index c x) → IsSeen n first counts queue x
  seen_other x ne (inl h) = inl (h.0, get_or-set_other c d x 0 0 ne ∙ h.1)
  seen_other x ne (inr h) = inr (inl (h.0, get_or-set_other c d x 0 0 ne ∙ h.1))

  few_unreached : 1 + unreached_count n counts ≤ n
  few_unreached =
      omega (
        arith,
        sum_by-set (λ (y : ℕ). cond (y == n) 1 0) c d 0 0 (omega arith),
        sum_by-set (λ (y : ℕ). cond (y == n) 1 0) c d n 0 (omega arith),
        count_by-le-length (λ (y : ℕ). y == n) (slice_set c d n),
        length-set c d n,
        cond-true {A = ℕ} (n == n) 1 0 (eq-eqb n n refl),
        cond-false {A = ℕ} (0 == n) 1 0 (ne_eqb 0 n (λ e. omega arith)),
      )

  pub search_starts : IsLevelSearch n d first counts queue 0 0 0 0
  search_starts = record {
    one_each = length-set c d 0 ∙ one_each;
    begun = omega arith;
    head = refl;
    zero = zero_at;
    seen = λ x l. ⊎_elim {C = IsSeen n first counts queue x}
        (λ e. inr (inr (0, omega arith, sym e)))
        (λ ne. seen_other x ne (cleared x l))
        (cases_eq x d);
    nodes = λ i l. omega (arith, only i l);
    walks =
        λ i l. subst (HasUndirectedWalk first d (slice_index queue i)) (sym (count_only i l)) ([], (only i l, refl));
    most = λ i l. omega (arith, count_only i l);
    reached = λ i l. omega (arith, count_only i l);
    before = λ i a b. absurd (omega arith);
    here = λ i a b. count_only i b;
    against = λ i l. absurd (omega arith);
    along = λ i l. absurd (omega arith);
    closed_in = omega arith;
    opened_in = omega arith;
    start_in = omega arith;
    few = few_unreached;
    low = omega arith;
  }

-- one node more has the most that its count can be
pub most_counts_more : (n : ℕ) (first : List (ℕ × ℕ)) (c : List ℕ) (x v : ℕ) → x < length c → IsMostCount n first x v
    → ((y : ℕ) → y < x → IsMostCount n first y (slice_index c y)) → (y : ℕ) → y < x + 1
    → IsMostCount n first y (slice_index (slice_set c x v) y)
most_counts_more n first c x v l at below y m = ⊎_elim {C = IsMostCount n first y (slice_index (slice_set c x v) y)}
    (λ e. subst (λ (z : ℕ). IsMostCount n first z (slice_index (slice_set c x v) z)) (sym e)
    (subst (IsMostCount n first x) (sym (get_or-set_same c x v 0 l)) at))
    (λ ne. subst (IsMostCount n first y) (sym (get_or-set_other c x y v 0 ne)) (below y (omega arith)))
    (cases_eq y x)

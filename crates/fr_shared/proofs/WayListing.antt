-- Pushes that look at listed nodes only.
use Rattle.std.proofs.Common.{append-nil, Bool, Contains, List, ap, arith, cond, false, get_or, inl, inr, length, refl}
use Rattle.std.proofs.Common.{subst}
use Rattle.std.proofs.Common.{suc, sym, zero, ℕ, ⊎_elim, ◌++◌, ◌+◌, ◌-◌, ◌<◌, ◌≤◌, ◌∙◌, ◌≡◌, ◌⊎◌}
use Rattle.std.specs.List.Sorted.{IsNonDecreasing}
use Rattle.std.proofs.lemmas.Bool.{cases_Bool, cases_eq, cases_lt}
use Rattle.std.proofs.lemmas.Grind.{get_or_default_zero}
use Rattle.fr_ways.specs.Phases.{is_way, kept}
use Rattle.fr_ways.specs.Ways.{ways}
use Rattle.fr_ways.proofs.Planning.{differs_no}
use Rattle.fr_ways.proofs.Shrinking.{same_loses, way_yes}
use Rattle.std.specs.Prelude.{not}
use Rattle.fr_shared.specs.declared.view.Push.{Push}
use Rattle.fr_shared.specs.WayParts.{changes, drops, push_if, pushes_below}
use Rattle.fr_shared.specs.WayTables.{ListsChanges, WayKnowledge, last_ways}
use Rattle.fr_shared.proofs.WayPushing.{IsPushedBelow, below_more, drops_no, drops_same, grow_more, grown}
use Rattle.fr_shared.proofs.WayPushing.{kept_new, loses_none, none_pushed, now_below, shrink_more}

-- Nodes of which the test does not hold are passed over

skip_one : {old now : WayKnowledge} {p : ℕ → Bool} {f : ℕ → List ℕ} {y : ℕ} → IsPushedBelow old now p f y
    → p y ≡ false → IsPushedBelow old now p f (y + 1)
skip_one {old} {now} {p} {f} {y} done none = record {
  history = done.history ∙ ap (λ (h : List (Push (List ℕ))). record old { known = old.known ++ h })
      (sym (below_more p f y ∙ (ap (λ (b : Bool). pushes_below p f y ++ push_if b y (f y)) none
      ∙ append-nil (pushes_below p f y))));
}

module _ {old now : WayKnowledge} {p : ℕ → Bool} {f : ℕ → List ℕ} where
  skip_by : (d y x : ℕ) → x ≡ y + d → IsPushedBelow old now p f y → ((z : ℕ) → y ≤ z → z < x → p z ≡ false)
      → IsPushedBelow old now p f x
  skip_by zero y x is done none = subst (IsPushedBelow old now p f) (omega (arith, is)) done
  skip_by (suc d) y x is done none =
      let low : y + d < x = omega (arith, is) in
      let before = skip_by d y (y + d) refl done (λ z from below. none z from (omega (arith, below, low))) in
      subst (IsPushedBelow old now p f) (omega (arith, is)) (skip_one before (none (y + d) (omega arith) low))

  skip_to : (y x : ℕ) → y ≤ x → IsPushedBelow old now p f y → ((z : ℕ) → y ≤ z → z < x → p z ≡ false)
      → IsPushedBelow old now p f x
  skip_to y x low done none = skip_by (x - y) y x (omega (arith, low)) done none

-- the first i listed nodes were looked at, and so were all numbers below `to`
pub record AreSeen (old now : WayKnowledge) (p : ℕ → Bool) (f : ℕ
    → List ℕ) (nodes : List ℕ) (i : ℕ) : Type 0 where
  pub to : ℕ
  pub pushed : IsPushedBelow old now p f to
  pub in_table : to ≤ old.nodes
  pub first : (k : ℕ) → k < i → k < length nodes → get_or nodes k 0 < to
  pub rest : (k : ℕ) → i ≤ k → k < length nodes → to ≤ get_or nodes k 0 + 1

pub none_seen : (old : WayKnowledge) (p : ℕ → Bool) (f : ℕ → List ℕ) (nodes : List ℕ)
    → AreSeen old old p f nodes 0
none_seen old p f nodes = record {
  to = 0;
  pushed = none_pushed old p f;
  in_table = omega arith;
  first = λ k low inside. absurd (omega (arith, low));
  rest = λ k low inside. omega arith;
}

module _ {old now : WayKnowledge} {p : ℕ → Bool} {f : ℕ → List ℕ} {nodes : List ℕ} {i : ℕ}
    (seen : AreSeen old now p f nodes i) (sorted : IsNonDecreasing nodes)
    (quiet : (y : ℕ) → Contains nodes y ⊎ (p y ≡ false)) where
  -- a number between two listed nodes is not listed
  unlisted : (y : ℕ) → seen.to ≤ y → (i < length nodes → y < get_or nodes i 0) → ¬ Contains nodes y
  unlisted y from before (k, inside, is) =
      let here : get_or nodes k 0 ≡ y = sym (get_or_default_zero nodes k y inside) ∙ is in
      ⊎_elim
      (λ earlier. omega (arith, seen.first k earlier inside, from, here))
      (λ later. let up = sorted i k 0 later inside in
      let low = before (omega (arith, later, inside)) in
      omega (arith, up, low, here))
      (cases_lt k i)

  not_pushed : (y : ℕ) → seen.to ≤ y → (i < length nodes → y < get_or nodes i 0) → p y ≡ false
  not_pushed y from before = ⊎_elim (λ found. absurd (unlisted y from before found)) (λ f'. f') (quiet y)

  -- one more listed node is looked at. If it was looked at before, nothing changes
  pub see_more : {after : WayKnowledge} → i < length nodes → get_or nodes i 0 < old.nodes
      → (IsPushedBelow old now p f (get_or nodes i 0) → IsPushedBelow old after p f (get_or nodes i 0 + 1))
      → (ways (last_ways now) (get_or nodes i 0)
      ≡ cond (p (get_or nodes i 0)) (f (get_or nodes i 0)) (ways (last_ways old) (get_or nodes i 0)) → after ≡ now)
      → AreSeen old after p f nodes (i + 1)
  see_more {after} inside low more again =
      let x : ℕ = get_or nodes i 0 in
      ⊎_elim
      (λ before. record {
        to = seen.to;
        pushed = subst (λ (k : WayKnowledge). IsPushedBelow old k p f seen.to) (sym (again
            (now_below seen.pushed seen.in_table x before)))
            seen.pushed;
        in_table = seen.in_table;
        first = λ k earlier in_list. ⊎_elim
            (λ e. subst (λ (j : ℕ). get_or nodes j 0 < seen.to) (sym e) before)
            (λ apart. seen.first k (omega (arith, earlier, apart)) in_list)
            (cases_eq k i);
        rest = λ k later in_list. seen.rest k (omega (arith, later)) in_list;
      })
      (λ from. record {
        to = x + 1;
        pushed = more (skip_to seen.to x from seen.pushed (λ y past below. not_pushed y past (λ _. below)));
        in_table = omega (arith, low);
        first = λ k earlier in_list. ⊎_elim
            (λ e. subst (λ (j : ℕ). get_or nodes j 0 < x + 1) (sym e) (omega arith))
            (λ apart. let was = seen.first k (omega (arith, earlier, apart)) in_list in omega (arith, was, from))
            (cases_eq k i);
        rest = λ k later in_list. let up = sorted i k 0 (omega (arith, later)) in_list in omega (arith, up);
      })
      (cases_lt x seen.to)

  -- once all listed nodes were looked at
  pub all_seen : length nodes ≤ i → IsPushedBelow old now p f old.nodes
  all_seen all = skip_to seen.to old.nodes seen.in_table seen.pushed
      (λ y past below. not_pushed y past (λ inside. absurd (omega (arith, all, inside))))

-- Both phases

module _ (nodes : List ℕ) (old new : List (List ℕ)) (lists : ListsChanges nodes old new) where
  pub drops_quiet : (emptied : Bool) (y : ℕ) → Contains nodes y ⊎ (drops emptied old new y ≡ false)
  drops_quiet emptied y = ⊎_elim (λ found. inl found)
      (λ same. inr (drops_no old new y emptied (same_loses old new y same)))
      (lists.others y)

  pub changes_quiet : (y : ℕ) → Contains nodes y ⊎ (changes old new y ≡ false)
  changes_quiet y = ⊎_elim (λ found. inl found) (λ same. inr (differs_no (ways old y) (ways new y) same))
      (lists.others y)

  -- the nodes that were listed are still all that differ
  pub still_listed : (emptied : Bool) (now : List (List ℕ))
      → ((y : ℕ) → ways now y ≡ cond (drops emptied old new y) (kept old new y) (ways old y))
      → ListsChanges nodes now new
  still_listed emptied now are = record {
    by_number = lists.by_number;
    in_table = lists.in_table;
    others = λ y. ⊎_elim (λ found. inl found)
        (λ same. inr (are y ∙ (ap (λ (b : Bool). cond b (kept old new y) (ways old y))
        (drops_no old new y emptied (same_loses old new y same)) ∙ same)))
        (lists.others y);
  }

-- a node that has shrunk does not shrink again
drops_again : (emptied : Bool) (old now new : List (List ℕ)) (x : ℕ)
    → ways now x ≡ cond (drops emptied old new x) (kept old new x) (ways old x) → drops emptied now new x ≡ false
drops_again emptied old now new x is = elim (cases_Bool (drops emptied old new x)) [
  | inl t ↦
      let keeps : ways now x ≡ kept old new x = is ∙ ap (λ (b : Bool). cond b (kept old new x) (ways old x)) t in
      drops_no now new x emptied (loses_none (λ y. not (is_way (ways new x) y)) (ways now x)
      (λ y found. ap not (way_yes (ways new x) y
      (kept_new old new x y (subst (λ (l : List ℕ). Contains l y) keeps found)))))
  | inr f ↦ drops_same emptied now old new x (is ∙ ap (λ (b : Bool). cond b (kept old new x) (ways old x)) f) ∙ f
]

-- without a push nothing changes
unpushed : {now after : WayKnowledge} {b : Bool} (x : ℕ) (list : List ℕ) → b ≡ false
    → after ≡ record now { known = now.known ++ push_if b x list } → after ≡ now
unpushed {now} {after} {b} x list none is = is
    ∙ (ap (λ (c : Bool). record now { known = now.known ++ push_if c x list }) none
    ∙ ap (λ (h : List (Push (List ℕ))). record now { known = h }) (append-nil now.known))

module _ (old now after : WayKnowledge) (new : List (List ℕ)) (nodes : List ℕ) (i : ℕ)
    (lists : ListsChanges nodes (last_ways old) new) (one_each : length new ≡ old.nodes) (inside : i
    < length nodes) where
  low : get_or nodes i 0 < old.nodes
  low = omega (arith, lists.in_table i 0 inside, one_each)

  -- one more listed node is looked at in the first phase
  pub shrink_listed : (emptied : Bool)
      → AreSeen old now (drops emptied (last_ways old) new) (kept (last_ways old) new) nodes i
      → after ≡ record now {
        known = now.known ++ push_if (drops emptied (last_ways now) new (get_or nodes i 0)) (get_or nodes i 0)
            (kept (last_ways now) new (get_or nodes i 0));
      }
      → AreSeen old after (drops emptied (last_ways old) new) (kept (last_ways old) new) nodes (i + 1)
  shrink_listed emptied seen is =
      see_more seen lists.by_number (drops_quiet nodes (last_ways old) new lists emptied) inside low
      (λ done. shrink_more old now after new (get_or nodes i 0) emptied done is)
      (λ was. unpushed (get_or nodes i 0) (kept (last_ways now) new (get_or nodes i 0))
      (drops_again emptied (last_ways old) (last_ways now) new (get_or nodes i 0) was) is)

  -- one more listed node is looked at in the second phase
  pub grow_listed : AreSeen old now (changes (last_ways old) new) (ways new) nodes i
      → after ≡ record now {
        known = now.known ++ push_if (changes (last_ways now) new (get_or nodes i 0)) (get_or nodes i 0)
            (ways new (get_or nodes i 0));
      }
      → AreSeen old after (changes (last_ways old) new) (ways new) nodes (i + 1)
  grow_listed seen is =
      see_more seen lists.by_number (changes_quiet nodes (last_ways old) new lists) inside low
      (λ done. grow_more old now after new (get_or nodes i 0) done is)
      (λ was. unpushed (get_or nodes i 0) (ways new (get_or nodes i 0))
      (differs_no (ways (last_ways now) (get_or nodes i 0)) (ways new (get_or nodes i 0))
      (grown (last_ways old) new (get_or nodes i 0) (ways (last_ways now) (get_or nodes i 0)) was)) is)

-- The numbers of neighbours that miss their bounds, and what becomes of them when a seen count rises.
use Rattle.std.proofs.Common.{Bool, List, None, Option, Some, [], ap, arith, cond, count_by, eq-eqb, eqb, false, get_or}
use Rattle.std.proofs.Common.{get_or-set_other}
use Rattle.std.proofs.Common.{get_or-set_same, inl, inr, length, length-set, ltb, ltb-false, ltb-true, ne_eqb}
use Rattle.std.proofs.Common.{option_to_list, refl, slice_index}
use Rattle.std.proofs.Common.{slice_set, subst, suc, sym, take, take_all, true, zero, ℕ, ◌&&◌, ◌++◌, ◌+◌, ◌-◌, ◌<◌, ◌∙◌}
use Rattle.std.proofs.Common.{◌∷◌, ◌≡◌, ◌≢◌, ◌≤◌}
use Rattle.std.specs.Prelude.{nat_lt, not}
use mir.Val.{bool_byte as from_bool}
use Rattle.std.proofs.lemmas.Bool.{cases_Bool, cases_lt}
use Rattle.std.proofs.lemmas.List.Elements.{Contains-get_or}
use Rattle.std.proofs.lemmas.List.Sums.{count_by_more_no, count_by_more_yes, sum_by-append, sum_by_more_le}
use mathlib.Core.Logic.{dite}
use native.Mathlib.Decide.{ℕ_discrete}
use Rattle.fr_graph.proofs.Counting.{one_passes}
use Rattle.fr_graph.proofs.Linking.{IsOneWay, one_way}
use Rattle.fr_graph.proofs.Neighbours.{Points-has_link, row_entry_known, row_entry_node, row_holds}
use Rattle.fr_graph.specs.Links.{IsNet}
use Rattle.fr_graph.specs.RowLists.{opposite}
use Rattle.fr_graph.specs.Rows.{has_link, row, row_entry}
use Rattle.fr_graph.specs.declared.first.First.{First}
use Rattle.fr_graph.specs.declared.first.First.TheVariants.{Inward, Outward}
use Rattle.fr_core.specs.Machine.{bound_of}
use Rattle.fr_round.specs.declared.seen_counts.Seen.{Seen}
use Rattle.fr_round.specs.Missing.{IsCounted, misses, missing_of}

-- how many entries pass
count_by-append : (p : ℕ × First → Bool) (xs ys : List (ℕ × First))
    → count_by p (xs ++ ys) ≡ count_by p xs + count_by p ys
count_by-append p xs ys = sum_by-append (λ (e : ℕ × First). cond (p e) 1 0) xs ys

-- the entry of w in a row of x, as a list
abbrev entry_at : List (ℕ × ℕ) → ℕ → ℕ → List (ℕ × First)
entry_at links x w = option_to_list (row_entry links x w)

count_same : (p q : ℕ × First → Bool) (o : Option (ℕ × First)) → ((e : ℕ × First) → o ≡ Some e → p e ≡ q e)
    → count_by p (option_to_list o) ≡ count_by q (option_to_list o)
count_same p q None same = refl
count_same p q (Some e) same = ap (λ (b : Bool). 0 + cond b 1 0) (same e refl)

agrees_at : (p q : ℕ × First → Bool) (links : List (ℕ × ℕ)) (x w m : ℕ) → ((e : ℕ × First) → e.0 ≢ w → p e ≡ q e)
    → m ≢ w
    → count_by p (entry_at links x m) ≡ count_by q (entry_at links x m)
agrees_at p q links x w m same other =
    count_same p q (row_entry links x m) (λ e is. same e (λ there. other (sym (row_entry_node links x m e is) ∙ there)))

-- two tests that agree on all entries but that of node w count alike over a row that ends before it,
row_before : (p q : ℕ × First → Bool) (n : ℕ) (links : List (ℕ × ℕ)) (x w : ℕ) → ((e : ℕ × First) → e.0 ≢ w → p e ≡ q e)
    → n ≤ w → count_by p (row n links x) ≡ count_by q (row n links x)
row_before p q zero links x w same le = refl
row_before p q (suc m) links x w same le =
    omega (
      arith,
      count_by-append p (row m links x) (entry_at links x m),
      count_by-append q (row m links x) (entry_at links x m),
      row_before p q m links x w same (omega arith),
      agrees_at p q links x w m same (omega arith),
    )

-- and over one that reaches it they count alike but for that entry
row_but_for : (p q : ℕ × First → Bool) (n : ℕ) (links : List (ℕ × ℕ)) (x w : ℕ)
    → ((e : ℕ × First) → e.0 ≢ w → p e ≡ q e) → w < n
    → count_by p (row n links x) + count_by q (option_to_list (row_entry links x w)) ≡ count_by q
    (row n links x) + count_by p (option_to_list (row_entry links x w))
row_but_for p q zero links x w same lt = absurd (omega arith)
row_but_for p q (suc m) links x w same lt =
    let whole_p = count_by-append p (row m links x) (entry_at links x m) in
    let whole_q = count_by-append q (row m links x) (entry_at links x m) in
    elim (cases_lt w m) [
      | inl before ↦ omega (
        arith,
        whole_p,
        whole_q,
        row_but_for p q m links x w same before,
        agrees_at p q links x w m same (omega arith),
      )
      | inr reached ↦
          let here : w ≡ m = omega arith in
          let here_p : count_by p (entry_at links x w) ≡ count_by p (entry_at links x m) =
          ap (λ (k : ℕ). count_by p (entry_at links x k)) here in
          let here_q : count_by q (entry_at links x w) ≡ count_by q (entry_at links x m) =
          ap (λ (k : ℕ). count_by q (entry_at links x k)) here in
          omega (arith, whole_p, whole_q, here_p, here_q, row_before p q m links x w same (omega arith))
    ]

-- whether a count that rises from `had` begins to meet the bound that its link, seen from the neighbour of count `own`, has
abbrev pub begins_by : ℕ → ℕ → ℕ → First → Bool
begins_by had count own f = nat_lt had (bound_of f own) && not (nat_lt count (bound_of f own))

-- whether node y, of which `had` was seen, does so for this entry of its row
abbrev pub newly_meets_bound : List ℕ → ℕ → ℕ → ℕ × First → Bool
newly_meets_bound counts had count e = begins_by had count (slice_index counts e.0) (opposite e.1)

-- the same for the neighbour z
abbrev pub lowers : List ℕ → ℕ → ℕ → ℕ → ℕ × First → Bool
lowers counts had count z e = eqb e.0 z && newly_meets_bound counts had count e

lowers_at : (counts : List ℕ) (had count z : ℕ) (f : First)
    → lowers counts had count z (z, f) ≡ newly_meets_bound counts had count (z, f)
lowers_at counts had count z f = rw (eq-eqb z z refl) refl

lowers_else : (counts : List ℕ) (had count z : ℕ) (e : ℕ × First) → e.0 ≢ z → lowers counts had count z e ≡ false
lowers_else counts had count z e other = rw (ne_eqb e.0 z other) refl

none_pass : (entries : List (ℕ × First)) → count_by (λ _. false) entries ≡ 0
none_pass [] = refl
none_pass (e ∷ es) = none_pass es

-- a count that rises from `had` misses a bound still, or begins to meet it, or met it
rises_past : (had count bound : ℕ) → had ≤ count
    → 0 + cond (ltb had bound) 1 0 ≡ (0 + cond (ltb count bound) 1 0)
    + (0 + cond (ltb had bound && not (ltb count bound)) 1 0)
rises_past had count bound up =
    elim (cases_Bool (ltb had bound)) [
      | inl low ↦ elim (cases_Bool (ltb count bound)) [
        | inl still ↦ rw (low, still) refl
        | inr met ↦ rw (low, met) refl
      ]
      | inr high ↦
          let not_now : ltb count bound ≡ false = elim (cases_Bool (ltb count bound)) [
            | inl miss ↦ absurd (omega (arith, ltb-true count bound miss, ltb-false had bound high))
            | inr met ↦ met
          ] in
          rw (high, not_now) refl
    ]

-- the entry of y in the row of z tells what that of z in the row of y does
seen_both_ways : (P Q D : ℕ × First → Bool) (y z : ℕ) (out back : Bool) → ((out ≡ true) → (back ≡ true) → ⊥)
    → ((f : First) → 0 + cond (P (y, opposite f)) 1 0 ≡ (0 + cond (Q (y, opposite f)) 1 0) + (0 + cond (D (z, f)) 1 0))
    → count_by P (option_to_list (cond back (Some (y, Outward)) (cond out (Some (y, Inward)) None)))
    ≡ count_by Q (option_to_list (cond back (Some (y, Outward)) (cond out (Some (y, Inward)) None))) + count_by D
    (option_to_list (cond out (Some (z, Outward)) (cond back (Some (z, Inward)) None)))
seen_both_ways P Q D y z true true bar same = absurd (bar refl refl)
seen_both_ways P Q D y z true false bar same = same Outward
seen_both_ways P Q D y z false true bar same = same Inward
seen_both_ways P Q D y z false false bar same = refl

-- the number of z as it was is the new one, and one more if y is a neighbour that begins to meet its bound
missing_lowered : (n : ℕ) (links : List (ℕ × ℕ)) (counts : List ℕ) (y z count : ℕ) → IsNet n links → y < n → z < n
    → z ≢ y
    → length counts ≡ n → slice_index counts y ≤ count
    → missing_of n links counts z ≡ missing_of n links (slice_set counts y count) z
    + count_by (lowers counts (slice_index counts y) count z) (row n links y)
missing_lowered n links counts y z count net y_in z_in other long up =
    let had : ℕ = slice_index counts y in
    let own : ℕ = slice_index counts z in
    let new : List ℕ = slice_set counts y count in
    let own_same : slice_index new z ≡ own = get_or-set_other counts y z count 0 other in
    let now : slice_index new y ≡ count = get_or-set_same counts y count 0 (omega arith) in
    let P : ℕ × First → Bool = misses counts own in
    let Q : ℕ × First → Bool = misses new own in
    let D : ℕ × First → Bool = lowers counts had count z in
    let never : ℕ × First → Bool = λ _. false in
    let at_z =
    row_but_for P Q n links z y
    (λ e away. ap (λ (k : ℕ). nat_lt k (bound_of e.1 own)) (sym (get_or-set_other counts y e.0 count 0 away))) y_in in
    let at_y = row_but_for D never n links y z (λ e away. lowers_else counts had count z e away) z_in in
    let step : (f : First)
    → 0 + cond (P (y, opposite f)) 1 0 ≡ (0 + cond (Q (y, opposite f)) 1 0) + (0 + cond (D (z, f)) 1 0) = λ f.
    rises_past had count (bound_of (opposite f) own) up
    ∙ (λ i. (0 + cond (ltb (sym now i) (bound_of (opposite f) own)) 1 0)
    + (0 + cond (sym (lowers_at counts had count z f) i) 1 0)) in
    let one : IsOneWay links = one_way links net.no_self net.single in
    let both = seen_both_ways P Q D y z (has_link links y z) (has_link links z y)
    (λ out back. one.no_return y z (Points-has_link links y z out) (Points-has_link links z y back)) step in
    let counted : missing_of n links new z ≡ count_by Q (row n links z) =
    ap (λ (k : ℕ). count_by (misses new k) (row n links z)) own_same in
    omega (arith, at_z, at_y, both, counted, none_pass (row n links y), none_pass (entry_at links y z))

-- the row is looked at up to place j
pub record IsCountedTo (list : List (ℕ × First)) (counts : List ℕ) (own : ℕ) (missing j : ℕ) : Type 0 where
  pub so_far : missing ≡ count_by (misses counts own) (take j list)
  pub few : missing ≤ j

-- one entry more is counted
pub counted_on : (list : List (ℕ × First)) (counts : List ℕ) (own missing j more : ℕ) (b : Bool)
    → IsCountedTo list counts own missing j → j < length list → misses counts own (get_or list j (0, Outward)) ≡ b
    → more ≡ from_bool b
    → IsCountedTo list counts own (missing + more) (j + 1)
counted_on list counts own missing j more true t inside passes is =
    let one : more ≡ 1 = is in
    record {
      so_far = omega (arith, t.so_far, one, count_by_more_yes (misses counts own) list j (0, Outward) inside passes);
      few = omega (arith, t.few, one);
    }
counted_on list counts own missing j more false t inside fails is =
    let none : more ≡ 0 = is in
    record {
      so_far = omega (arith, t.so_far, none, count_by_more_no (misses counts own) list j (0, Outward) inside fails);
      few = omega (arith, t.few, none);
    }

pub one_at_most : (b : Bool) (more : ℕ) → more ≡ from_bool b → more ≤ 1
one_at_most true more is = omega (arith, is)
one_at_most false more is = omega (arith, is)

-- the numbers of the nodes but y, once node y is taken off those of the first j entries of its row
pub record IsLoweredTo (n : ℕ) (links : List (ℕ × ℕ)) (list : List (ℕ
    × First)) (counts missing : List ℕ) (y count j : ℕ) : Type 0 where
  pub as_many : length missing ≡ n
  pub left : (z : ℕ) → z < n → z ≢ y → slice_index missing z + count_by (lowers counts (slice_index counts y) count z)
      (take j list) ≡ missing_of n links counts z

-- an entry of a row is another node
pub other_node : (n : ℕ) (links : List (ℕ × ℕ)) (y : ℕ) (list : List (ℕ × First)) (j : ℕ) → IsNet n links
    → list ≡ row n links y → j < length list
    → ((get_or list j (0, Outward)).0 < n) × ((get_or list j (0, Outward)).0 ≢ y)
other_node n links y list j net is =
    subst (λ (l : List (ℕ × First)). j < length l → ((get_or l j (0, Outward)).0 < n)
    × ((get_or l j (0, Outward)).0 ≢ y)) (sym is)
    (λ inside.
    let e = get_or (row n links y) j (0, Outward) in
    let t = row_holds n links y e (Contains-get_or (row n links y) j (0, Outward) inside) in
    (t.0, (λ same. own_neighbour n links y net e t same)))
  where
    own_neighbour : (n : ℕ) (links : List (ℕ × ℕ)) (y : ℕ) → IsNet n links → (e : ℕ × First)
        → (e.0 < n) × (row_entry links y e.0 ≡ Some e) → e.0 ≡ y → ⊥
    own_neighbour n links y net e t same =
        let here : row_entry links y y ≡ Some e = subst (λ (k : ℕ). row_entry links y k ≡ Some e) same t.1 in
        let one : IsOneWay links = one_way links net.no_self net.single in
        elim (row_entry_known (has_link links y y) (has_link links y y) y e here) [
          | inl a ↦ let p = Points-has_link links y y a.0 in one.no_return y y p p
          | inr b ↦ let p = Points-has_link links y y b.1 in one.no_return y y p p
        ]

-- the entry at place j begins to meet its bound, so its number goes down,
pub room_to_lower : (n : ℕ) (links : List (ℕ × ℕ)) (list : List (ℕ × First)) (counts missing : List ℕ) (y count j : ℕ)
    → IsNet n links → list ≡ row n links y → y < n → length counts ≡ n → slice_index counts y ≤ count
    → IsLoweredTo n links list counts missing y count j → j < length list
    → newly_meets_bound counts (slice_index counts y) count (get_or list j (0, Outward)) ≡ true
    → 1 ≤ slice_index missing (get_or list j (0, Outward)).0
room_to_lower n links list counts missing y count j net is y_in long up t inside begins =
    let e : ℕ × First = get_or list j (0, Outward) in
    let D : ℕ × First → Bool = lowers counts (slice_index counts y) count e.0 in
    let other = other_node n links y list j net is inside in
    let whole = missing_lowered n links counts y e.0 count net y_in other.0 other.1 long up in
    let same : count_by D list ≡ count_by D (row n links y) = ap (count_by D) is in
    let here : D e ≡ true = lowers_at counts (slice_index counts y) count e.0 e.1 ∙ begins in
    let weight : ℕ = cond (D e) 1 0 in
    let one : weight ≡ 1 = rw here refl in
    omega (
      arith,
      t.left e.0 other.0 other.1,
      whole,
      same,
      one,
      sum_by_more_le (λ (x : ℕ × First). cond (D x) 1 0) list j (0, Outward) inside,
    )

pub lowered_yes : (n : ℕ) (links : List (ℕ × ℕ)) (list : List (ℕ × First)) (counts missing : List ℕ) (y count j : ℕ)
    → IsNet n links → list ≡ row n links y
    → IsLoweredTo n links list counts missing y count j → j < length list
    → newly_meets_bound counts (slice_index counts y) count (get_or list j (0, Outward)) ≡ true
    → 1 ≤ slice_index missing (get_or list j (0, Outward)).0
    → IsLoweredTo n links list counts
    (slice_set missing (get_or list j (0, Outward)).0 (slice_index missing (get_or list j (0, Outward)).0 - 1)) y count
    (j + 1)
lowered_yes n links list counts missing y count j net is t inside begins room =
    let e : ℕ × First = get_or list j (0, Outward) in
    let had : ℕ = slice_index counts y in
    let lower : ℕ = slice_index missing e.0 - 1 in
    let other = other_node n links y list j net is inside in
    record {
      as_many = length-set missing e.0 lower ∙ t.as_many;
      left = λ z z_in not_y. dite (ℕ_discrete z e.0)
          (λ (here : z ≡ e.0).
          let D : ℕ × First → Bool = lowers counts had count z in
          let passes : D e ≡ true =
          subst (λ (k : ℕ). lowers counts had count k e ≡ true) (sym here) (lowers_at counts had count e.0 e.1
          ∙ begins) in
          let now : slice_index (slice_set missing e.0 lower) z ≡ lower =
          ap (λ (k : ℕ). slice_index (slice_set missing e.0 lower) k) here
          ∙ get_or-set_same missing e.0 lower 0 (omega (arith, t.as_many, other.0)) in
          let was : slice_index missing z ≡ slice_index missing e.0 = ap (λ (k : ℕ). slice_index missing k) here in
          omega (arith, t.left z z_in not_y, count_by_more_yes D list j (0, Outward) inside passes, now, was, room))
          (λ (away : z ≢ e.0).
          let D : ℕ × First → Bool = lowers counts had count z in
          let now : slice_index (slice_set missing e.0 lower) z ≡ slice_index missing z =
          get_or-set_other missing e.0 z lower 0 away in
          omega (
            arith,
            t.left z z_in not_y,
            count_by_more_no D list j (0, Outward) inside (lowers_else counts had count z e (λ back. away (sym back))),
            now,
          ));
    }

-- and else all numbers stay
pub lowered_no : (n : ℕ) (links : List (ℕ × ℕ)) (list : List (ℕ × First)) (counts missing : List ℕ) (y count j : ℕ)
    → IsLoweredTo n links list counts missing y count j → j < length list
    → newly_meets_bound counts (slice_index counts y) count (get_or list j (0, Outward)) ≡ false
    → IsLoweredTo n links list counts missing y count (j + 1)
lowered_no n links list counts missing y count j t inside stays =
    let e : ℕ × First = get_or list j (0, Outward) in
    let had : ℕ = slice_index counts y in
    record {
      as_many = t.as_many;
      left = λ z z_in not_y.
          let D : ℕ × First → Bool = lowers counts had count z in
          let fails : D e ≡ false = elim (cases_Bool (eqb e.0 z)) [ inl a ↦ rw (a, stays) refl | inr b ↦ rw b refl ] in
          omega (arith, t.left z z_in not_y, count_by_more_no D list j (0, Outward) inside fails);
    }

-- once the whole row was looked at, the numbers are those for the higher count
pub all_lowered : (n : ℕ) (links : List (ℕ × ℕ)) (list : List (ℕ × First)) (counts missing : List ℕ) (y count j : ℕ)
    → IsNet n links → list ≡ row n links y → y < n → length counts ≡ n → slice_index counts y ≤ count
    → IsLoweredTo n links list counts missing y count j → length list ≤ j → (z : ℕ) → z < n → z ≢ y
    → slice_index missing z ≡ missing_of n links (slice_set counts y count) z
all_lowered n links list counts missing y count j net is y_in long up t end z z_in other =
    let D : ℕ × First → Bool = lowers counts (slice_index counts y) count z in
    let whole = missing_lowered n links counts y z count net y_in z_in other long up in
    let same : count_by D (take j list) ≡ count_by D (row n links y) = ap (count_by D) (take_all j list end ∙ is) in
    omega (arith, t.left z z_in other, whole, same)

-- tests that agree at each place count alike
count_alike : (p q : ℕ × First → Bool) (entries : List (ℕ × First))
    → ((k : ℕ) → k < length entries → p (get_or entries k (0, Outward)) ≡ q (get_or entries k (0, Outward)))
    → count_by p entries ≡ count_by q entries
count_alike p q [] same = refl
count_alike p q (e ∷ es) same =
    let first : count_by p (e ∷ []) ≡ count_by q (e ∷ []) = ap (λ (b : Bool). 0 + cond b 1 0) (same 0 (omega arith)) in
    omega (
      arith,
      count_by-append p (e ∷ []) es,
      count_by-append q (e ∷ []) es,
      first,
      count_alike p q es (λ k inside. same (suc k) (omega arith)),
    )

-- and what was counted is the number of y for that count, since no entry is y
pub all_counted : (n : ℕ) (links : List (ℕ × ℕ)) (list : List (ℕ × First)) (counts : List ℕ) (y count own j : ℕ)
    → IsNet n links → list ≡ row n links y → y < n → length counts ≡ n
    → IsCountedTo list counts count own j → length list ≤ j → own ≡ missing_of n links (slice_set counts y count) y
all_counted n links list counts y count own j net is y_in long t end =
    let new : List ℕ = slice_set counts y count in
    let now : slice_index new y ≡ count = get_or-set_same counts y count 0 (omega arith) in
    let alike : count_by (misses counts count) list ≡ count_by (misses new count) list =
    count_alike (misses counts count) (misses new count) list
    (λ k inside. ap (λ (s : ℕ). nat_lt s (bound_of (get_or list k (0, Outward)).1 count))
    (sym (get_or-set_other counts y (get_or list k (0, Outward)).0 count 0
    (other_node n links y list k net is inside).1))) in
    t.so_far ∙ (ap (count_by (misses counts count)) (take_all j list end)
    ∙ (alike
    ∙ (ap (count_by (misses new count)) is ∙ ap (λ (c : ℕ). count_by (misses new c) (row n links y)) (sym now))))

-- the numbers of the nodes below k are right
abbrev pub AreRightTo : ℕ → List (ℕ × ℕ) → List ℕ → List ℕ → ℕ → Type 0
AreRightTo n links counts missing k = (x : ℕ) → x < k → slice_index missing x ≡ missing_of n links counts x

-- a seen count is higher: the numbers of the other nodes are right for it, and that of its own node was counted anew
pub raised : (n : ℕ) (links : List (ℕ × ℕ)) (seen seen' : Seen) (y count m : ℕ) (missing : List ℕ) → y < n
    → IsCounted n links seen → length missing ≡ length seen.missing.items
    → ((z : ℕ) → z < n → z ≢ y → slice_index missing z ≡ missing_of n links (slice_set seen.counts.items y count) z)
    → seen'.counts.items ≡ slice_set seen.counts.items y count → seen'.missing.items ≡ slice_set missing y m
    → m ≡ missing_of n links (slice_set seen.counts.items y count) y → IsCounted n links seen'
raised n links seen seen' y count m missing y_in was long others counts numbers own = record {
  one_each = ap (λ (l : List ℕ). length l) counts ∙ (length-set seen.counts.items y count ∙ was.one_each);
  as_many = ap (λ (l : List ℕ). length l) numbers ∙ (length-set missing y m ∙ (long ∙ was.as_many));
  right =
      λ x x_in. subst (λ (p : List ℕ × List ℕ). slice_index p.0 x ≡ missing_of n links p.1 x) (λ i. (
        sym numbers i,
        sym counts i,
      ))
      (dite (ℕ_discrete x y)
      (λ (e : x ≡ y). subst (λ (j : ℕ). slice_index (slice_set missing y m) j
      ≡ missing_of n links (slice_set seen.counts.items y count) j) (sym e)
      (get_or-set_same missing y m 0 (omega (arith, long, was.as_many)) ∙ own))
      (λ (other : x ≢ y). get_or-set_other missing y x m 0 other ∙ others x x_in other));
}

-- where none passes, none does at any place
pub none_misses : (p : ℕ × First → Bool) (entries : List (ℕ × First)) (k : ℕ) (d : ℕ × First) → count_by p entries ≡ 0
    → k < length entries → p (get_or entries k d) ≡ false
none_misses p entries k d none inside =
    elim (cases_Bool (p (get_or entries k d))) [
      | inl passes ↦ absurd (omega (arith, one_passes p entries k d inside passes, none))
      | inr fails ↦ fails
    ]

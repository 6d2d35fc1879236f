-- The rows of links as counts turn them, and the links in the rows.
use Rattle.std.proofs.Common.{Bool, Contains, List, None, Some, [], All, ap, arith, count_by, eq-eqb, eqb, false}
use Rattle.std.proofs.Common.{get_or, inl, inr, map, ne_eqb}
use Rattle.std.proofs.Common.{option_map, option_to_list, refl, subst, suc, sym, true, zero, ℕ, ⊎_elim, ◌&&◌, ◌+◌, ◌<◌}
use Rattle.std.proofs.Common.{◌||◌, ◌∙◌, ◌∷◌, ◌≡◌, ◌≤◌, ◌⊎◌}
use Rattle.std.proofs.lemmas.Bool.{cases_Bool, cases_lt, cond-false, cond-true}
use Rattle.std.proofs.lemmas.List.{map-append}
use Rattle.std.proofs.lemmas.List.Elements.{All-contains}
use Rattle.std.proofs.lemmas.List.Sums.{sum_by-cons}
use Rattle.fr_graph.proofs.Counting.{weigh}
use Rattle.fr_graph.proofs.Giving.{Points-links_at_from, Points-links_at_same, Points-links_at_turned}
use Rattle.fr_graph.proofs.Giving.{filter_map-Contains, filter_map-from}
use Rattle.fr_graph.proofs.Linking.{link_below, not_twice, one_way}
use Rattle.fr_graph.proofs.Neighbours.{Points-has_link, Rises, has_link_true, out_of_row, rises_head, rises_tail}
use Rattle.fr_graph.proofs.Neighbours.{row_entry_in, row_entry_out}
use Rattle.fr_graph.proofs.Neighbours.{row_of_out, row_rises}
use Rattle.fr_graph.proofs.Ordering.{contains_counted, in_order_order, is_pair, one_counted, pair_from, same_order}
use Rattle.fr_graph.proofs.Ordering.{times, times-cons, times-in_order}
use Rattle.fr_graph.proofs.RowLists.{from_rows, into_rows, sorted_rows}
use Rattle.fr_graph.proofs.Sorting.{IsSorted, sorted-filter_map, sorted_at}
use Rattle.fr_graph.proofs.TurnedLinks.{net_turned}
use Rattle.fr_graph.specs.Counts.{IsKept, links_at}
use Rattle.fr_graph.specs.Links.{AreSingle, IsNet, Points, is_between}
use Rattle.fr_graph.specs.Order.{AreInOrder, IsBefore, IsNotAfter, in_order}
use Rattle.fr_graph.specs.RowLists.{link_to, opposite, out_links, rows_below, turned_entry}
use Rattle.fr_graph.specs.Rows.{has_link, row, row_entry}
use Rattle.fr_graph.specs.declared.first.First.{First}
use Rattle.fr_graph.specs.declared.first.First.TheVariants.{Inward, Outward}
use Rattle.fr_graph.proofs.Lists.{map-option_to_list}

not_linked : (links : List (ℕ × ℕ)) (u v : ℕ) → ¬ Points links u v → has_link links u v ≡ false
not_linked links u v bar =
    elim (cases_Bool (has_link links u v)) [ inl e ↦ absurd (bar (Points-has_link links u v e)) | inr e ↦ e ]

pub row_entry_none : (links : List (ℕ × ℕ)) (x w : ℕ) → ¬ Points links x w → ¬ Points links w x
    → row_entry links x w ≡ None
row_entry_none links x w out back = rw (not_linked links x w out, not_linked links w x back) refl

not_before_itself : (l x : ℕ × ℕ) → l ≡ x → ¬ IsBefore l x
not_before_itself l x e (inl a) = let f = ap (λ (p : ℕ × ℕ). p.0) e in omega (arith, a, f)
not_before_itself l x e (inr a) = let f = ap (λ (p : ℕ × ℕ). p.1) e in omega (arith, a.1, f)

not_after : {p q : ℕ × ℕ} → IsBefore p q → IsNotAfter p q
not_after (inl a) = inl a
not_after (inr a) = inr (a.0, omega (arith, a.1))

cases_le_none : (n : ℕ) → (n ≡ 0) ⊎ (1 ≤ n)
cases_le_none n = elim (cases_lt 0 n) [ inl l ↦ inr (omega arith) | inr g ↦ inl (omega arith) ]

pub row_entry_back : (links : List (ℕ × ℕ)) (x w : ℕ) → ¬ Points links x w → Points links w x
    → row_entry links x w ≡ Some (w, Inward)
row_entry_back links x w out back = rw (not_linked links x w out, has_link_true links w x back) refl

abbrev pub entry : ℕ → First → ℕ × First
entry w f = (w, f)

turned_same : (counts : List ℕ) (x w : ℕ) (f : First) → get_or counts w 0 ≡ get_or counts x 0
    → turned_entry counts x (w, f) ≡ entry w f
turned_same counts x w f e = cond-true _ _ _ (eq-eqb _ _ e)

turned_other : (counts : List ℕ) (x w : ℕ) (f : First) → ¬ (get_or counts w 0 ≡ get_or counts x 0)
    → turned_entry counts x (w, f) ≡ entry w (opposite f)
turned_other counts x w f e = cond-false _ _ _ (ne_eqb _ _ e)

turned_out : (n : ℕ) (links : List (ℕ × ℕ)) (c : List ℕ) (x w : ℕ) → IsNet n (links_at links c) → Points links x w
    → IsKept c (x, w) → row_entry (links_at links c) x w ≡ Some (turned_entry c x (w, Outward))
turned_out n links c x w net p (inl e) =
    row_entry_out (links_at links c) x w (Points-links_at_same links c x w p e)
    ∙ ap (λ (y : ℕ × First). Some y) (sym (turned_same c x w Outward e))
turned_out n links c x w net p (inr e) =
    row_entry_in (links_at links c) x w (one_way (links_at links c) net.no_self net.single)
    (Points-links_at_turned links c w x p e)
    ∙ ap (λ (y : ℕ × First). Some y) (sym (turned_other c x w Outward (λ same. omega (arith, same, e))))

turned_in : (n : ℕ) (links : List (ℕ × ℕ)) (c : List ℕ) (x w : ℕ) → IsNet n (links_at links c) → Points links w x
    → IsKept c (w, x) → row_entry (links_at links c) x w ≡ Some (turned_entry c x (w, Inward))
turned_in n links c x w net p (inl e) =
    row_entry_in (links_at links c) x w (one_way (links_at links c) net.no_self net.single)
    (Points-links_at_same links c w x p e)
    ∙ ap (λ (y : ℕ × First). Some y) (sym (turned_same c x w Inward (sym e)))
turned_in n links c x w net p (inr e) =
    row_entry_out (links_at links c) x w (Points-links_at_turned links c x w p e)
    ∙ ap (λ (y : ℕ × First). Some y) (sym (turned_other c x w Inward (λ same. omega (arith, same, e))))

row_entry_turned : (n : ℕ) (links : List (ℕ × ℕ)) (c : List ℕ) (x w : ℕ) → All (IsKept c) links → IsNet n links
    → IsNet n (links_at links c)
    → row_entry (links_at links c) x w ≡ option_map (turned_entry c x) (row_entry links x w)
row_entry_turned n links c x w kept net after =
    elim (cases_Bool (has_link links x w)) [
      | inl out ↦
          let p = Points-has_link links x w out in
          rw (row_entry_out links x w p)
          (turned_out n links c x w after p (All-contains (IsKept c) links (x, w) kept p))
      | inr none ↦ elim (cases_Bool (has_link links w x)) [
        | inl back ↦
            let p = Points-has_link links w x back in
            rw (row_entry_in links x w (one_way links net.no_self net.single) p)
            (turned_in n links c x w after p (All-contains (IsKept c) links (w, x) kept p))
        | inr neither ↦
            let not_out : ¬ Points links x w = λ p. absurd (cc (has_link_true links x w p, none)) in
            let not_back : ¬ Points links w x = λ p. absurd (cc (has_link_true links w x p, neither)) in
            rw (row_entry_none links x w not_out not_back)
            (row_entry_none (links_at links c) x w
            (λ p. ⊎_elim (λ a. not_out a.0) (λ b. not_back b.0) (Points-links_at_from links c x w p))
            (λ p. ⊎_elim (λ a. not_back a.0) (λ b. not_out b.0) (Points-links_at_from links c w x p)))
      ]
    ]

row_turned_by : (n k : ℕ) (links : List (ℕ × ℕ)) (c : List ℕ) (x : ℕ) → All (IsKept c) links → IsNet n links
    → IsNet n (links_at links c) → row k (links_at links c) x ≡ map (turned_entry c x) (row k links x)
row_turned_by n zero links c x kept net after = refl
row_turned_by n (suc w) links c x kept net after =
    rw (
      row_turned_by n w links c x kept net after,
      row_entry_turned n links c x w kept net after,
      map-append (turned_entry c x) (row w links x) (option_to_list (row_entry links x w)),
      map-option_to_list (turned_entry c x) (row_entry links x w),
    ) refl

-- the row of a node after links have turned
pub row_turned : (n : ℕ) (links : List (ℕ × ℕ)) (c : List ℕ) (x : ℕ) → All (IsKept c) links → IsNet n links
    → row n (links_at links c) x ≡ map (turned_entry c x) (row n links x)
row_turned n links c x kept net = row_turned_by n n links c x kept net (net_turned n links c kept net)

-- links in strictly ascending order occur once each
rising_once : (links : List (ℕ × ℕ)) (x : ℕ × ℕ) → IsSorted IsBefore links → times links x ≤ 1
rising_once [] x s = omega arith
rising_once (l ∷ ls) x s =
    elim (cases_Bool (is_pair x.0 x.1 l)) [
      | inl e ↦
          let here : l ≡ x = pair_from x l e in
          let one : weigh (is_pair x.0 x.1 l) ≡ 1 = rw e refl in
          elim (cases_le_none (times ls x)) [
            | inl none ↦ omega (arith, times-cons l ls x, one, none)
            | inr some ↦ absurd (not_before_itself l x here (s.0 x (contains_counted ls x some)))
          ]
      | inr e ↦ let none : weigh (is_pair x.0 x.1 l) ≡ 0 =
          rw e refl in omega (arith, times-cons l ls x, none, rising_once ls x s.1)
    ]

pub rising_in_order : (links : List (ℕ × ℕ)) → IsSorted IsBefore links → AreInOrder links
rising_in_order links s k d l = not_after (sorted_at IsBefore links s k (k + 1) d (omega arith) l)

-- the links of a network occur once each
weigh_or : (a b : Bool) → weigh a ≤ weigh (a || b)
weigh_or true b = omega arith
weigh_or false true = omega arith
weigh_or false false = omega arith

times-le-between : (links : List (ℕ × ℕ)) (x : ℕ × ℕ) → times links x ≤ count_by (is_between x.0 x.1) links
times-le-between [] x = omega arith
times-le-between (l ∷ ls) x =
    let weight : ℕ × ℕ → ℕ = λ y. weigh (is_between x.0 x.1 y) in
    omega (
      arith,
      times-cons l ls x,
      sum_by-cons weight l ls,
      times-le-between ls x,
      weigh_or (is_pair x.0 x.1 l) ((eqb l.0 x.1) && (eqb l.1 x.0)),
    )

pub single_once : (links : List (ℕ × ℕ)) (x : ℕ × ℕ) → AreSingle links → times links x ≤ 1
single_once links x single = omega (arith, times-le-between links x, not_twice links x.0 x.1 single)

same_times : (a b : List (ℕ × ℕ)) (x : ℕ × ℕ) → times a x ≤ 1 → times b x ≤ 1 → (Contains a x → Contains b x)
    → (Contains b x → Contains a x) → times a x ≡ times b x
same_times a b x one two to from =
    elim (cases_le_none (times a x)) [
      | inl none ↦ elim (cases_le_none (times b x)) [
        | inl nil ↦ omega (arith, none, nil)
        | inr some ↦ absurd (omega (arith, none, one_counted a x (from (contains_counted b x some))))
      ]
      | inr some ↦ omega (arith, one, two, some, one_counted b x (to (contains_counted a x some)))
    ]

-- links in strictly ascending order are, in order, those of a network with the same links
pub rising_links : (rising links : List (ℕ × ℕ)) → IsSorted IsBefore rising → AreSingle links
    → ((x : ℕ × ℕ) → Contains rising x → Contains links x) → ((x : ℕ × ℕ) → Contains links x → Contains rising x)
    → rising ≡ in_order links
rising_links rising links s single to from =
    same_order rising (in_order links) (rising_in_order rising s) (in_order_order links)
    (λ x. same_times rising links x (rising_once rising x s) (single_once links x single) (to x) (from x)
    ∙ sym (times-in_order links x))

-- the links in a row
pub link_shown : (x : ℕ) (e : ℕ × First) (l : ℕ × ℕ) → link_to x e.0 e.1 ≡ Some l
    → (l ≡ (x, e.0)) × (e ≡ (e.0, Outward))
link_shown x (w, Outward) l q = (cc, refl)
link_shown x (w, Inward) l q = cc

-- one more entry
abbrev pub out_rows : ℕ → List (ℕ × ℕ) → ℕ → List (ℕ × ℕ)
out_rows n links x = out_links x (row n links x)

shown_by_row : (n : ℕ) (links : List (ℕ × ℕ)) (x : ℕ) (l : ℕ × ℕ) → Contains (out_rows n links x) l
    → (l.0 ≡ x) × Contains links l
shown_by_row n links x l h =
    let from = filter_map-from (λ (e : ℕ × First). link_to x e.0 e.1) (row n links x) l h in
    let is = link_shown x from.0 l from.2 in
    let here : Points links x from.0.0 =
    out_of_row n links x from.0.0 (subst (λ (e : ℕ × First). Contains (row n links x) e) is.1 from.1) in
    (ap (λ (p : ℕ × ℕ). p.0) is.0, subst (λ (p : ℕ × ℕ). Contains links p) (sym is.0) here)

rises_sorted : (xs : List (ℕ × First)) → Rises xs → IsSorted (λ (e f : ℕ × First). e.0 < f.0) xs
rises_sorted [] r = tt
rises_sorted (x ∷ xs) r = (λ e h. rises_head x xs e r h, rises_sorted xs (rises_tail x xs r))

out_row_rises : (n : ℕ) (links : List (ℕ × ℕ)) (x : ℕ) → IsSorted IsBefore (out_rows n links x)
out_row_rises n links x =
    sorted-filter_map (λ (e f : ℕ × First). e.0 < f.0) IsBefore (λ (e : ℕ × First). link_to x e.0 e.1) (row n links x)
    (λ a b y z lt e f.
    let p = (link_shown x a y e).0 in
    let q = (link_shown x b z f).0 in
    inr (
      ap (λ (l : ℕ × ℕ). l.0) p ∙ sym (ap (λ (l : ℕ × ℕ). l.0) q),
      omega (arith, lt, ap (λ (l : ℕ × ℕ). l.1) p, ap (λ (l : ℕ × ℕ). l.1) q),
    ))
    (rises_sorted (row n links x) (row_rises n links x))

pub links_of_rows : (n : ℕ) (links : List (ℕ × ℕ)) → IsNet n links → rows_below n (out_rows n links) ≡ in_order links
links_of_rows n links net =
    rising_links (rows_below n (out_rows n links)) links
    (sorted_rows IsBefore (out_rows n links) (out_row_rises n links)
    (λ x z a b lt h g. inl (omega (arith, lt, (shown_by_row n links x a h).0, (shown_by_row n links z b g).0)))
    n)
    net.single
    (λ l h. let t = from_rows n (out_rows n links) l h in (shown_by_row n links t.0 l t.2).1)
    (λ l h.
    into_rows n l.0 (out_rows n links) l (link_below n links l.0 l.1 net h).0
    (filter_map-Contains (λ (e : ℕ
    × First). link_to l.0 e.0 e.1) (row n links l.0) (entry l.1 Outward) l (row_of_out n links l.0 l.1 net h) refl))

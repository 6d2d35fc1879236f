-- What the row of a node says about the links.
use Rattle.std.proofs.Common.{Bool, Contains, List, None, Option, Some, [], ap, arith, cond, eq-eqb, eqb, eqb-true}
use Rattle.std.proofs.Common.{false, get_or, inl, inr, length}
use Rattle.std.proofs.Common.{map, option_to_list, refl, subst, suc, sym, true, zero, ℕ, ⊎_elim, ◌&&◌, ◌++◌, ◌+◌, ◌<◌}
use Rattle.std.proofs.Common.{◌∙◌, ◌∷◌, ◌≡◌, ◌≤◌, ◌⊎◌}
use Rattle.std.proofs.lemmas.Bool.{and_parts, cases_Bool, cases_lt}
use Rattle.std.specs.List.Sorted.{IsStrictlyIncreasing}
use Rattle.std.proofs.lemmas.List.{append-nil, get_or_append_left, get_or_default, get_or_push, get_or-map}
use Rattle.std.proofs.lemmas.List.{length-append, length-map, length_push}
use Rattle.std.proofs.lemmas.List.Elements.{Contains-append_cases, Contains-append_left, Contains-append_right}
use Rattle.std.proofs.lemmas.List.Elements.{Contains-get_or}
use Rattle.std.proofs.lemmas.List.Folds.{Any-from_list_any, list_any_at}
use Rattle.fr_graph.proofs.Linking.{IsOneWay, link_below, one_way}
use Rattle.fr_graph.proofs.Members.{Contains-cases, Contains-head, Contains-tail}
use Rattle.fr_graph.specs.Links.{IsAlone, IsNet, Joins, Points}
use Rattle.fr_graph.specs.Rows.{has_link, row, row_entry}
use Rattle.fr_graph.specs.declared.first.First.{First}
use Rattle.fr_graph.specs.declared.first.First.TheVariants.{Inward, Outward}
use Rattle.fr_graph.proofs.Lists.{in_option, option_short}

-- the neighbours in a row increase
abbrev pub Rises : List (ℕ × First) → Type 0
Rises xs = (i j : ℕ) (d : ℕ × First) → i < j → j < length xs → (get_or xs i d).0 < (get_or xs j d).0

pub rises_tail : (x : ℕ × First) (xs : List (ℕ × First)) → Rises (x ∷ xs) → Rises xs
rises_tail x xs r i j d lt l = r (suc i) (suc j) d (omega arith) (omega arith)

pub rises_head : (x : ℕ × First) (xs : List (ℕ × First)) (e : ℕ × First) → Rises (x ∷ xs) → Contains xs e → x.0 < e.0
rises_head x xs e r h = let t = r 0 (suc h.0) e (omega arith) (omega (arith, h.1)) in rw h.2 at t

-- two ascending lists of the same entries are equal
pub rising_same : (xs ys : List (ℕ × First)) → Rises xs → Rises ys → ((e : ℕ × First) → Contains xs e → Contains ys e)
    → ((e : ℕ × First) → Contains ys e → Contains xs e) → xs ≡ ys
rising_same [] [] r s to from = refl
rising_same [] (y ∷ ys) r s to from = let h = from y (Contains-head y ys) in absurd (omega (arith, h.1))
rising_same (x ∷ xs) [] r s to from = let h = to x (Contains-head x xs) in absurd (omega (arith, h.1))
rising_same (x ∷ xs) (y ∷ ys) r s to from =
    let heads : x ≡ y =
    elim (Contains-cases x y ys (to x (Contains-head x xs))) [
      | inl e ↦ sym e
      | inr h ↦ elim (Contains-cases y x xs (from y (Contains-head y ys))) [
        | inl e ↦ e
        | inr g ↦ absurd (omega (arith, rises_head y ys x s h, rises_head x xs y r g))
      ]
    ] in
    let same : x.0 ≡ y.0 = ap (λ (e : ℕ × First). e.0) heads in
    let tails : xs ≡ ys = rising_same xs ys (rises_tail x xs r) (rises_tail y ys s)
    (λ e h. elim (Contains-cases e y ys (to e (Contains-tail e x xs h))) [
      | inl q ↦ let q0 : y.0 ≡ e.0 =
          ap (λ (p : ℕ × First). p.0) q in absurd (omega (arith, rises_head x xs e r h, q0, same))
      | inr g ↦ g
    ])
    (λ e h. elim (Contains-cases e x xs (from e (Contains-tail e y ys h))) [
      | inl q ↦ let q0 : x.0 ≡ e.0 =
          ap (λ (p : ℕ × First). p.0) q in absurd (omega (arith, rises_head y ys e s h, q0, same))
      | inr g ↦ g
    ]) in
    cc

both_true : (u v : ℕ) → ((eqb u u) && (eqb v v)) ≡ true
both_true u v = rw (eq-eqb u u refl, eq-eqb v v refl) refl

-- the test whether a link leads from u to v
pub has_link_true : (links : List (ℕ × ℕ)) (u v : ℕ) → Points links u v → has_link links u v ≡ true
has_link_true links u v h =
    list_any_at (λ (l : ℕ × ℕ). (eqb l.0 u) && (eqb l.1 v)) links h.0 (u, v) h.1 (rw h.2 (both_true u v))

link_found : (links : List (ℕ × ℕ)) (k : ℕ) (l : ℕ × ℕ) (u v : ℕ) → k < length links → get_or links k l ≡ l → l.0 ≡ u
    → l.1 ≡ v → Points links u v
link_found links k (a, b) u v inside at e f = (k, inside, get_or_default links k (u, v) (a, b) inside ∙ at ∙ cc)

pub Points-has_link : (links : List (ℕ × ℕ)) (u v : ℕ) → has_link links u v ≡ true → Points links u v
Points-has_link links u v e =
    let h = Any-from_list_any (λ (l : ℕ × ℕ). (eqb l.0 u) && (eqb l.1 v)) links e in
    let t = and_parts _ _ h.4 in
    link_found links h.0 h.1 u v h.2 h.3 (eqb-true _ _ t.0) (eqb-true _ _ t.1)

-- w as a neighbour: what its entry says
pub row_entry_known : (a b : Bool) (w : ℕ) (e : ℕ × First)
    → cond a (Some (w, Outward)) (cond b (Some (w, Inward)) None) ≡ Some e
    → ((a ≡ true) × (e ≡ (w, Outward))) ⊎ ((a ≡ false) × (b ≡ true) × (e ≡ (w, Inward)))
row_entry_known true b w e q = inl (refl, cc)
row_entry_known false true w e q = inr (refl, refl, cc)
row_entry_known false false w e q = cc

pub row_entry_node : (links : List (ℕ × ℕ)) (x w : ℕ) (e : ℕ × First) → row_entry links x w ≡ Some e → e.0 ≡ w
row_entry_node links x w e q =
    elim (row_entry_known (has_link links x w) (has_link links w x) w e q) [
      | inl h ↦ ap (λ (p : ℕ × First). p.0) h.1
      | inr h ↦ ap (λ (p : ℕ × First). p.0) h.2
    ]

pub row_holds : (n : ℕ) (links : List (ℕ × ℕ)) (x : ℕ) (e : ℕ × First) → Contains (row n links x) e
    → (e.0 < n) × (row_entry links x e.0 ≡ Some e)
row_holds zero links x e h = absurd (omega (arith, h.1))
row_holds (suc w) links x e h =
    elim (Contains-append_cases (row w links x) (option_to_list (row_entry links x w)) e h) [
      | inl g ↦ let t = row_holds w links x e g in (omega (arith, t.0), t.1)
      | inr g ↦
          let q = in_option (row_entry links x w) e g in
          let node = row_entry_node links x w e q in
          (omega (arith, node), subst (λ (y : ℕ). row_entry links x y ≡ Some e) (sym node) q)
    ]

pub to_row : (n : ℕ) (links : List (ℕ × ℕ)) (x : ℕ) (e : ℕ × First) → e.0 < n → row_entry links x e.0 ≡ Some e
    → Contains (row n links x) e
to_row zero links x e l q = absurd (omega arith)
to_row (suc w) links x e l q =
    elim (cases_lt e.0 w) [
      | inl lt ↦ Contains-append_left (row w links x) (option_to_list (row_entry links x w)) e (to_row w links x e lt q)
      | inr g ↦
          let node : e.0 ≡ w = omega arith in
          let here : row_entry links x w ≡ Some e = subst (λ (y : ℕ). row_entry links x y ≡ Some e) node q in
          Contains-append_right (row w links x) (option_to_list (row_entry links x w)) e (rw here (Contains-head e []))
    ]

rises_more : (xs : List (ℕ × First)) (w : ℕ) (o : Option (ℕ × First)) → Rises xs
    → ((e : ℕ × First) → Contains xs e → e.0 < w) → ((e : ℕ × First) → o ≡ Some e → e.0 ≡ w)
    → Rises (xs ++ option_to_list o)
rises_more xs w None r below here = rw (append-nil xs) r
rises_more xs w (Some e) r below here = λ i j d lt l.
    let len = length_push xs e in
    let first = get_or_append_left xs (e ∷ []) d i (omega (arith, len)) in
    elim (cases_lt j (length xs)) [
      | inl inside ↦ rw (first, get_or_append_left xs (e ∷ []) d j inside) (r i j d lt inside)
      | inr g ↦
          let q : length xs ≡ j = omega (arith, len) in
          rw (first, get_or_push xs e d j q) (omega (
            arith,
            below _ (Contains-get_or xs i d (omega (arith, q))),
            here e refl,
          ))
    ]

pub row_rises : (n : ℕ) (links : List (ℕ × ℕ)) (x : ℕ) → Rises (row n links x)
row_rises zero links x = λ i j d lt l. absurd (omega arith)
row_rises (suc w) links x =
    rises_more (row w links x) w (row_entry links x w) (row_rises w links x) (λ e h. (row_holds w links x e h).0)
    (row_entry_node links x w)

pub row_entry_out : (links : List (ℕ × ℕ)) (x w : ℕ) → Points links x w → row_entry links x w ≡ Some (w, Outward)
row_entry_out links x w p = rw (has_link_true links x w p) refl

pub row_entry_in : (links : List (ℕ × ℕ)) (x w : ℕ) → IsOneWay links → Points links w x
    → row_entry links x w ≡ Some (w, Inward)
row_entry_in links x w one p =
    let no : has_link links x w ≡ false =
    elim (cases_Bool (has_link links x w))
    [ inl e ↦ absurd (one.no_return w x p (Points-has_link links x w e)) | inr e ↦ e ] in
    rw (no, has_link_true links w x p) refl

pub length-row-le : (n : ℕ) (links : List (ℕ × ℕ)) (x : ℕ) → length (row n links x) ≤ n
length-row-le zero links x = omega arith
length-row-le (suc w) links x =
    omega (
      arith,
      length-append (row w links x) (option_to_list (row_entry links x w)),
      length-row-le w links x,
      option_short (row_entry links x w),
    )

pub row_of_link : (n : ℕ) (links : List (ℕ × ℕ)) (x w : ℕ) → w < n → Points links x w
    → Contains (row n links x) (w, Outward)
row_of_link n links x w below p = to_row n links x (w, Outward) below (row_entry_out links x w p)

pub row_of_out : (n : ℕ) (links : List (ℕ × ℕ)) (x w : ℕ) → IsNet n links → Points links x w
    → Contains (row n links x) (w, Outward)
row_of_out n links x w net p = row_of_link n links x w (link_below n links x w net p).1 p

pub row_of_in : (n : ℕ) (links : List (ℕ × ℕ)) (x w : ℕ) → IsNet n links → Points links w x
    → Contains (row n links x) (w, Inward)
row_of_in n links x w net p =
    to_row n links x (w, Inward) (link_below n links w x net p).0
    (row_entry_in links x w (one_way links net.no_self net.single) p)

pub differ : Outward ≡ Inward → ⊥
differ e = cc

pub out_of_row : (n : ℕ) (links : List (ℕ × ℕ)) (x w : ℕ) → Contains (row n links x) (w, Outward) → Points links x w
out_of_row n links x w h =
    let t = row_holds n links x (w, Outward) h in
    elim (row_entry_known (has_link links x w) (has_link links w x) w (w, Outward) t.1) [
      | inl a ↦ Points-has_link links x w a.0
      | inr b ↦ absurd (differ (ap (λ (e : ℕ × First). e.1) b.2))
    ]

pub in_of_row : (n : ℕ) (links : List (ℕ × ℕ)) (x w : ℕ) → Contains (row n links x) (w, Inward) → Points links w x
in_of_row n links x w h =
    let t = row_holds n links x (w, Inward) h in
    elim (row_entry_known (has_link links x w) (has_link links w x) w (w, Inward) t.1) [
      | inl a ↦ absurd (differ (sym (ap (λ (e : ℕ × First). e.1) a.1)))
      | inr b ↦ Points-has_link links w x b.1
    ]

-- a node with a neighbour has a link, and a node without a neighbour has none
pub row_linked : (n : ℕ) (links : List (ℕ × ℕ)) (x : ℕ) → 0 < length (row n links x) → (w : ℕ) × Joins links x w
row_linked n links x some =
    let e = get_or (row n links x) 0 (0, Outward) in
    let t = row_holds n links x e (Contains-get_or (row n links x) 0 (0, Outward) some) in
    elim (row_entry_known (has_link links x e.0) (has_link links e.0 x) e.0 e t.1) [
      | inl a ↦ (e.0, inl (Points-has_link links x e.0 a.0))
      | inr b ↦ (e.0, inr (Points-has_link links e.0 x b.1))
    ]

pub row_alone : (n : ℕ) (links : List (ℕ × ℕ)) (x : ℕ) → IsNet n links → length (row n links x) ≡ 0 → IsAlone links x
row_alone n links x net none w (inl h) = omega (arith, none, (row_of_out n links x w net h).1)
row_alone n links x net none w (inr h) = omega (arith, none, (row_of_in n links x w net h).1)

-- so the neighbours in a row increase, and none is there twice
pub neighbours_rise : (n : ℕ) (links : List (ℕ × ℕ)) (x : ℕ)
    → IsStrictlyIncreasing (map (λ (e : ℕ × First). e.0) (row n links x))
neighbours_rise n links x k l =
    let xs = row n links x in
    let node : ℕ × First → ℕ = λ e. e.0 in
    let long : length (map node xs) ≡ length xs = length-map xs node in
    let d : ℕ × First = (0, Outward) in
    rw (get_or-map node xs k d 0 (omega (arith, l, long)), get_or-map node xs (k + 1) d 0 (omega (arith, l, long)))
    (row_rises n links x k (k + 1) d (omega arith) (omega (arith, l, long)))

-- the node of an entry whose link has this direction
pub entry_is : (e : ℕ × First) (f : First) → e.1 ≡ f → e ≡ (e.0, f)
entry_is (w, g) f e = cc

-- whether a link points from x to y, and whether one joins them
pub cases_points : (links : List (ℕ × ℕ)) (x y : ℕ) → Points links x y ⊎ ¬ Points links x y
cases_points links x y = elim (cases_Bool (has_link links x y)) [
  | inl e ↦ inl (Points-has_link links x y e)
  | inr e ↦ inr (λ p. cc (has_link_true links x y p, e))
]

pub cases_joins : (links : List (ℕ × ℕ)) (x y : ℕ) → Joins links x y ⊎ ¬ Joins links x y
cases_joins links x y = elim (cases_points links x y) [
  | inl p ↦ inl (inl p)
  | inr a ↦ elim (cases_points links y x) [
    | inl p ↦ inl (inr p)
    | inr b ↦ inr (λ h. ⊎_elim a b h)
  ]
]

-- Push orders: their beginnings and whole groups are closed downstream, they end with the new table, and the tables
-- determine them.
use Rattle.std.proofs.Common.{Contains, List, [], arith, get_or, inl, inr, length, refl, slice_get, subst, sym, ℕ}
use Rattle.std.proofs.Common.{⊎_elim, ◌++◌, ◌-◌, ◌≤◌}
use Rattle.std.proofs.Common.{◌<◌, ◌∙◌, ◌∷◌, ◌≡◌, ap, Some, length-set, set}
use Rattle.std.proofs.lemmas.List.Elements.{Contains-append_left, Contains-push, Contains-push_cases}
use Rattle.std.proofs.lemmas.Bool.{cases_lt, cases_eq}
use Rattle.std.proofs.lemmas.List.{ext_get_or, get_or_append_left, get_or_default, get_or-set_other, get_or-set_same}
use Rattle.std.proofs.lemmas.Option.{get_or_from_slice_get, slice_get-get_or, slice_get_past, slice_get_within}
use Rattle.fr_tables.specs.Pushes.{AreAlike, AreRoutedFirst, DifferAt, IsBefore, IsBetween, IsClosedDownstream}
use Rattle.fr_tables.specs.Pushes.{IsPushOrder, IsPushed, IsSentInTime}
use Rattle.fr_tables.specs.Pushes.{IsUpToGroup}
use Rattle.fr_tables.specs.Tables.{Arrives}
use Rattle.fr_tables.specs.declared.hop.Hop.{Hop}
use Rattle.fr_tables.specs.declared.hop.Hop.TheVariants.{Here}
use Rattle.fr_tables.proofs.Arriving.{alike_downstream, cases_arrives}
use Rattle.fr_tables.proofs.Counts.{cases_differ, wave_falls, wave_unique}
use Rattle.fr_tables.proofs.Sorted.{sorted_from, sorted_unique}
use Rattle.fr_tables.proofs.Members.{Contains-none, cases_member}

pub groups_closed : (old new : List Hop) (nodes : List ℕ) → IsUpToGroup old new nodes → IsClosedDownstream old new nodes
groups_closed old new nodes up x y inside down differs =
    let (k, of_x) = up.waves x inside in
    elim (wave_falls old new x y k (up.differ x inside) down of_x) [
      | inl e ↦ subst (Contains nodes) e inside
      | inr (l, of_y, falls) ↦ up.before x y k l inside differs (alike_downstream new x y down) of_x of_y falls
    ]

module _ (old new : List Hop) (done left : List ℕ) (order : IsPushOrder old new (done ++ left)) where
  -- a differing node is one of the first, or it comes later
  first_nodes : (y : ℕ) → DifferAt old new y
      → ((j : ℕ) × (length done ≤ j) × (j < length (done ++ left)) × (get_or (done ++ left) j 0 ≡ y) → Contains done y)
      → Contains done y
  first_nodes y differs later =
      let (j, inside, there) = (order.these y).1 differs in
      elim (cases_lt j (length done)) [
        | inl lt ↦ (j, lt, sym (get_or_append_left done left y j lt) ∙ there)
        | inr ge ↦ later (j, ge, inside, get_or_default (done ++ left) j 0 y inside ∙ there)
      ]

  pub beginning_closed : IsClosedDownstream old new done
  beginning_closed x y (i, low, here) down differs = first_nodes y differs (λ (j, ge, inside, there).
      let at : get_or (done ++ left) i 0 ≡ x =
      get_or_append_left done left 0 i low ∙ (get_or_default done i 0 x low ∙ here) in
      let before : IsBefore old new x y = rw (at, there) at (order.sorted i j (omega (arith, ge, low)) inside) in
      let x_differs : DifferAt old new x = (order.these x).0 (Contains-append_left done left x (i, low, here)) in
      elim (wave_falls old new x y before.wave_x x_differs down before.of_x) [
        | inl e ↦ subst (Contains done) e (i, low, here)
        | inr (l, of_y, falls) ↦ absurd
            (omega (
              arith,
              falls,
              before.earlier (alike_downstream new x y down),
              wave_unique old new y l before.wave_y of_y before.of_y,
            ))
      ])

  pub beginning_routed_first : AreRoutedFirst old new done
  beginning_routed_first = elim (cases_lt 0 (length done)) [
    | inr none ↦ inl (λ x (i, low, here). absurd (omega (arith, low, none)))
    | inl some ↦ elim (cases_lt (length done) (length (done ++ left))) [
      | inr all ↦ inr (λ x differs home. first_nodes x differs (λ (j, ge, inside, there). absurd (omega (
        arith,
        all,
        ge,
        inside,
      ))))
      | inl more ↦
          let last : ℕ = get_or (done ++ left) (length done - 1) 0 in
          let wave = (order.sorted (length done - 1) (length done) (omega (arith, some)) more).of_x in
          elim (cases_arrives new last wave.walk wave.whole) [
            | inl home ↦ inl (λ x (i, low, here).
                let at : get_or (done ++ left) i 0 ≡ x =
                get_or_append_left done left 0 i low ∙ (get_or_default done i 0 x low ∙ here) in
                elim (cases_eq i (length done - 1)) [
                  | inl e ↦ subst (Arrives new) (sym (ap (λ (k : ℕ). get_or (done ++ left) k 0) e) ∙ at) home
                  | inr apart ↦ subst (Arrives new) at
                      ((order.sorted i (length done - 1) (omega (arith, low, apart))
                      (omega (arith, some, more))).routed home)
                ])
            | inr lost ↦ inr (λ x differs home. first_nodes x differs (λ (j, ge, inside, there).
                let after = order.sorted (length done - 1) j (omega (arith, some, ge)) inside in
                absurd (lost (after.routed (subst (Arrives new) (sym there) home)))))
          ]
    ]
  ]

pub between_closed : (old new : List Hop) (confirmed sent nodes : List ℕ) → IsSentInTime old new confirmed sent
    → IsBetween confirmed sent nodes
    → IsClosedDownstream old new nodes × AreRoutedFirst old new nodes
between_closed old new confirmed sent nodes time between = (
  λ x y inside down differs. ⊎_elim
      (λ same. subst (Contains nodes) (sym same) inside)
      (λ apart. between.first y (time.downstream x y (between.last x inside) down differs apart))
      (cases_eq y x),
  ⊎_elim
      (λ all. inl (λ x found. all x (between.last x found)))
      (λ all. inr (λ x differs home. between.first x (all x differs home)))
      time.routed,
)

-- two tables with the same hops are equal
same_table : (some other : List Hop) → length some ≡ length other → ((x : ℕ) → slice_get some x ≡ slice_get other x)
    → some ≡ other
same_table some other same at = ext_get_or Here some other same
    (λ x low. get_or_from_slice_get some x (get_or other x Here) Here (at x
    ∙ slice_get-get_or other x Here (omega arith)))

pub ends_as_new : (old new : List Hop) (order : List ℕ) (table : List Hop) → length old ≡ length new
    → IsPushOrder old new order → IsPushed old new order table → table ≡ new
ends_as_new old new order table same is pushed =
    same_table table new (pushed.one_length ∙ same) (λ x. ⊎_elim (pushed.these x)
    (λ out. ⊎_elim (λ kept. pushed.others x out
    ∙ kept) (λ differs. absurd (out ((is.these x).1 differs))) (cases_differ old new x))
    (cases_member order x))

pub starts_as_old : (old new : List Hop) → IsPushed old new [] old
starts_as_old old new =
    record { one_length = refl; these = λ x found. absurd (Contains-none x found); others = λ x out. refl }

set_here : (table : List Hop) (i : ℕ) (hop : Hop) → i < length table → slice_get (set table i hop) i ≡ Some hop
set_here table i hop low =
    slice_get-get_or (set table i hop) i hop (omega (arith, low, length-set table i hop))
    ∙ ap Some (get_or-set_same table i hop hop low)

set_there : (table : List Hop) (i : ℕ) (hop : Hop) (k : ℕ) → ¬ (k ≡ i)
    → slice_get (set table i hop) k ≡ slice_get table k
set_there table i hop k apart =
    elim (cases_lt k (length table)) as (λ _. slice_get (set table i hop) k ≡ slice_get table k) [
      | inl low ↦ slice_get-get_or (set table i hop) k hop (omega (arith, low, length-set table i hop))
          ∙ (ap Some (get_or-set_other table i k hop hop apart) ∙ sym (slice_get-get_or table k hop low))
      | inr out ↦ slice_get_past (set table i hop) k (omega (arith, out, length-set table i hop))
          ∙ sym (slice_get_past table k out)
    ]

pub push_is_one_more : (old new : List Hop) (nodes : List ℕ) (table : List Hop) (x : ℕ) (hop : Hop)
    → length old ≡ length new → slice_get new x ≡ Some hop → IsPushed old new nodes table
    → IsPushed old new (nodes ++ x ∷ []) (set table x hop)
push_is_one_more old new nodes table x hop same is pushed =
    let low : x < length table = omega (arith, slice_get_within new x hop is, pushed.one_length, same) in
    record {
      one_length = length-set table x hop ∙ pushed.one_length;
      these = λ y found. ⊎_elim
          (λ e. subst (λ (z : ℕ). slice_get (set table x hop) z ≡ slice_get new z) (sym e) (set_here table x hop low
          ∙ sym is))
          (λ apart. ⊎_elim (λ was. set_there table x hop y apart
          ∙ pushed.these y was) (λ e. absurd (apart (sym e))) (Contains-push_cases nodes x y found))
          (cases_eq y x);
      others = λ y out.
          let apart : ¬ (y ≡ x) = λ e. out (subst (Contains (nodes ++ x ∷ [])) (sym e) (Contains-push nodes x)) in
          set_there table x hop y apart ∙ pushed.others y (λ found. out (Contains-append_left nodes (x ∷ []) y found));
    }

one_before : (old new : List Hop) (x y : ℕ) → IsBefore old new x y → ¬ IsBefore old new y x
one_before old new x y a b =
    let alike : AreAlike new x y = (b.routed, a.routed) in
    let back : AreAlike new y x = (a.routed, b.routed) in
    let on_x = wave_unique old new x a.wave_x b.wave_y a.of_x b.of_y in
    let on_y = wave_unique old new y a.wave_y b.wave_x a.of_y b.of_x in
    let same : a.wave_x ≡ a.wave_y = omega (arith, on_x, on_y, a.earlier alike, b.earlier back) in
    omega (arith, a.lower alike same, b.lower back (omega (arith, on_x, on_y, same)))

pub order_unique : (old new : List Hop) (order other : List ℕ) → IsPushOrder old new order → IsPushOrder old new other
    → order ≡ other
order_unique old new order other a b = sorted_unique (IsBefore old new) (one_before old new) order other
    (sorted_from (IsBefore old new) order a.sorted) (sorted_from (IsBefore old new) other b.sorted)
    (λ z found. (b.these z).1 ((a.these z).0 found)) (λ z found. (a.these z).1 ((b.these z).0 found))

-- Push orders: their beginnings and whole waves are closed downstream, they end with the new table, and the tables
-- determine them.
use Rattle.std.proofs.Common.{Contains, List, [], ap, arith, get_or, inl, inr, length, length-append, refl, subst}
use Rattle.std.proofs.Common.{sym, ℕ, ⊎_elim}
use Rattle.std.proofs.Common.{◌++◌, ◌⊎◌, ◌∙◌, ◌∷◌, ◌≡◌}
use Rattle.std.proofs.lemmas.Bool.{cases_eq, cases_lt}
use Rattle.std.proofs.lemmas.List.{ext_get_or, get_or_append_left, get_or_at, get_or_default}
use Rattle.fr_tables.specs.Walks.{IsDownstream}
use Rattle.fr_tables.proofs.Members.{cases_member}
use Rattle.fr_tables.proofs.Relations.{Contains-end, free_once}
use Rattle.fr_tables.proofs.Sorted.{sorted_from, sorted_unique}
use Rattle.fr_ways.specs.Pushes.{DifferAt, IsBefore, IsClosedDownstream, IsPushOrder, IsPushed, IsReady, IsUpToWave}
use Rattle.fr_ways.specs.Pushes.{IsWave, SendsMeanwhile, SendsOncePushed}
use Rattle.fr_ways.specs.Ways.{HasNoCycle, IsInRange, Sends}
use Rattle.fr_ways.proofs.Tables.{cases_differ, no_new_cycle}
use Rattle.fr_ways.proofs.Waves.{downstream_wave, wave_falls, wave_unique}

pub waves_closed : (old new : List (List ℕ)) (nodes : List ℕ) (wave : ℕ) → IsInRange new → HasNoCycle new
    → IsUpToWave old new nodes wave → IsClosedDownstream old new nodes
waves_closed old new nodes wave range free up x inside y down differs =
    let (k, of_x, low) = up.others x inside in
    let (l, of_y) = downstream_wave old new x y k range free of_x down in
    elim (wave_falls old new x y k l (up.differ x inside) down of_x of_y) [
      | inl e ↦ subst (Contains nodes) e inside
      | inr falls ↦ up.before y l differs of_y (omega (arith, falls, low))
    ]

pub beginning_closed : (old new : List (List ℕ)) (done left : List ℕ) → IsPushOrder old new (done ++ left)
    → IsClosedDownstream old new done
beginning_closed old new done left order x (i, low, here) y down differs =
    let (j, inside, there) = (order.these y).1 differs in
    let whole = length-append done left in
    let at_i : get_or (done ++ left) i 0 ≡ x = get_or_append_left done left 0 i low
    ∙ (get_or_default done i 0 x low ∙ here) in
    let at_j : get_or (done ++ left) j 0 ≡ y = get_or_default (done ++ left) j 0 y inside ∙ there in
    let x_differs : DifferAt old new x =
    (order.these x).0 (
      i,
      omega (arith, whole, low),
      get_or_default (done ++ left) i x 0 (omega (arith, whole, low))
          ∙ at_i,
    ) in
    elim (cases_lt j (length done)) [
      | inl lt ↦ (j, lt, sym (get_or_append_left done left y j lt) ∙ there)
      | inr ge ↦
          let before : IsBefore old new x y = rw (at_i, at_j) at (order.sorted i j (omega (arith, ge, low)) inside) in
          elim (wave_falls old new x y before.wave_x before.wave_y x_differs down before.of_x before.of_y) [
            | inl e ↦ subst (Contains done) e (i, low, here)
            | inr falls ↦ absurd (omega (arith, falls, before.earlier))
          ]
    ]

-- a new way of the next node leads to a node all of whose differing nodes are done
next_ready : (old new : List (List ℕ)) (done : List ℕ) (x : ℕ) (left : List ℕ) (y : ℕ) → HasNoCycle new
    → IsPushOrder old new (done ++ x ∷ left) → Sends new x y → IsReady old new done y
next_ready old new done x left y free order sends z down differs =
    let whole : List ℕ = done ++ x ∷ left in
    let (j, inside, there) = (order.these z).1 differs in
    let i : ℕ = length done in
    let long = length-append done (x ∷ left) in
    let at_i : get_or whole i 0 ≡ x = get_or_at done x left 0 i refl in
    let at_j : get_or whole j 0 ≡ z = get_or_default whole j 0 z inside ∙ there in
    let x_differs : DifferAt old new x = (order.these x).0
    (i, omega (arith, long), get_or_default whole i x 0 (omega (arith, long)) ∙ at_i) in
    let below : IsDownstream (Sends new) x z =
    record { by = y ∷ down.by; goes = (sends, down.goes); ends = down.ends } in
    let apart : ¬ (x ≡ z) = λ e. free_once (Sends new) x (y ∷ down.by) free (sends, down.goes)
    (subst (Contains (y ∷ down.by)) (down.ends ∙ sym e) (Contains-end y down.by)) in
    elim (cases_lt j i) [
      | inl lt ↦ (j, lt, sym (get_or_append_left done (x ∷ left) z j lt) ∙ there)
      | inr ge ↦ elim (cases_eq i j) [
        | inl e ↦ absurd (apart (sym at_i ∙ ap (λ (k : ℕ). get_or whole k 0) e ∙ at_j))
        | inr other ↦
            let before : IsBefore old new x z =
            rw (at_i, at_j) at (order.sorted i j (omega (arith, ge, other)) inside) in
            elim (wave_falls old new x z before.wave_x before.wave_y x_differs below before.of_x before.of_y) [
              | inl e ↦ absurd (apart e)
              | inr falls ↦ absurd (omega (arith, falls, before.earlier))
            ]
      ]
    ]

pub next_mixed : (old new : List (List ℕ)) (done : List ℕ) (x : ℕ) (left : List ℕ) (table : List (List ℕ))
    → HasNoCycle old → HasNoCycle new
    → IsPushOrder old new (done ++ x ∷ left)
    → ((u v : ℕ) → Sends table u v → SendsOncePushed old new done u v ⊎ ((u ≡ x) × Sends new x v)) → HasNoCycle table
next_mixed old new done x left table was free order sends cycle has = was cycle
    (no_new_cycle old new done table cycle free (beginning_closed old new done (x ∷ left) order) meanwhile has)
  where
    meanwhile : (u v : ℕ) → Sends table u v → SendsMeanwhile old new done u v
    meanwhile u v is = elim (sends u v is) [
      | inl one ↦ record { pushed = one.pushed; other = λ out. inl (one.other out) }
      | inr (e, next) ↦
          let here : Sends new u v = subst (λ (w : ℕ). Sends new w v) (sym e) next in
          record { pushed = λ _. here; other = λ _. inr (here, next_ready old new done x left v free order next) }
    ]

-- the same for each node of the next wave
pub wave_ready : (old new : List (List ℕ)) (nodes : List ℕ) (wave x y : ℕ) → IsInRange new → HasNoCycle new
    → IsUpToWave old new nodes wave → DifferAt old new x → IsWave old new x wave → Sends new x y
    → IsReady old new nodes y
wave_ready old new nodes wave x y range free up x_differs of_x sends z down differs =
    let below : IsDownstream (Sends new) x z =
    record { by = y ∷ down.by; goes = (sends, down.goes); ends = down.ends } in
    let (l, of_z) = downstream_wave old new x z wave range free of_x below in
    elim (wave_falls old new x z wave l x_differs below of_x of_z) [
      | inl e ↦ absurd (free_once (Sends new) x (y ∷ down.by) free (sends, down.goes)
          (subst (Contains (y ∷ down.by)) (down.ends ∙ sym e) (Contains-end y down.by)))
      | inr falls ↦ up.before z l differs of_z falls
    ]

pub ends_as_new : (old new : List (List ℕ)) (order : List ℕ) (table : List (List ℕ)) → length old ≡ length new
    → IsPushOrder old new order → IsPushed old new order table → table ≡ new
ends_as_new old new order table same is pushed =
    ext_get_or [] table new (pushed.one_length ∙ same) (λ x _. ⊎_elim (pushed.these x)
    (λ out. ⊎_elim (λ kept. pushed.others x out ∙ kept) (λ differs. absurd (out ((is.these x).1 differs)))
    (cases_differ old new x))
    (cases_member order x))

one_before : (old new : List (List ℕ)) (x y : ℕ) → IsBefore old new x y → ¬ IsBefore old new y x
one_before old new x y a b =
    let on_x = wave_unique old new x a.wave_x b.wave_y a.of_x b.of_y in
    let on_y = wave_unique old new y a.wave_y b.wave_x a.of_y b.of_x in
    omega (
      arith,
      a.lower (omega (arith, on_x, on_y, a.earlier, b.earlier)),
      b.lower
          (omega (arith, on_x, on_y, a.earlier, b.earlier)),
    )

pub order_unique : (old new : List (List ℕ)) (order other : List ℕ) → IsPushOrder old new order
    → IsPushOrder old new other → order ≡ other
order_unique old new order other a b = sorted_unique (IsBefore old new) (one_before old new) order other
    (sorted_from (IsBefore old new) order a.sorted) (sorted_from (IsBefore old new) other b.sorted)
    (λ z found. (b.these z).1 ((a.these z).0 found)) (λ z found. (a.these z).1 ((b.these z).0 found))

-- What the search for a cycle finds, in a table of ways.
use Rattle.std.proofs.Common.{List, None, Option, Some, [], add-one, ap, arith, drop, eqb, get_or, inl, inr, length}
use Rattle.std.proofs.Common.{length-drop, map, refl, sym, take, ℕ, ◌++◌, ◌+◌, ◌-◌, ◌<◌, ◌∙◌, ◌∷◌, ◌≡◌}
use Rattle.std.proofs.Math.Seq.{take-append_seam}
use Rattle.std.proofs.lemmas.Bool.{cases_lt, ne_eqb}
use Rattle.std.proofs.lemmas.List.{drop-append-le, get_or-drop, get_or-map, get_or-take, get_or_default, get_or_past}
use Rattle.std.proofs.lemmas.List.{length-map, length-take-le, length_push, take_all, take_more}
use Rattle.std.proofs.lemmas.Map.Keys.{IsDistinct-from_apart}
use Rattle.fr_search.specs.Heads.{AreHeadsFirst, IsFirstCycle, IsInOrder, Leads}
use Rattle.fr_tables.proofs.Relations.{cycle_from}
use Rattle.fr_tables.specs.Walks.{IsTrail, IsWalk}
use Rattle.fr_ways.specs.Faults.{IsOnceRound}
use Rattle.fr_ways.specs.Ways.{HasNoCycle, Sends, rows_of, ways}

some_is : (x y : ℕ) → ◌≡◌ {A = Option ℕ} (Some x) (Some y) → x ≡ y
some_is x y e = cc

-- the search goes along the ways
module _ (table : List (List ℕ)) (x y : ℕ) where
  pub leads_on : Sends table x y → Leads (rows_of table) x y
  leads_on (k, low, at) = (k, get_or-map Some (ways table x) k y None low ∙ ap Some at)

  pub sends_on : Leads (rows_of table) x y → Sends table x y
  sends_on (k, at) = elim (cases_lt k (length (ways table x))) [
    | inl low ↦ (k, low, some_is _ _ (sym (get_or-map Some (ways table x) k y None low) ∙ at))
    | inr out ↦ cc (
      at,
      get_or_past (map Some (ways table x)) k None
          (omega (arith, out, length-map (ways table x) Some)),
    )
  ]

  -- a node that may send on is in the table
  sender_inside : Sends table x y → x < length table
  sender_inside (k, low, at) = elim (cases_lt x (length table)) [
    | inl inside ↦ inside
    | inr out ↦ absurd (omega (arith, low, ap length (get_or_past table x [] out)))
  ]

-- a way, and a walk, in an order with the heads first leads to earlier nodes
module _ (table : List (List ℕ)) (order : List ℕ) (first : AreHeadsFirst (rows_of table) order) where
  way_earlier : (x y i j : ℕ) → i < length order → get_or order i 0 ≡ x → j < length order → get_or order j 0 ≡ y
      → Sends table x y → j < i
  way_earlier x y i j li ati lj atj way = first.first i j li lj (rw (ati, atj) (leads_on table x y way))

  walk_earlier : (x : ℕ) (xs : List ℕ) (z i j : ℕ) → i < length order → get_or order i 0 ≡ x → j < length order
      → get_or order j 0 ≡ z → IsWalk (Sends table) x (xs ++ z ∷ []) → j < i
  walk_earlier x [] z i j li ati lj atj goes = way_earlier x z i j li ati lj atj goes.0
  walk_earlier x (y ∷ ys) z i j li ati lj atj goes =
      let (k, lk, at) = first.closed x y (i, li, get_or_default order i x 0 li ∙ ati) (leads_on table x y goes.0) in
      let here : get_or order k 0 ≡ y = get_or_default order k 0 y lk ∙ at in
      omega (arith, walk_earlier y ys z k j lk here lj atj goes.1, way_earlier x y i k li ati lk here goes.0)

-- if all nodes are in such an order, there is no cycle
pub order_free : (table : List (List ℕ)) (order : List ℕ) → IsInOrder (length table) (rows_of table) order
    → HasNoCycle table
order_free table order all [] is = is
order_free table order all (x ∷ xs) is =
    let (i, low, at) = all.all x (first xs is) in
    let here : get_or order i 0 ≡ x = get_or_default order i 0 x low ∙ at in
    absurd (omega (arith, walk_earlier table order all.heads_first x xs x i i low here low here is))
  where
    first : (xs : List ℕ) → IsWalk (Sends table) x (xs ++ x ∷ []) → x < length table
    first [] is = sender_inside table x x is.0
    first (y ∷ ys) is = sender_inside table x y is.0

-- a list of steps is a trail
walk_of : (sends : ℕ → ℕ → Type 0) (x : ℕ) (xs : List ℕ)
    → ((k : ℕ) → k < length xs → sends (get_or (x ∷ xs) k 0) (get_or (x ∷ xs) (k + 1) 0)) → IsWalk sends x xs
walk_of sends x [] steps = tt
walk_of sends x (y ∷ ys) steps = (
  steps 0 (omega arith),
  walk_of sends y ys (λ k l. rw (← shifted x (y ∷ ys) k, ← shifted x (y ∷ ys) (k + 1))
      (steps (k + 1) (omega (arith, l)))),
)
  where
    shifted : (x : ℕ) (xs : List ℕ) (k : ℕ) → get_or (x ∷ xs) (k + 1) 0 ≡ get_or xs k 0
    shifted x xs k = rw add-one refl

trail_of : (sends : ℕ → ℕ → Type 0) (xs : List ℕ)
    → ((k : ℕ) → k + 1 < length xs → sends (get_or xs k 0) (get_or xs (k + 1) 0)) → IsTrail sends xs
trail_of sends [] steps = tt
trail_of sends (x ∷ xs) steps = walk_of sends x xs (λ k l. steps k (omega (arith, l)))

-- the first cycle, without its last node
pub once_round : (table : List (List ℕ)) (walk : List ℕ) → IsFirstCycle (rows_of table) walk
    → IsOnceRound table (take (length walk - 1) walk)
once_round table walk cycle =
    let way = cycle.way in
    let last = cycle.last in
    let path = take last way in
    let y : ℕ = get_or way last 0 in
    let long = length-take-le last way (omega (arith, cycle.whole)) in
    let split : way ≡ path ++ y ∷ [] = sym (take_all (last + 1) way (omega (arith, cycle.whole)))
    ∙ take_more way last 0 (omega (arith, cycle.whole)) in
    let here : (k : ℕ) (d : ℕ) → k < last → get_or path k d ≡ get_or way k 0 = λ k d l.
    get_or-take last way k d l ∙ get_or_default way k d 0 (omega (arith, l, cycle.whole)) in
    let trail : IsTrail (Sends table) way = trail_of (Sends table) way (λ k l.
    let step = cycle.goes_on k (omega (arith, l, cycle.whole)) in
    sends_on table _ _ (step.place, step.leads)) in
    let nodes : walk ≡ drop cycle.back path ++ y ∷ [] = cycle.is ∙ ap (drop cycle.back) split
    ∙ drop-append-le cycle.back path (y ∷ []) (omega (arith, cycle.earlier, long)) in
    rw (nodes, front (drop cycle.back path) y) (record {
      is_cycle = cycle_from (Sends table) path cycle.back y (omega (arith, cycle.earlier, long))
          (here cycle.back 0 cycle.earlier ∙ sym cycle.again) (rw split at trail);
      once = IsDistinct-from_apart eqb (drop cycle.back path) (λ i j d lt low.
          let dropped = length-drop cycle.back path in
          rw (
            get_or-drop cycle.back path i d,
            get_or-drop cycle.back path j d,
            here (cycle.back + i) d (omega (arith, lt, low, dropped, long)),
            here (cycle.back + j) d (omega (arith, low, dropped, long)),
          )
          (ne_eqb _ _ (cycle.once (cycle.back + i) (cycle.back + j) (omega (arith, lt))
          (omega (arith, low, dropped, long)))));
    })
  where
    front : (xs : List ℕ) (y : ℕ) → take (length (xs ++ y ∷ []) - 1) (xs ++ y ∷ []) ≡ xs
    front xs y = let e : length (xs ++ y ∷ []) - 1 ≡ length xs = omega (arith, length_push xs y) in
        rw e (take-append_seam xs (y ∷ []))

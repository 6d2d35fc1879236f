-- What the publisher pushes, and the tables meanwhile.
use Rattle.std.proofs.Common.{append-nil, append_assoc, Bool, Contains, List, [], ap, arith, cond, false, inl, inr}
use Rattle.std.proofs.Common.{add-one, length, length-set, suc, zero}
use Rattle.std.proofs.Common.{map, refl, set, subst, sym, true, ℕ, ⊎_elim, ◌++◌, ◌+◌, ◌<◌, ◌≤◌, ◌∙◌, ◌∷◌, ◌≡◌}
use Rattle.std.specs.List.{filter, list_any, range_with_len}
use Rattle.std.specs.Prelude.{bytes_eq, not, ◌&&◌}
use Rattle.std.proofs.lemmas.Bool.{cases_Bool, cases_eq, cases_lt, false≢true}
use Rattle.std.proofs.lemmas.List.{ext_get_or, get_or-set_other, get_or-set_same, get_or_past, map-append, set_past}
use Rattle.std.proofs.lemmas.List.Elements.{filter-append}
use Rattle.std.proofs.lemmas.List.FromFn.{map-range_with_len_more}
use lib.Pointwise.{bytes_decides}
use Rattle.fr_ways.specs.Phases.{differs, empties, grows as grow_test, is_empty, is_way, kept, loses, sheds, shrunk}
use Rattle.fr_ways.specs.Ways.{IsPartOf, Sends, ways}
use Rattle.fr_ways.proofs.Parts.{part_free}
use Rattle.fr_ways.proofs.Shrinking.{any_true, filter_from, growing_new, shrunk_loser, shrunk_other, way_true, way_yes}
use Rattle.fr_shared.specs.declared.view.Push.{Push}
use Rattle.fr_shared.specs.Histories.{blank, push, table_after}
use Rattle.fr_shared.specs.WayParts.{changes, drops, push_if, pushes_below}
use Rattle.fr_shared.specs.WayTables.{IsTable, WayKnowledge, last_ways, pushes_of, shrinks, way_codec}
use Rattle.fr_shared.proofs.Histories.{after_append, length_after, length_table}

-- One node of a table gets other ways, which it has in a table without cycles

pub set_within : (bound table : List (List ℕ)) (x : ℕ) (ys : List ℕ) → IsPartOf table bound
    → ((z : ℕ) → Contains ys z → Sends bound x z) → IsPartOf (set table x ys) bound
set_within bound table x ys part of y z sends = ⊎_elim
    (λ e. ⊎_elim
    (λ low. subst (λ (w : ℕ). Sends bound w z) (sym e)
    (of z (subst (λ (l : List ℕ). Contains l z)
    (ap (λ (w : ℕ). ways (set table x ys) w) e ∙ get_or-set_same table x ys [] low) sends)))
    (λ past. part y z (subst (λ (t : List (List ℕ)). Sends t y z) (set_past table x ys past) sends))
    (cases_lt x (length table)))
    (λ apart. part y z (subst (λ (l : List ℕ). Contains l z) (get_or-set_other table x y ys [] apart) sends))
    (cases_eq y x)

module _ (n : ℕ) (bound table : List (List ℕ)) (x : ℕ) (ys : List ℕ) (is : IsTable n bound) (was : IsTable n table)
    (part : IsPartOf table bound) (low : x < n) (few : length ys ≤ 5) (of : (z : ℕ) → Contains ys z
    → Sends bound x z) where
  set_here : ways (set table x ys) x ≡ ys
  set_here = get_or-set_same table x ys [] (omega (arith, low, was.one_each))

  set_there : (y : ℕ) → ¬ (y ≡ x) → ways (set table x ys) y ≡ ways table y
  set_there y apart = get_or-set_other table x y ys [] apart

  set_part : IsPartOf (set table x ys) bound
  set_part = set_within bound table x ys part of

  pub set_table : IsTable n (set table x ys)
  set_table = record {
    one_each = length-set table x ys ∙ was.one_each;
    in_range = λ y z sends. omega (
      arith,
      is.in_range y z
          (set_part y z sends),
      is.one_each,
      was.one_each,
      length-set table x ys,
    );
    few = λ y. ⊎_elim
        (λ e. omega (arith, few, ap length (ap (λ (w : ℕ). ways (set table x ys) w) e ∙ set_here)))
        (λ apart. omega (arith, was.few y, ap length (set_there y apart)))
        (cases_eq y x);
    cycle_free = part_free (Sends (set table x ys)) (Sends bound) set_part is.cycle_free;
  }

-- Pushes to some nodes, by number

map_id : (xs : List ℕ) → map (λ (k : ℕ). k) xs ≡ xs
map_id [] = refl
map_id (x ∷ xs) = ap (λ (ys : List ℕ). x ∷ ys) (map_id xs)

pub range_more : (x : ℕ) → range_with_len 0 (x + 1) ≡ range_with_len 0 x ++ x ∷ []
range_more x = sym (map_id (range_with_len 0 (x + 1)))
    ∙ (map-range_with_len_more (λ (k : ℕ). k) 0 x x (omega arith)
    ∙ ap (λ (ys : List ℕ). ys ++ x ∷ []) (map_id (range_with_len 0 x)))

push_one : (f : ℕ → List ℕ) (x : ℕ) (b : Bool)
    → map (λ (y : ℕ). push y (f y)) (cond b (x ∷ []) []) ≡ push_if b x (f x)
push_one f x true = refl
push_one f x false = refl

pub below_more : (p : ℕ → Bool) (f : ℕ → List ℕ) (x : ℕ)
    → pushes_below p f (x + 1) ≡ pushes_below p f x ++ push_if (p x) x (f x)
below_more p f x =
    let g : ℕ → Push (List ℕ) = λ y. push y (f y) in
    ap (λ (xs : List ℕ). map g (filter p xs)) (range_more x)
    ∙ (ap (map g) (filter-append p (range_with_len 0 x) (x ∷ []))
    ∙ (map-append g (filter p (range_with_len 0 x)) (cond (p x) (x ∷ []) [])
    ∙ ap (λ (h : List (Push (List ℕ))). pushes_below p f x ++ h) (push_one f x (p x))))

-- the ways after such a push
after_here : (table : List (List ℕ)) (b : Bool) (x : ℕ) (ys : List ℕ) → x < length table
    → ways (table_after table (push_if b x ys)) x ≡ cond b ys (ways table x)
after_here table true x ys low = get_or-set_same table x ys [] low
after_here table false x ys low = refl

after_there : (table : List (List ℕ)) (b : Bool) (x : ℕ) (ys : List ℕ) (y : ℕ) → ¬ (y ≡ x)
    → ways (table_after table (push_if b x ys)) y ≡ ways table y
after_there table true x ys y apart = get_or-set_other table x y ys [] apart
after_there table false x ys y apart = refl

module _ (p : ℕ → Bool) (f : ℕ → List ℕ) (table : List (List ℕ)) where
  -- the table once the nodes below x are pushed, if the test holds of them
  abbrev pub once : ℕ → List (List ℕ)
  once x = table_after table (pushes_below p f x)

  once_more : (x : ℕ) → once (suc x) ≡ table_after (once x) (push_if (p x) x (f x))
  once_more x = ap once (sym (add-one x)) ∙ (ap (table_after table) (below_more p f x)
      ∙ after_append table (pushes_below p f x) (push_if (p x) x (f x)))

  pub once_others : (x y : ℕ) → x ≤ y → ways (once x) y ≡ ways table y
  once_others zero y low = refl
  once_others (suc x) y low = ap (λ (t : List (List ℕ)). ways t y) (once_more x)
      ∙ (after_there (once x) (p x) x (f x) y (λ e. omega (arith, low, e)) ∙ once_others x y (omega (arith, low)))

  pub once_below : (x y : ℕ) → y < x → x ≤ length table → ways (once x) y ≡ cond (p y) (f y) (ways table y)
  once_below zero y low high = absurd (omega (arith, low))
  once_below (suc x) y low high = ap (λ (t : List (List ℕ)). ways t y) (once_more x) ∙ ⊎_elim
      (λ e. subst (λ (z : ℕ). ways (table_after (once x) (push_if (p x) x (f x))) z ≡ cond (p z) (f z) (ways table z))
      (sym e) (after_here (once x) (p x) x (f x) (omega (arith, high, length_after table (pushes_below p f x)))
      ∙ ap (λ (l : List ℕ). cond (p x) (f x) l) (once_others x x (omega arith))))
      (λ apart. after_there (once x) (p x) x (f x) y apart
      ∙ once_below x y (omega (arith, low, apart)) (omega (arith, high)))
      (cases_eq y x)

-- the nodes below x were pushed, if the test holds of them
pub record IsPushedBelow (old now : WayKnowledge) (p : ℕ → Bool) (f : ℕ → List ℕ) (x : ℕ) : Type 0 where
  pub history : now ≡ record old { known = old.known ++ pushes_below p f x }

pub none_pushed : (old : WayKnowledge) (p : ℕ → Bool) (f : ℕ → List ℕ) → IsPushedBelow old old p f 0
none_pushed old p f =
    record { history = ap (λ (h : List (Push (List ℕ))). record old { known = h }) (sym (append-nil old.known)) }

pub one_more : {old now after : WayKnowledge} {p : ℕ → Bool} {f : ℕ → List ℕ} {x : ℕ} → IsPushedBelow old now p f x
    → after ≡ record now { known = now.known ++ push_if (p x) x (f x) } → IsPushedBelow old after p f (x + 1)
one_more {old} {now} {after} {p} {f} {x} done is =
    let pushes : List (Push (List ℕ)) = push_if (p x) x (f x) in
    record {
      history = is ∙ (ap (λ (k : WayKnowledge). record k { known = k.known ++ pushes }) done.history
          ∙ ap (λ (h : List (Push (List ℕ))). record old { known = h })
          (append_assoc old.known (pushes_below p f x) pushes
          ∙ ap (λ (h : List (Push (List ℕ))). old.known ++ h) (sym (below_more p f x))));
    }

module _ {old now : WayKnowledge} {p : ℕ → Bool} {f : ℕ → List ℕ} {x : ℕ} (done : IsPushedBelow old now p f x) where
  pub now_once : last_ways now ≡ once p f (last_ways old) x
  now_once = ap last_ways done.history ∙ after_append (blank way_codec old.nodes) old.known (pushes_below p f x)

  pub now_others : (y : ℕ) → x ≤ y → ways (last_ways now) y ≡ ways (last_ways old) y
  now_others y low = ap (λ (t : List (List ℕ)). ways t y) now_once ∙ once_others p f (last_ways old) x y low

  pub now_below : x ≤ old.nodes → (y : ℕ) → y < x
      → ways (last_ways now) y ≡ cond (p y) (f y) (ways (last_ways old) y)
  now_below high y low = ap (λ (t : List (List ℕ)). ways t y) now_once
      ∙ once_below p f (last_ways old) x y low (omega (arith, high, length_table way_codec old.nodes old.known))

  -- the table is a part of a table of which the old one and the lists are parts
  pub pushed_part : x ≤ old.nodes → (bound : List (List ℕ)) → IsPartOf (last_ways old) bound
      → ((y z : ℕ) → Contains (f y) z → Sends bound y z) → IsPartOf (last_ways now) bound
  pushed_part high bound part of y z sends = ⊎_elim
      (λ low. elim (cases_Bool (p y)) [
        | inl t ↦ of y z (subst (λ (l : List ℕ). Contains l z)
            (now_below high y low ∙ ap (λ (b : Bool). cond b (f y) (ways (last_ways old) y)) t) sends)
        | inr fails ↦ part y z (subst (λ (l : List ℕ). Contains l z)
            (now_below high y low ∙ ap (λ (b : Bool). cond b (f y) (ways (last_ways old) y)) fails) sends)
      ])
      (λ past. part y z (subst (λ (l : List ℕ). Contains l z) (now_others y past) sends))
      (cases_lt y x)

-- Tests of two tables in which a node has the same ways

empties_same : (some other new : List (List ℕ)) (x : ℕ) → ways some x ≡ ways other x
    → empties some new x ≡ empties other new x
empties_same some other new x same = ap (λ (l : List ℕ). empties (l ∷ []) (ways new x ∷ []) 0) same

kept_same : (some other new : List (List ℕ)) (x : ℕ) → ways some x ≡ ways other x → kept some new x ≡ kept other new x
kept_same some other new x same = ap (λ (l : List ℕ). kept (l ∷ []) (ways new x ∷ []) 0) same

pub drops_same : (emptied : Bool) (some other new : List (List ℕ)) (x : ℕ) → ways some x ≡ ways other x
    → drops emptied some new x ≡ drops emptied other new x
drops_same emptied some other new x same = ap (λ (l : List ℕ). drops emptied (l ∷ []) (ways new x ∷ []) 0) same

pub changes_same : (some other new : List (List ℕ)) (x : ℕ) → ways some x ≡ ways other x
    → changes some new x ≡ changes other new x
changes_same some other new x same = ap (λ (l : List ℕ). changes (l ∷ []) (ways new x ∷ []) 0) same

module _ (old new : List (List ℕ)) (x : ℕ) where
  -- a node keeps only ways that it has in both tables
  pub kept_old : (z : ℕ) → Contains (kept old new x) z → Sends old x z
  kept_old z found = way_true (ways old x) z (filter_from (is_way (ways old x)) (ways new x) z found).1

  pub kept_new : (z : ℕ) → Contains (kept old new x) z → Sends new x z
  kept_new z found = (filter_from (is_way (ways old x)) (ways new x) z found).0

  pub drops_no : (emptied : Bool) → loses old new x ≡ false → drops emptied old new x ≡ false
  drops_no true f = ap (λ (b : Bool). b && is_empty (kept old new x)) f
  drops_no false f = ap (λ (b : Bool). b && not (is_empty (kept old new x))) f

  pub drops_some : (emptied : Bool) → loses old new x ≡ true
      → drops emptied old new x ≡ cond emptied (is_empty (kept old new x)) (not (is_empty (kept old new x)))
  drops_some true t = ap (λ (b : Bool). b && is_empty (kept old new x)) t
  drops_some false t = ap (λ (b : Bool). b && not (is_empty (kept old new x))) t

-- After the first nodes have shrunk, the others are those that keep no way

pub loses_none : (p : ℕ → Bool) (xs : List ℕ) → ((y : ℕ) → Contains xs y → p y ≡ false) → list_any p xs ≡ false
loses_none p xs none = elim (cases_Bool (list_any p xs)) [
  | inl t ↦ let (y, found, passes) = any_true p xs t in absurd (false≢true (sym (none y found) ∙ passes))
  | inr f ↦ f
]

and_not : (a b : Bool) → (a && not b) ≡ true → (a && b) ≡ false
and_not true true t = sym t
and_not true false t = refl
and_not false b t = refl

module _ (old shed new : List (List ℕ)) (were : (y : ℕ)
    → ways shed y ≡ cond (sheds old new y) (kept old new y) (ways old y)) where
  were_shed : (x : ℕ) → sheds old new x ≡ true → ways shed x ≡ kept old new x
  were_shed x t = were x ∙ ap (λ (b : Bool). cond b (kept old new x) (ways old x)) t

  were_left : (x : ℕ) → sheds old new x ≡ false → ways shed x ≡ ways old x
  were_left x f = were x ∙ ap (λ (b : Bool). cond b (kept old new x) (ways old x)) f

  -- a node that has shed its ways loses none any more
  done_loses : (x : ℕ) → sheds old new x ≡ true → loses shed new x ≡ false
  done_loses x t = loses_none (λ y. not (is_way (ways new x) y)) (ways shed x)
      (λ y found. ap not (way_yes (ways new x) y
      (kept_new old new x y (subst (λ (l : List ℕ). Contains l y) (were_shed x t) found))))

  pub empties_then : (x : ℕ) → empties shed new x ≡ empties old new x
  empties_then x = elim (cases_Bool (sheds old new x)) [
    | inl t ↦ ap (λ (b : Bool). b && is_empty (kept shed new x)) (done_loses x t)
        ∙ sym (and_not (loses old new x) (is_empty (kept old new x)) t)
    | inr f ↦ empties_same shed old new x (were_left x f)
  ]

  pub kept_then : (x : ℕ) → empties old new x ≡ true → kept shed new x ≡ kept old new x
  kept_then x t = elim (cases_Bool (sheds old new x)) [
    | inl sheds_too ↦ absurd (false≢true (sym (and_not (loses old new x) (is_empty (kept old new x)) sheds_too) ∙ t))
    | inr f ↦ kept_same shed old new x (were_left x f)
  ]

  module _ (table : List (List ℕ))
      (are : (y : ℕ) → ways table y ≡ cond (empties shed new y) (kept shed new y) (ways shed y)) where
    are_emptied : (x : ℕ) → empties old new x ≡ true → ways table x ≡ kept old new x
    are_emptied x t = are x
        ∙ (ap (λ (b : Bool). cond b (kept shed new x) (ways shed x)) (empties_then x ∙ t) ∙ kept_then x t)

    are_left : (x : ℕ) → empties old new x ≡ false → ways table x ≡ ways shed x
    are_left x f = are x ∙ ap (λ (b : Bool). cond b (kept shed new x) (ways shed x)) (empties_then x ∙ f)

    -- then all nodes have shrunk
    pub are_shrunk : (x : ℕ) → ways table x ≡ shrunk old new x
    are_shrunk x = elim (cases_Bool (loses old new x)) [
      | inl t ↦ elim (cases_Bool (is_empty (kept old new x))) [
        | inl none ↦ are_emptied x (ap (λ (b : Bool). b && is_empty (kept old new x)) t ∙ none)
            ∙ sym (shrunk_loser old new x t)
        | inr some ↦ are_left x (ap (λ (b : Bool). b && is_empty (kept old new x)) t ∙ some)
            ∙ (were_shed x (ap (λ (b : Bool). b && not (is_empty (kept old new x))) t ∙ ap not some)
            ∙ sym (shrunk_loser old new x t))
      ]
      | inr f ↦ are_left x (ap (λ (b : Bool). b && is_empty (kept old new x)) f)
          ∙ (were_left x (ap (λ (b : Bool). b && not (is_empty (kept old new x))) f) ∙ sym (shrunk_other old new x f))
    ]

    pub is_part : IsPartOf table new
    is_part = growing_new old new table (λ x. inl (are_shrunk x))

    pub changes_then : (x : ℕ) → changes table new x ≡ grow_test old new x
    changes_then x = ap (λ (l : List ℕ). differs l (ways new x)) (are_shrunk x)

-- the same pushes
pub pushes_same : (p q : ℕ → Bool) (f g : ℕ → List ℕ) (xs : List ℕ) → ((x : ℕ) → p x ≡ q x)
    → ((x : ℕ) → q x ≡ true → f x ≡ g x)
    → map (λ (x : ℕ). push x (f x)) (filter p xs) ≡ map (λ (x : ℕ). push x (g x)) (filter q xs)
pushes_same p q f g [] same lists = refl
pushes_same p q f g (x ∷ xs) same lists =
    let more = pushes_same p q f g xs same lists in
    let a : Bool → List (Push (List ℕ)) = λ b. map (λ (y : ℕ). push y (f y)) (cond b (x ∷ filter p xs) (filter p xs)) in
    let b : Bool → List (Push (List ℕ)) = λ b. map (λ (y : ℕ). push y (g y)) (cond b (x ∷ filter q xs) (filter q xs)) in
    ap a (same x) ∙ elim (cases_Bool (q x)) [
      | inl t ↦ ap a t ∙ ((λ i. push x (lists x t i) ∷ more i) ∙ sym (ap b t))
      | inr f' ↦ ap a f' ∙ (more ∙ sym (ap b f'))
    ]

-- The new table

differ_not : (some other : List ℕ) → differs some other ≡ false → some ≡ other
differ_not some other f = elim (cases_Bool (bytes_eq some other)) [
  | inl t ↦ (bytes_decides some other).0 t
  | inr fails ↦ absurd (false≢true (sym f ∙ ap not fails))
]

pub grown : (some new : List (List ℕ)) (x : ℕ) (ys : List ℕ) → ys ≡ cond (changes some new x) (ways new x) (ways some x)
    → ys ≡ ways new x
grown some new x ys is = elim (cases_Bool (changes some new x)) [
  | inl t ↦ is ∙ ap (λ (b : Bool). cond b (ways new x) (ways some x)) t
  | inr f ↦ is ∙ (ap (λ (b : Bool). cond b (ways new x) (ways some x)) f ∙ differ_not (ways some x) (ways new x) f)
]

pub all_grown : (n : ℕ) (table new : List (List ℕ)) → length table ≡ n → length new ≡ n
    → ((x : ℕ) → x < n → ways table x ≡ ways new x) → table ≡ new
all_grown n table new long too same =
    ext_get_or [] table new (long ∙ sym too) (λ i low. same i (omega (arith, low, long)))

-- a node that is not in the tables has no way, and is not pushed
pub past_shrunk : (b : Bool) (old new : List (List ℕ)) (x : ℕ) → length old ≤ x → length new ≤ x
    → ways old x ≡ cond b (kept old new x) (ways old x)
past_shrunk b old new x past too =
    let none : ways old x ≡ [] = get_or_past old x [] past in
    let none_kept : kept old new x ≡ [] = ap (filter (is_way (ways old x))) (get_or_past new x [] too) in
    elim (cases_Bool b) [
      | inl t ↦ none ∙ (sym none_kept ∙ sym (ap (λ (c : Bool). cond c (kept old new x) (ways old x)) t))
      | inr f ↦ sym (ap (λ (c : Bool). cond c (kept old new x) (ways old x)) f)
    ]

pub shrunk_after : (emptied : Bool) (n : ℕ) (table new : List (List ℕ)) → length table ≡ n → length new ≡ n → (y : ℕ)
    → ways (once (drops emptied table new) (kept table new) table n) y
    ≡ cond (drops emptied table new y) (kept table new y) (ways table y)
shrunk_after emptied n table new long too y = ⊎_elim
    (λ low. once_below (drops emptied table new) (kept table new) table n y low (omega (arith, long)))
    (λ high. once_others (drops emptied table new) (kept table new) table n y high
    ∙ past_shrunk (drops emptied table new y) table new y (omega (arith, high, long)) (omega (arith, high, too)))
    (cases_lt y n)

module _ (old now after : WayKnowledge) (new : List (List ℕ)) (x : ℕ) where
  -- one more node is looked at in the first phase
  pub shrink_more : (emptied : Bool)
      → IsPushedBelow old now (drops emptied (last_ways old) new) (kept (last_ways old) new) x
      → after ≡ record now {
        known = now.known
            ++ push_if (drops emptied (last_ways now) new x) x (kept (last_ways now) new x);
      }
      → IsPushedBelow old after (drops emptied (last_ways old) new) (kept (last_ways old) new) (x + 1)
  shrink_more emptied done is =
      let same : ways (last_ways now) x ≡ ways (last_ways old) x = now_others done x (omega arith) in
      let test = drops_same emptied (last_ways now) (last_ways old) new x same in
      let list = kept_same (last_ways now) (last_ways old) new x same in
      one_more done (is ∙ ap (λ (h : List (Push (List ℕ))). record now { known = now.known ++ h })
      (λ i. push_if (test i) x (list i)))

  -- one more node is looked at in the second phase
  pub grow_more : IsPushedBelow old now (changes (last_ways old) new) (ways new) x
      → after ≡ record now { known = now.known ++ push_if (changes (last_ways now) new x) x (ways new x) }
      → IsPushedBelow old after (changes (last_ways old) new) (ways new) (x + 1)
  grow_more done is =
      let test = changes_same (last_ways now) (last_ways old) new x (now_others done x (omega arith)) in
      one_more done (is ∙ ap (λ (h : List (Push (List ℕ))). record now { known = now.known ++ h })
      (λ i. push_if (test i) x (ways new x)))

-- once all nodes were looked at
pub all_shrunk : (old now : WayKnowledge) (new : List (List ℕ)) (emptied : Bool) → length new ≡ old.nodes
    → IsPushedBelow old now (drops emptied (last_ways old) new) (kept (last_ways old) new) old.nodes
    → (y : ℕ) → ways (last_ways now) y
    ≡ cond (drops emptied (last_ways old) new y) (kept (last_ways old) new y) (ways (last_ways old) y)
all_shrunk old now new emptied one_each done y = ap (λ (t : List (List ℕ)). ways t y) (now_once done)
    ∙ shrunk_after emptied old.nodes (last_ways old) new (length_table way_codec old.nodes old.known) one_each y

pub table_grown : (old now : WayKnowledge) (new : List (List ℕ)) → length new ≡ old.nodes
    → IsPushedBelow old now (changes (last_ways old) new) (ways new) old.nodes → last_ways now ≡ new
table_grown old now new one_each done =
    let nodes = ap (λ (k : WayKnowledge). k.nodes) done.history in
    all_grown old.nodes (last_ways now) new (length_table way_codec now.nodes now.known ∙ nodes) one_each
    (λ x low. grown (last_ways old) new x (ways (last_ways now) x) (now_below done (omega arith) x low))

-- All pushes from one table to another

pub all_pushes : (k shed emptied after : WayKnowledge) (new : List (List ℕ)) → length new ≡ k.nodes
    → shed ≡ record k {
      known =
          k.known ++ pushes_below (drops false (last_ways k) new) (kept (last_ways k) new) k.nodes;
    }
    → ((y : ℕ) → ways (last_ways shed) y
    ≡ cond (drops false (last_ways k) new y) (kept (last_ways k) new y) (ways (last_ways k) y))
    → emptied ≡ record shed {
      known = shed.known
          ++ pushes_below (drops true (last_ways shed) new) (kept (last_ways shed) new) shed.nodes;
    }
    → ((y : ℕ) → ways (last_ways emptied) y
    ≡ cond (drops true (last_ways shed) new y) (kept (last_ways shed) new y) (ways (last_ways shed) y))
    → after ≡ record emptied {
      known = emptied.known
          ++ pushes_below (changes (last_ways emptied) new) (ways new) emptied.nodes;
    }
    → after ≡ record k { known = k.known ++ pushes_of (last_ways k) new }
all_pushes k shed emptied after new one_each is_shed were is_emptied are is_after =
    let old = last_ways k in
    let first = last_ways shed in
    let last = last_ways emptied in
    let xs : List ℕ = range_with_len 0 (length new) in
    let a : List (Push (List ℕ)) = pushes_below (sheds old new) (kept old new) (length new) in
    let b : List (Push (List ℕ)) = pushes_below (empties old new) (kept old new) (length new) in
    let c : List (Push (List ℕ)) = pushes_below (grow_test old new) (ways new) (length new) in
    let n1 : k.nodes ≡ length new = sym one_each in
    let n2 : shed.nodes ≡ length new = ap (λ (q : WayKnowledge). q.nodes) is_shed ∙ n1 in
    let n3 : emptied.nodes ≡ length new = ap (λ (q : WayKnowledge). q.nodes) is_emptied ∙ n2 in
    let h1 : shed ≡ record k { known = k.known ++ a } =
    is_shed ∙ ap (λ (n : ℕ). record k { known = k.known ++ pushes_below (sheds old new) (kept old new) n }) n1 in
    let same_b : pushes_below (empties first new) (kept first new) (length new) ≡ b =
    pushes_same (empties first new) (empties old new) (kept first new) (kept old new) xs
    (empties_then old first new were) (kept_then old first new were) in
    let h2 : emptied ≡ record shed { known = shed.known ++ b } =
    is_emptied ∙ (ap (λ (n : ℕ). record shed {
      known =
          shed.known ++ pushes_below (empties first new) (kept first new) n;
    }) n2
    ∙ ap (λ (h : List (Push (List ℕ))). record shed { known = shed.known ++ h }) same_b) in
    let same_c : pushes_below (changes last new) (ways new) (length new) ≡ c =
    pushes_same (changes last new) (grow_test old new) (ways new) (ways new) xs
    (changes_then old first new were last are) (λ x t. refl) in
    let h3 : after ≡ record emptied { known = emptied.known ++ c } =
    is_after ∙ (ap (λ (n : ℕ). record emptied {
      known =
          emptied.known ++ pushes_below (changes last new) (ways new) n;
    }) n3
    ∙ ap (λ (h : List (Push (List ℕ))). record emptied { known = emptied.known ++ h }) same_c) in
    let split : shrinks old new ≡ a ++ b =
    map-append (λ (x : ℕ). push x (kept old new x)) (filter (sheds old new) xs) (filter (empties old new) xs) in
    let known : ((k.known ++ a) ++ b) ++ c ≡ k.known ++ pushes_of old new =
    append_assoc (k.known ++ a) b c ∙ (append_assoc k.known a (b ++ c)
    ∙ ap (λ (h : List (Push (List ℕ))). k.known ++ h) (sym (append_assoc a b c)
    ∙ ap (λ (h : List (Push (List ℕ))). h ++ c) (sym split))) in
    h3 ∙ (ap (λ (q : WayKnowledge). record q { known = q.known ++ c }) (h2
    ∙ ap (λ (q : WayKnowledge). record q { known = q.known ++ b }) h1)
    ∙ ap (λ (h : List (Push (List ℕ))). record k { known = h }) known)

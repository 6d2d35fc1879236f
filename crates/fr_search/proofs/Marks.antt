-- Marks after one of them was set, and lists with one more element.
use Rattle.std.proofs.Common.{Bool, List, [], arith, cond, get_or, inl, inr, length, refl, set, sym, ℕ, ◌⊎◌, ◌++◌, ◌+◌}
use Rattle.std.proofs.Common.{◌<◌, ◌∙◌, ◌∷◌, ◌≡◌, ◌≢◌, ◌≤◌}
use Rattle.std.specs.List.{count_by}
use Rattle.std.proofs.lemmas.Bool.{cases_eq, cases_lt}
use Rattle.std.proofs.lemmas.List.{get_or-set_other, get_or-set_same, get_or_append_left, get_or_past, get_or_push}
use Rattle.std.proofs.lemmas.List.{length-set, length_push}
use Rattle.std.proofs.lemmas.List.Sums.{sum_by-set}
use Rattle.fr_search.specs.Search.{KeepsSeen, is_done, is_fresh, mark_of}
use Rattle.fr_search.specs.declared.search.Mark.{Mark}
use Rattle.fr_search.specs.declared.search.Mark.TheVariants.{Done, Fresh, Open}

-- a list with one more element, at each place
pub push_cases : {X : Type 0} (xs : List X) (x d : X) (k : ℕ) → k < length (xs ++ x ∷ [])
    → ((k < length xs) × (get_or (xs ++ x ∷ []) k d ≡ get_or xs k d))
    ⊎ ((k ≡ length xs) × (get_or (xs ++ x ∷ []) k d ≡ x))
push_cases xs x d k h =
    let e = length_push xs x in
    elim (cases_lt k (length xs)) [
      | inl l ↦ inl (l, get_or_append_left xs (x ∷ []) d k l)
      | inr g ↦ let q : length xs ≡ k = omega (arith, e) in inr (sym q, get_or_push xs x d k q)
    ]

-- a mark after one mark was set
pub mark_set : (marks : List Mark) (x y : ℕ) (m : Mark) → x < length marks
    → ((y ≡ x) × (mark_of (set marks x m) y ≡ m)) ⊎ ((y ≢ x) × (mark_of (set marks x m) y ≡ mark_of marks y))
mark_set marks x y m l =
    elim (cases_eq y x) as (λ _. ((y ≡ x) × (mark_of (set marks x m) y ≡ m))
    ⊎ ((y ≢ x) × (mark_of (set marks x m) y ≡ mark_of marks y))) [
      | inl e ↦ inl (e, rw e (get_or-set_same marks x m Fresh l))
      | inr ne ↦ inr (ne, get_or-set_other marks x y m Fresh ne)
    ]

-- a node with a mark other than `Fresh` has a mark in the list
pub marked_inside : (marks : List Mark) (x : ℕ) → mark_of marks x ≢ Fresh → x < length marks
marked_inside marks x other = elim (cases_lt x (length marks)) [
  | inl low ↦ low
  | inr past ↦ absurd (other (get_or_past marks x Fresh past))
]

pub mark_cases : (m : Mark) → (m ≡ Fresh) ⊎ ((m ≡ Open) ⊎ (m ≡ Done))
mark_cases Fresh = inl refl
mark_cases Open = inr (inl refl)
mark_cases Done = inr (inr refl)

-- met nodes stay met: if nothing changes, through two changes, and if x gets a mark
pub kept_same : (marks : List Mark) → KeepsSeen marks marks
kept_same marks = record { seen = λ x was. was; one_each = refl }

pub kept_through : {old mid new : List Mark} → KeepsSeen old mid → KeepsSeen mid new → KeepsSeen old new
kept_through first then = record {
  seen = λ x was. then.seen x (first.seen x was);
  one_each = then.one_each ∙ first.one_each;
}

pub kept_set : (marks : List Mark) (x : ℕ) (m : Mark) → m ≢ Fresh → x < length marks → KeepsSeen marks (set marks x m)
kept_set marks x m other l = record {
  seen = λ y was is. elim (mark_set marks x y m l) [ inl w ↦ other (sym w.1 ∙ is) | inr w ↦ was (sym w.1 ∙ is) ];
  one_each = length-set marks x m;
}

-- how many marks pass a test after one was set
pub count_by-set : (p : Mark → Bool) (marks : List Mark) (x : ℕ) (m : Mark) → x < length marks
    → count_by p (set marks x m) + count_by p (mark_of marks x ∷ []) ≡ count_by p marks + count_by p (m ∷ [])
count_by-set p marks x m l = omega (arith, sum_by-set (λ (v : Mark). cond {A = ℕ} (p v) 1 0) marks x m Fresh l)

pub fewer_fresh : (marks : List Mark) (x : ℕ) → x < length marks → mark_of marks x ≡ Fresh
    → count_by is_fresh (set marks x Open) + 1 ≡ count_by is_fresh marks
fewer_fresh marks x l f =
    let one : count_by is_fresh (mark_of marks x ∷ []) ≡ 1 = rw f refl in
    omega (arith, count_by-set is_fresh marks x Open l, one)

pub no_more_fresh : (marks : List Mark) (x : ℕ) → x < length marks
    → count_by is_fresh (set marks x Done) ≤ count_by is_fresh marks
no_more_fresh marks x l = omega (arith, count_by-set is_fresh marks x Done l)

pub same_done : (marks : List Mark) (x : ℕ) → x < length marks → mark_of marks x ≡ Fresh
    → count_by is_done (set marks x Open) ≡ count_by is_done marks
same_done marks x l f =
    let none : count_by is_done (mark_of marks x ∷ []) ≡ 0 = rw f refl in
    omega (arith, count_by-set is_done marks x Open l, none)

pub more_done : (marks : List Mark) (x : ℕ) → x < length marks → mark_of marks x ≡ Open
    → count_by is_done (set marks x Done) ≡ count_by is_done marks + 1
more_done marks x l f =
    let none : count_by is_done (mark_of marks x ∷ []) ≡ 0 = rw f refl in
    omega (arith, count_by-set is_done marks x Done l, none)

-- a node that was met and is not done is open
pub met_open : (marks : List Mark) (x : ℕ) → mark_of marks x ≢ Fresh → mark_of marks x ≢ Done → mark_of marks x ≡ Open
met_open marks x met other = elim (mark_cases (mark_of marks x)) [
  | inl f ↦ absurd (met f)
  | inr more ↦ elim more [ inl o ↦ o | inr d ↦ absurd (other d) ]
]

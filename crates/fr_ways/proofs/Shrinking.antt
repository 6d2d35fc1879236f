-- What nodes have after each phase.
use Rattle.std.proofs.Common.{Bool, Contains, List, [], ap, cond, eqb, false, inl, inr, refl, subst, sym, true, ℕ}
use Rattle.std.proofs.Common.{⊎_elim, ◌∙◌, ◌∷◌, ◌≡◌, ◌⊎◌}
use Rattle.std.specs.Cmp.{nat_eq_equiv}
use Rattle.std.specs.List.{filter, list_any}
use Rattle.std.specs.Prelude.{not, ◌||◌}
use Rattle.std.proofs.lemmas.Bool.{cases_Bool, eqb-true, false≢true}
use Rattle.std.proofs.lemmas.Map.Views.{Contains-from_any, list_any-from_Contains}
use Rattle.fr_tables.proofs.Members.{Contains-cases, Contains-head, Contains-none, Contains-tail}
use Rattle.fr_ways.specs.Phases.{IsGrowing, IsMixed, IsShrinking, is_way, kept, loses, shrunk}
use Rattle.fr_ways.specs.Ways.{HasNoCycle, IsPartOf, Sends, ways}
use Rattle.fr_ways.proofs.Parts.{part_free}
use Rattle.fr_ways.proofs.Tables.{sends_as}

-- tests on lists

pub way_true : (xs : List ℕ) (y : ℕ) → is_way xs y ≡ true → Contains xs y
way_true xs y t = Contains-from_any {eq = eqb} eqb-true y xs t

pub way_yes : (xs : List ℕ) (y : ℕ) → Contains xs y → is_way xs y ≡ true
way_yes xs y found = list_any-from_Contains {eq = eqb} nat_eq_equiv y xs found

module _ (p : ℕ → Bool) where
  pub any_true : (xs : List ℕ) → list_any p xs ≡ true → (y : ℕ) × Contains xs y × (p y ≡ true)
  any_true [] t = absurd (false≢true t)
  any_true (x ∷ xs) t = elim (cases_Bool (p x)) [
    | inl passes ↦ (x, Contains-head x xs, passes)
    | inr fails ↦
        let (y, found, passes) = any_true xs (sym (ap (λ (b : Bool). b || list_any p xs) fails) ∙ t) in
        (y, Contains-tail y x xs found, passes)
  ]

  pub any_yes : (xs : List ℕ) (y : ℕ) → Contains xs y → p y ≡ true → list_any p xs ≡ true
  any_yes [] y found passes = absurd (Contains-none y found)
  any_yes (x ∷ xs) y found passes = elim (cases_Bool (p x)) [
    | inl here ↦ ap (λ (b : Bool). b || list_any p xs) here
    | inr fails ↦ ap (λ (b : Bool). b || list_any p xs) fails ∙ any_yes xs y
        (⊎_elim (λ e. absurd (false≢true (sym fails ∙ (ap p e ∙ passes)))) (λ later. later)
        (Contains-cases y x xs found)) passes
  ]

  pub filter_from : (xs : List ℕ) (y : ℕ) → Contains (filter p xs) y → Contains xs y × (p y ≡ true)
  filter_from [] y found = absurd (Contains-none y found)
  filter_from (x ∷ xs) y found = elim (cases_Bool (p x)) [
    | inl passes ↦ ⊎_elim
        (λ e. (subst (Contains (x ∷ xs)) e (Contains-head x xs), ap p (sym e) ∙ passes))
        (λ later. let (was, is) = filter_from xs y later in (Contains-tail y x xs was, is))
        (Contains-cases y x (filter p xs)
        (subst (λ (ys : List ℕ). Contains ys y)
        (ap (λ (b : Bool). cond b (x ∷ filter p xs) (filter p xs)) passes) found))
    | inr fails ↦
        let (was, is) = filter_from xs y
        (subst (λ (ys : List ℕ). Contains ys y)
        (ap (λ (b : Bool). cond b (x ∷ filter p xs) (filter p xs)) fails) found) in
        (Contains-tail y x xs was, is)
  ]

  filter_whole : (xs : List ℕ) → ((y : ℕ) → Contains xs y → p y ≡ true) → filter p xs ≡ xs
  filter_whole [] all = refl
  filter_whole (x ∷ xs) all =
      ap (λ (b : Bool). cond b (x ∷ filter p xs) (filter p xs)) (all x (Contains-head x xs))
      ∙ ap (λ (ys : List ℕ). x ∷ ys) (filter_whole xs (λ y found. all y (Contains-tail y x xs found)))

-- a node that has the same ways in both tables loses none
pub same_loses : (old new : List (List ℕ)) (x : ℕ) → ways old x ≡ ways new x → loses old new x ≡ false
same_loses old new x same = elim (cases_Bool (loses old new x)) [
  | inl t ↦
      let (y, was, lost) = any_true (λ y. not (is_way (ways new x) y)) (ways old x) t in
      absurd (false≢true (sym (ap not (way_yes (ways new x) y (subst (λ (zs : List ℕ). Contains zs y) same was)))
      ∙ lost))
  | inr f ↦ f
]

module _ (old new : List (List ℕ)) (x : ℕ) where
  pub shrunk_loser : loses old new x ≡ true → shrunk old new x ≡ kept old new x
  shrunk_loser t = ap (λ (b : Bool). cond b (kept old new x) (ways old x)) t

  pub shrunk_other : loses old new x ≡ false → shrunk old new x ≡ ways old x
  shrunk_other f = ap (λ (b : Bool). cond b (kept old new x) (ways old x)) f

  -- a node that loses no way has all its old ways in the new table
  keeps_all : loses old new x ≡ false → (y : ℕ) → Sends old x y → Sends new x y
  keeps_all f y was = elim (cases_Bool (is_way (ways new x) y)) [
    | inl t ↦ way_true (ways new x) y t
    | inr fails ↦ absurd (false≢true (sym f
        ∙ any_yes (λ z. not (is_way (ways new x) z)) (ways old x) y was (ap not fails)))
  ]

  shrunk_both : (y : ℕ) → Contains (shrunk old new x) y → Sends old x y × Sends new x y
  shrunk_both y found = elim (cases_Bool (loses old new x)) [
    | inl t ↦
        let (of_new, was) = filter_from (is_way (ways old x)) (ways new x) y
        (subst (λ (ys : List ℕ). Contains ys y) (shrunk_loser t) found) in
        (way_true (ways old x) y was, of_new)
    | inr f ↦
        let was : Sends old x y = subst (λ (ys : List ℕ). Contains ys y) (shrunk_other f) found in
        (was, keeps_all f y was)
  ]

pub shrinking_old : (old new table : List (List ℕ)) → IsShrinking old new table → IsPartOf table old
shrinking_old old new table is x y sends = ⊎_elim
    (λ same. sends_as table old x y same sends)
    (λ same. (shrunk_both old new x y (subst (λ (ys : List ℕ). Contains ys y) same sends)).0)
    (is x)

pub growing_new : (old new table : List (List ℕ)) → IsGrowing old new table → IsPartOf table new
growing_new old new table is x y sends = ⊎_elim
    (λ same. (shrunk_both old new x y (subst (λ (ys : List ℕ). Contains ys y) same sends)).1)
    (λ same. sends_as table new x y same sends)
    (is x)

pub phases_free : (old new table part : List (List ℕ)) → HasNoCycle old → HasNoCycle new
    → IsShrinking old new table ⊎ IsGrowing old new table → IsPartOf part table → HasNoCycle part
phases_free old new table part was free phase is = ⊎_elim
    (λ shrinks. part_free (Sends part) (Sends old)
    (λ x y sends. shrinking_old old new table shrinks x y (is x y sends)) was)
    (λ grows. part_free (Sends part) (Sends new)
    (λ x y sends. growing_new old new table grows x y (is x y sends)) free)
    phase

pub loser_done : (old new : List (List ℕ)) (x : ℕ) → ((y : ℕ) → Sends new x y → Sends old x y)
    → (y : ℕ) × Sends old x y × ¬ Sends new x y → shrunk old new x ≡ ways new x
loser_done old new x all (y, was, lost) = elim (cases_Bool (loses old new x)) [
  | inl t ↦ shrunk_loser old new x t
      ∙ filter_whole (is_way (ways old x)) (ways new x) (λ z found. way_yes (ways old x) z (all z found))
  | inr f ↦ absurd (lost (keeps_all old new x f y was))
]

pub one_phase : (old new table part : List (List ℕ)) → HasNoCycle old → HasNoCycle new
    → IsPartOf old new ⊎ IsPartOf new old → IsMixed old new table → IsPartOf part table → HasNoCycle part
one_phase old new table part was free one mixed is = ⊎_elim
    (λ more. part_free (Sends part) (Sends new) (λ x y sends. ⊎_elim
    (λ same. more x y (sends_as table old x y same (is x y sends)))
    (λ same. sends_as table new x y same (is x y sends))
    (mixed x)) free)
    (λ fewer. part_free (Sends part) (Sends old) (λ x y sends. ⊎_elim
    (λ same. sends_as table old x y same (is x y sends))
    (λ same. fewer x y (sends_as table new x y same (is x y sends)))
    (mixed x)) was)
    one

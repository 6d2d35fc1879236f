-- Ways that are noted by their numbers: what the notes say.
use Rattle.std.proofs.Common.{Bool, Contains, List, [], ap, arith, cond, false, get_or, inl, inr, length, length-set}
use Rattle.std.proofs.Common.{refl, set, subst, sym, true, ℕ, ⊎_elim}
use Rattle.std.proofs.Common.{◌++◌, ◌<◌, ◌∙◌, ◌∷◌, ◌≡◌, ◌≤◌}
use Rattle.std.specs.List.{filter, list_any}
use Rattle.std.specs.Prelude.{◌||◌}
use Rattle.std.proofs.lemmas.Bool.{cases_Bool, cases_eq, cases_lt, false≢true}
use Rattle.std.proofs.lemmas.List.{get_or-set_other, get_or-set_same, get_or_past}
use Rattle.std.proofs.lemmas.List.Elements.{Contains-append_left, Contains-push, Contains-push_cases}
use Rattle.fr_tables.proofs.Members.{Contains-head, Contains-tail}
use Rattle.fr_ways.specs.Phases.{is_way}
use Rattle.fr_ways.specs.Plans.{AreNoted}
use Rattle.fr_ways.proofs.Shrinking.{way_true, way_yes}

-- one more way is noted, or names no node
pub noted_more : (done : List ℕ) (noted : List Bool) (x : ℕ) → AreNoted done noted
    → AreNoted (done ++ x ∷ []) (set noted x true)
noted_more done noted x before y low =
    let inside : y < length noted = omega (arith, low, length-set noted x true) in
    elim (cases_eq y x) [
      | inl e ↦ (
        λ _. subst (Contains (done ++ x ∷ [])) (sym e) (Contains-push done x),
        λ _. subst (λ (z : ℕ). get_or (set noted x true) z false ≡ true) (sym e)
            (get_or-set_same noted x true false (omega (arith, inside, e))),
      )
      | inr apart ↦
          let there = get_or-set_other noted x y true false apart in (
            λ t. Contains-append_left done (x ∷ []) y ((before y inside).0 (sym there ∙ t)),
            λ found. there ∙ (before y inside).1
                (⊎_elim (λ was. was) (λ e. absurd (apart (sym e))) (Contains-push_cases done x y found)),
          )
    ]

pub noted_skip : (done : List ℕ) (noted : List Bool) (x : ℕ) → length noted ≤ x → AreNoted done noted
    → AreNoted (done ++ x ∷ []) noted
noted_skip done noted x out before y low = (
  λ t. Contains-append_left done (x ∷ []) y ((before y low).0 t),
  λ found. (before y low).1 (⊎_elim (λ was. was) (λ e. absurd (omega (arith, low, out, e)))
      (Contains-push_cases done x y found)),
)

-- what a note says of a node
pub noted_node : (list : List ℕ) (noted : List Bool) (y : ℕ) → AreNoted list noted → y < length noted
    → get_or noted y false ≡ is_way list y
noted_node list noted y are low = elim (cases_Bool (is_way list y)) [
  | inl t ↦ (are y low).1 (way_true list y t) ∙ sym t
  | inr f ↦ elim (cases_Bool (get_or noted y false)) [
    | inl on ↦ absurd (false≢true (sym f ∙ way_yes list y ((are y low).0 on)))
    | inr off ↦ off ∙ sym f
  ]
]

-- and of any number, if all these ways name nodes
pub noted_any : (list : List ℕ) (noted : List Bool) (y : ℕ) → AreNoted list noted
    → ((z : ℕ) → Contains list z → z < length noted)
    → get_or noted y false ≡ is_way list y
noted_any list noted y are inside = elim (cases_lt y (length noted)) [
  | inl low ↦ noted_node list noted y are low
  | inr out ↦ get_or_past noted y false out ∙ elim (cases_Bool (is_way list y)) [
    | inl t ↦ absurd (omega (arith, out, inside y (way_true list y t)))
    | inr f ↦ sym f
  ]
]

module _ (p q : ℕ → Bool) where
  pub any_same : (xs : List ℕ) → ((y : ℕ) → p y ≡ q y) → list_any p xs ≡ list_any q xs
  any_same [] same = refl
  any_same (x ∷ xs) same = ap (λ (b : Bool). b || list_any p xs) (same x)
      ∙ ap (λ (b : Bool). q x || b) (any_same xs same)

  pub filter_same : (xs : List ℕ) → ((y : ℕ) → Contains xs y → p y ≡ q y) → filter p xs ≡ filter q xs
  filter_same [] same = refl
  filter_same (x ∷ xs) same =
      ap (λ (b : Bool). cond b (x ∷ filter p xs) (filter p xs)) (same x (Contains-head x xs))
      ∙ ap (λ (ys : List ℕ). cond (q x) (x ∷ ys) ys) (filter_same xs (λ y found. same y (Contains-tail y x xs found)))

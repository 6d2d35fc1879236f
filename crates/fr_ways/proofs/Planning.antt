-- The pushes for one more node, and the phases once all nodes are planned.
use Rattle.std.proofs.Common.{Bool, Global, List, Vec, [], ap, append-nil, arith, cond, false, inl, inr, length, map}
use Rattle.std.proofs.Common.{refl, subst, sym, true, ℕ, ◌++◌, ◌+◌, ◌∙◌, ◌∷◌, ◌≡◌, ◌≢◌}
use Rattle.std.specs.List.{filter, range_with_len}
use Rattle.std.specs.Prelude.{bytes_eq, not, ◌&&◌}
use Rattle.std.proofs.lemmas.Bool.{cases_Bool, false≢true}
use Rattle.std.proofs.lemmas.List.{map-append}
use Rattle.std.proofs.lemmas.List.Elements.{filter-append}
use Rattle.std.proofs.lemmas.List.FromFn.{map-range_with_len_more}
use lib.Pointwise.{bytes_decides}
use Rattle.fr_ways.specs.Faults.{ArePhases, ArePushes}
use Rattle.fr_ways.specs.Phases.{differs, empties, grows, is_empty, kept, loses, sheds}
use Rattle.fr_ways.specs.Plans.{IsPlan, IsPushedIf}
use Rattle.fr_ways.specs.Ways.{ways}
use Rattle.fr_ways.specs.declared.plan.Plan.{Plan}
use Rattle.fr_ways.specs.declared.plan.Pushes.{Pushes}
use Rattle.fr_ways.specs.declared.plan.TwoPhases.{TwoPhases}
use Rattle.fr_ways.proofs.Shrinking.{same_loses, shrunk_loser, shrunk_other}

-- tests

pub differs_no : (some other : List ℕ) → some ≡ other → differs some other ≡ false
differs_no some other same = ap not ((bytes_decides some other).1 same)

pub differs_yes : (some other : List ℕ) → some ≢ other → differs some other ≡ true
differs_yes some other apart = elim (cases_Bool (bytes_eq some other)) [
  | inl t ↦ absurd (apart ((bytes_decides some other).0 t))
  | inr f ↦ ap not f
]

empty_is : (list : List ℕ) → is_empty list ≡ true → list ≡ []
empty_is [] t = refl
empty_is (y ∷ ys) t = absurd (false≢true t)

and_right : (a b : Bool) → (a && b) ≡ true → b ≡ true
and_right true b t = t
and_right false b t = absurd (false≢true t)

-- pushes under a test
pub pushed_no : (x : ℕ) (list : List ℕ) (test : Bool) (before after : Pushes) → test ≡ false → after ≡ before
    → IsPushedIf test x list before after
pushed_no x list test before after fails same = subst (λ (a : Pushes). IsPushedIf test x list before a) (sym same)
    (subst (λ (b : Bool). IsPushedIf b x list before before) (sym fails)
    (record { nodes = sym (append-nil before.nodes.items); lists = sym (append-nil before.lists) }))

map_id : (xs : List ℕ) → map (λ (k : ℕ). k) xs ≡ xs
map_id [] = refl
map_id (x ∷ xs) = ap (λ (ys : List ℕ). x ∷ ys) (map_id xs)

range_more : (x : ℕ) → range_with_len 0 (x + 1) ≡ range_with_len 0 x ++ x ∷ []
range_more x = sym (map_id (range_with_len 0 (x + 1)))
    ∙ (map-range_with_len_more (λ (k : ℕ). k) 0 x x (omega arith)
    ∙ ap (λ (ys : List ℕ). ys ++ x ∷ []) (map_id (range_with_len 0 x)))

pub filter_range : (p : ℕ → Bool) (x : ℕ)
    → filter p (range_with_len 0 (x + 1)) ≡ filter p (range_with_len 0 x) ++ cond (p x) (x ∷ []) []
filter_range p x = ap (filter p) (range_more x) ∙ filter-append p (range_with_len 0 x) (x ∷ [])

pub map_cond : {A : Type 0} (f : ℕ → A) (x : ℕ) (b : Bool) → map f (cond b (x ∷ []) []) ≡ cond b (f x ∷ []) []
map_cond f x true = refl
map_cond f x false = refl

pushes_more : (p : ℕ → Bool) (f : ℕ → List ℕ) (x : ℕ) (before after : Pushes)
    → ArePushes (filter p (range_with_len 0 x)) f before
    → IsPushedIf (p x) x (f x) before after → ArePushes (filter p (range_with_len 0 (x + 1))) f after
pushes_more p f x before after are is = record {
  these = is.nodes ∙ (ap (λ (ys : List ℕ). ys ++ cond (p x) (x ∷ []) []) are.these ∙ sym (filter_range p x));
  lists = is.lists ∙ (ap (λ (t : List (List ℕ)). t ++ cond (p x) (f x ∷ []) []) are.lists
      ∙ sym (ap (map f) (filter_range p x) ∙ (map-append f (filter p (range_with_len 0 x)) (cond (p x) (x ∷ []) [])
      ∙ ap (λ (t : List (List ℕ)). map f (filter p (range_with_len 0 x)) ++ t) (map_cond f x (p x)))));
}

module _ (old new : List (List ℕ)) (x : ℕ) (before after : Plan) (is : IsPlan old new x before) where
  -- a node that loses ways
  pub plan_loser : loses old new x ≡ true
      → IsPushedIf (not (is_empty (kept old new x))) x (kept old new x) before.phases.shrink after.phases.shrink
      → after.emptied.items ≡ before.emptied.items ++ cond (is_empty (kept old new x)) (x ∷ []) []
      → IsPushedIf (differs (kept old new x) (ways new x)) x (ways new x) before.phases.grow after.phases.grow
      → IsPlan old new (x + 1) after
  plan_loser t shrinks emptied grows_too = record {
    shrink = pushes_more (sheds old new) (kept old new) x before.phases.shrink after.phases.shrink is.shrink
        (subst (λ (b : Bool). IsPushedIf b x (kept old new x) before.phases.shrink after.phases.shrink)
        (sym (ap (λ (b : Bool). b && not (is_empty (kept old new x))) t)) shrinks);
    emptied = emptied ∙ (ap (λ (b : Bool). before.emptied.items ++ cond b (x ∷ []) [])
        (sym (ap (λ (b : Bool). b && is_empty (kept old new x)) t))
        ∙ (ap (λ (ys : List ℕ). ys ++ cond (empties old new x) (x ∷ []) []) is.emptied
        ∙ sym (filter_range (empties old new) x)));
    grow = pushes_more (grows old new) (ways new) x before.phases.grow after.phases.grow is.grow
        (subst (λ (ys : List ℕ). IsPushedIf (differs ys (ways new x)) x
        (ways new x) before.phases.grow after.phases.grow)
        (sym (shrunk_loser old new x t)) grows_too);
  }

  -- any other node
  pub plan_other : loses old new x ≡ false → after.phases.shrink ≡ before.phases.shrink
      → after.emptied ≡ before.emptied
      → IsPushedIf (differs (ways old x) (ways new x)) x (ways new x) before.phases.grow after.phases.grow
      → IsPlan old new (x + 1) after
  plan_other f same_shrink same_emptied grows_too = record {
    shrink = pushes_more (sheds old new) (kept old new) x before.phases.shrink after.phases.shrink is.shrink
        (pushed_no x (kept old new x) (sheds old new x) before.phases.shrink after.phases.shrink
        (ap (λ (b : Bool). b && not (is_empty (kept old new x))) f) same_shrink);
    emptied = ap (λ (v : Vec ℕ Global). v.items) same_emptied
        ∙ (is.emptied ∙ (sym (append-nil (filter (empties old new) (range_with_len 0 x)))
        ∙ (ap (λ (b : Bool). filter (empties old new) (range_with_len 0 x) ++ cond b (x ∷ []) [])
        (sym (ap (λ (b : Bool). b && is_empty (kept old new x)) f)) ∙ sym (filter_range (empties old new) x))));
    grow = pushes_more (grows old new) (ways new) x before.phases.grow after.phases.grow is.grow
        (subst (λ (ys : List ℕ). IsPushedIf (differs ys (ways new x)) x
        (ways new x) before.phases.grow after.phases.grow)
        (sym (shrunk_other old new x f)) grows_too);
  }

-- a node that has its new ways already
pub plan_same : (old new : List (List ℕ)) (x : ℕ) (plan : Plan) → IsPlan old new x plan → ways old x ≡ ways new x
    → IsPlan old new (x + 1) plan
plan_same old new x plan is same = plan_other old new x plan plan is (same_loses old new x same) refl refl
    (pushed_no x (ways new x) (differs (ways old x) (ways new x)) plan.phases.grow plan.phases.grow
    (differs_no (ways old x) (ways new x) same) refl)

-- a node that keeps no way has an empty list
pub empties_none : (old new : List (List ℕ)) (x : ℕ) → empties old new x ≡ true → kept old new x ≡ []
empties_none old new x t = empty_is (kept old new x) (and_right (loses old new x) (is_empty (kept old new x)) t)

-- functions that agree where a filter passes
pub map_passed : {A : Type 0} (f g : ℕ → A) (p : ℕ → Bool) → ((x : ℕ) → p x ≡ true → f x ≡ g x) → (xs : List ℕ)
    → map f (filter p xs) ≡ map g (filter p xs)
map_passed f g p same [] = refl
map_passed {A} f g p same (x ∷ xs) = elim (cases_Bool (p x)) [
  | inl t ↦
      let is : filter p (x ∷ xs) ≡ x ∷ filter p xs = ap (λ (b : Bool). cond b (x ∷ filter p xs) (filter p xs)) t in
      ap (map f) is
      ∙ (ap (λ (y : A). y ∷ map f (filter p xs)) (same x t)
      ∙ (ap (λ (ys : List A). g x ∷ ys) (map_passed f g p same xs) ∙ sym (ap (map g) is)))
  | inr t ↦
      let is : filter p (x ∷ xs) ≡ filter p xs = ap (λ (b : Bool). cond b (x ∷ filter p xs) (filter p xs)) t in
      ap (map f) is ∙ (map_passed f g p same xs ∙ sym (ap (map g) is))
]

pub phases_from : (old new : List (List ℕ)) (below : ℕ) (plan : Plan) (phases : TwoPhases)
    → IsPlan old new below plan → below ≡ length new
    → phases.shrink.nodes.items ≡ plan.phases.shrink.nodes.items ++ plan.emptied.items
    → phases.shrink.lists ≡ plan.phases.shrink.lists ++ map (λ (x : ℕ). []) plan.emptied.items
    → phases.grow ≡ plan.phases.grow → ArePhases old new phases
phases_from old new below plan phases is all nodes lists grow =
    let whole : IsPlan old new (length new) plan = subst (λ (n : ℕ). IsPlan old new n plan) all is in
    let first = filter (sheds old new) (range_with_len 0 (length new)) in
    let last = filter (empties old new) (range_with_len 0 (length new)) in
    record {
      shrink = record {
        these = nodes ∙ (ap (λ (ys : List ℕ). ys ++ plan.emptied.items) whole.shrink.these
            ∙ ap (λ (ys : List ℕ). first ++ ys) whole.emptied);
        lists = lists ∙ (ap (λ (t : List (List ℕ)). t ++ map (λ (x : ℕ). []) plan.emptied.items) whole.shrink.lists
            ∙ (ap (λ (ys : List ℕ). map (kept old new) first ++ map (λ (x : ℕ). []) ys) whole.emptied
            ∙ (ap (λ (t : List (List ℕ)). map (kept old new) first ++ t)
            (map_passed (λ (x : ℕ). []) (kept old new) (empties old new) (λ x t. sym (empties_none old new x t))
            (range_with_len 0 (length new)))
            ∙ sym (map-append (kept old new) first last))));
      };
      grow = subst (ArePushes (filter (grows old new) (range_with_len 0 (length new))) (ways new))
          (sym grow) whole.grow;
    }

use Rattle.std.proofs.Common.{◌≡◌, ◌∙◌, ◌++◌, List, [], ◌∷◌, ℕ, ap, append-nil, arith, inl, inr, length, map, refl, sym}
use Rattle.std.specs.List.{zip}
use Rattle.revdot.specs.Strips.{turn_link}
use Rattle.revdot.proofs.strips.turn_links.Goals as goal

no_first : (xs ys : List (ℕ × ℕ)) → length xs ≡ 0 → zip xs ys ≡ []
no_first [] ys none = refl
no_first (x ∷ xs) ys none = absurd (omega arith)

no_second : (xs ys : List (ℕ × ℕ)) → length ys ≡ 0 → zip xs ys ≡ []
no_second [] ys none = refl
no_second (x ∷ xs) [] none = refl
no_second (x ∷ xs) (y ∷ ys) none = absurd (omega arith)

pub returns : goal.returns
returns c =
    let drawn = c.loop-stands.drawn.items in
    let f = turn_link c.args.x in
    let first = c.loop-stands.stands-iterator.a.rest.now in
    let second = c.loop-stands.stands-iterator.b.rest.now in
    let left : zip first second ≡ [] =
    elim c.in-None.ensures.steps [
      | inl none ↦ no_first first second none.1.0
      | inr none ↦ no_second first second none.1.0
    ] in
    sym (append-nil drawn)
    ∙ (ap (λ (ps : List ((ℕ × ℕ) × (ℕ × ℕ))). drawn ++ map f ps) (sym left) ∙ c.loop-stands.invariant)

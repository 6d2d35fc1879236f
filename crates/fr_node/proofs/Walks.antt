-- Walks along links that lead down in some height do not come back.
use Rattle.std.proofs.Common.{List, [], ap, arith, inl, inr, refl, subst, sym, ℕ, ◌∷◌, ◌<◌, ◌≡◌, ◌≤◌, ◌⊎◌}
use Rattle.fr_node.specs.Routers.{IsBelow, end_of}

-- below, or at the same router
abbrev IsAtMost : (height : ℕ → ℕ) (w x : ℕ) → Type 0
IsAtMost height w x = (height w < height x) ⊎ ((height w ≡ height x) × (w ≤ x))

after_down : (height : ℕ → ℕ) (a b c : ℕ) → IsAtMost height a b → IsBelow (height b) b (height c) c
    → IsBelow (height a) a (height c) c
after_down height a b c (inl l) (inl r) = inl (omega (arith, l, r))
after_down height a b c (inl l) (inr r) = inl (omega (arith, l, r.0))
after_down height a b c (inr l) (inl r) = inl (omega (arith, l.0, r))
after_down height a b c (inr l) (inr r) = inr (omega (arith, l.0, r.0), omega (arith, l.1, r.1))

at_most : (height : ℕ → ℕ) (a c : ℕ) → IsBelow (height a) a (height c) c → IsAtMost height a c
at_most height a c (inl l) = inl l
at_most height a c (inr r) = inr (r.0, omega (arith, r.1))

not_itself : (height : ℕ → ℕ) (u w : ℕ) → w ≡ u → ¬ IsBelow (height w) w (height u) u
not_itself height u w e (inl l) = omega (arith, l, ap height e)
not_itself height u w e (inr r) = omega (arith, r.1, e)

-- a link x to w leads down if links lead to x and on from w
module _ (Uses : ℕ → ℕ → Type 0) (Walk : ℕ → List ℕ → Type 0)
    (first : (u v : ℕ) (vs : List ℕ) → Walk u (v ∷ vs) → Uses u v × Walk v vs) (height : ℕ → ℕ)
    (down : (a x w b : ℕ) → Uses a x → Uses x w → Uses w b → IsBelow (height w) w (height x) x) where
  -- the first link of a walk with one link more
  first_of : (v : ℕ) (vs : List ℕ) → Walk v vs → (b : ℕ) → Uses (end_of v vs) b → (c : ℕ) × Uses v c
  first_of v [] walk b on = (b, on)
  first_of v (w ∷ vs) walk b on = (w, (first v w vs walk).0)

  last_of : (u v : ℕ) (vs : List ℕ) → Walk u (v ∷ vs) → (a : ℕ) × Uses a (end_of v vs)
  last_of u v [] walk = (u, (first u v [] walk).0)
  last_of u v (w ∷ vs) walk = last_of v w vs (first u v (w ∷ vs) walk).1

  step_of : (a u v : ℕ) (vs : List ℕ) → Uses a u → Walk u (v ∷ vs) → (b : ℕ) → Uses (end_of v vs) b
      → IsBelow (height v) v (height u) u
  step_of a u v vs to walk b on = let link = first u v vs walk in let next = first_of v vs link.1 b on in
      down a u v next.0 to link.0 next.1

  walk_down : (a u : ℕ) (vs : List ℕ) → Uses a u → Walk u vs → (b : ℕ) → Uses (end_of u vs) b
      → IsAtMost height (end_of u vs) u
  walk_down a u [] to walk b on = inr (refl, omega arith)
  walk_down a u (v ∷ vs) to walk b on = let link = first u v vs walk in at_most height (end_of v vs) u
      (after_down height (end_of v vs) v u (walk_down u v vs link.0 link.1 b on) (step_of a u v vs to walk b on))

  pub no_return : (u v : ℕ) (vs : List ℕ) → Walk u (v ∷ vs) → ¬ (end_of v vs ≡ u)
  no_return u v vs walk back =
      let link = first u v vs walk in
      let last = last_of u v vs walk in
      let to : Uses last.0 u = subst (λ y. Uses last.0 y) back last.1 in
      let on : Uses (end_of v vs) v = subst (λ y. Uses y v) (sym back) link.0 in
      not_itself height u (end_of v vs) back
      (after_down height (end_of v vs) v u (walk_down u v vs link.0 link.1 v on) (step_of last.0 u v vs to walk v on))

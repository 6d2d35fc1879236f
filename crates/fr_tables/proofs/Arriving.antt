-- Which nodes have a route: those downstream of a node with a route, and only such nodes.
use Rattle.std.proofs.Common.{Contains, List, None, Option, Some, [], inl, inr, refl, slice_get, subst, sym, ℕ, ⊎_elim}
use Rattle.std.proofs.Common.{◌∙◌, ◌∷◌, ◌≡◌, ◌↔◌, ◌⊎◌}
use Rattle.fr_tables.specs.Pushes.{AreAlike}
use Rattle.fr_tables.specs.Tables.{Arrives, IsDownstream, IsWalk, IsWholeWalk, SendsOn, end_of}
use Rattle.fr_tables.specs.declared.hop.Hop.{Hop}
use Rattle.fr_tables.specs.declared.hop.Hop.TheVariants.{CutOff, Here, To}
use Rattle.fr_tables.proofs.Members.{Contains-cases, Contains-none}
use Rattle.fr_tables.proofs.Walks.{sends_one}

module _ (table : List Hop) where
  pub arrives_before : (x y : ℕ) → SendsOn table x y → Arrives table y → Arrives table x
  arrives_before x y sends r = record { by = y ∷ r.by; goes = (sends, r.goes); home = r.home }

  pub arrives_next : (x y : ℕ) → SendsOn table x y → Arrives table x → Arrives table y
  arrives_next x y sends r = go r.by r.goes r.home
    where
      go : (by : List ℕ) → IsWalk table x by → slice_get table (end_of x by) ≡ Some Here → Arrives table y
      go [] goes home = let e : Some (To y) ≡ Some Here = sym sends ∙ home in cc
      go (z ∷ zs) goes home =
          subst (Arrives table) (sends_one table x z y goes.0 sends) (record { by = zs; goes = goes.1; home = home })

  -- a node that sends on to none
  pub arrives_end : (x : ℕ) → ((y : ℕ) → ¬ SendsOn table x y) → Arrives table x ↔ (slice_get table x ≡ Some Here)
  arrives_end x ends = (λ r. go r.by r.goes r.home, λ home. record { by = []; goes = tt; home = home })
    where
      go : (by : List ℕ) → IsWalk table x by → slice_get table (end_of x by) ≡ Some Here → slice_get table x ≡ Some Here
      go [] goes home = home
      go (z ∷ zs) goes home = absurd (ends z goes.0)

  pub arrives_along : (x : ℕ) (ys : List ℕ) → IsWalk table x ys → Arrives table x ↔ Arrives table (end_of x ys)
  arrives_along x [] goes = (λ r. r, λ r. r)
  arrives_along x (y ∷ ys) goes =
      let more = arrives_along y ys goes.1 in
      (λ r. more.0 (arrives_next x y goes.0 r), λ r. arrives_before x y goes.0 (more.1 r))

  pub alike_downstream : (x y : ℕ) → IsDownstream table x y → AreAlike table x y
  alike_downstream x y down =
      subst (λ (z : ℕ). Arrives table x ↔ Arrives table z) down.ends (arrives_along x down.by down.goes)

  -- the nodes of a walk all have a route, or none has
  member_alike : (x z : ℕ) (ys : List ℕ) → IsWalk table x ys → Contains (x ∷ ys) z → Arrives table x ↔ Arrives table z
  member_alike x z [] goes found = ⊎_elim
      (λ e. subst (λ (w : ℕ). Arrives table x ↔ Arrives table w) e (λ r. r, λ r. r))
      (λ none. absurd (Contains-none z none))
      (Contains-cases z x [] found)
  member_alike x z (y ∷ ys) goes found = ⊎_elim
      (λ e. subst (λ (w : ℕ). Arrives table x ↔ Arrives table w) e (λ r. r, λ r. r))
      (λ later.
      let more = member_alike y z ys goes.1 later in
      (λ r. more.0 (arrives_next x y goes.0 r), λ r. arrives_before x y goes.0 (more.1 r)))
      (Contains-cases z x (y ∷ ys) found)

  pub arrives_member : (x z : ℕ) (ys : List ℕ) → Arrives table x → IsWalk table x ys → Contains (x ∷ ys) z
      → Arrives table z
  arrives_member x z ys home goes found = (member_alike x z ys goes found).0 home

  pub arrives_not : (x z : ℕ) (ys : List ℕ) → ¬ Arrives table x → IsWalk table x ys → Contains (x ∷ ys) z
      → ¬ Arrives table z
  arrives_not x z ys lost goes found home = lost ((member_alike x z ys goes found).1 home)

  -- a walk that ends shows whether its node has a route
  pub cases_arrives : (x : ℕ) (ys : List ℕ) → IsWholeWalk table x ys → Arrives table x ⊎ ¬ Arrives table x
  cases_arrives x ys whole = by_hop (slice_get table (end_of x ys)) refl
    where
      lost : ¬ (slice_get table (end_of x ys) ≡ Some Here) → ¬ Arrives table x
      lost not r = not ((arrives_end (end_of x ys) whole.ends).0 ((arrives_along x ys whole.goes).0 r))

      by_hop : (hop : Option Hop) → slice_get table (end_of x ys) ≡ hop → Arrives table x ⊎ ¬ Arrives table x
      by_hop None is = inr (lost (λ e. cc))
      by_hop (Some Here) is = inl (record { by = ys; goes = whole.goes; home = is })
      by_hop (Some (To y)) is = inr (lost (λ e. cc))
      by_hop (Some CutOff) is = inr (lost (λ e. cc))

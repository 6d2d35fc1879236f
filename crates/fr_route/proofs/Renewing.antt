-- Where nodes send on to after some hops are updated.
use Rattle.std.proofs.Common.{List, ap, arith, get_or, inl, inr, length, subst, sym, ℕ, ⊎_elim, ◌+◌, ◌<◌, ◌∙◌, ◌≡◌, ◌≤◌}
use Rattle.std.proofs.lemmas.Bool.{cases_eq}
use Rattle.std.proofs.lemmas.List.{get_or_default}
use Rattle.std.proofs.lemmas.Option.{get_or_from_slice_get}
use Rattle.fr_graph.proofs.Neighbours.{row_of_in, row_of_out}
use Rattle.fr_graph.specs.Links.{IsNet}
use Rattle.fr_graph.specs.Rows.{row}
use Rattle.fr_graph.specs.declared.first.First.{First}
use Rattle.fr_graph.specs.declared.first.First.TheVariants.{Inward, Outward}
use Rattle.fr_route.specs.Outcomes.{AreRenewed, SendsTo}
use Rattle.fr_route.specs.Routes.{IsHop}
use Rattle.fr_route.specs.States.{State}
use Rattle.fr_tables.specs.declared.hop.Hop.{Hop}
use Rattle.fr_tables.specs.declared.hop.Hop.TheVariants.{To}

-- no hop is updated
pub renewed_none : (s : State) (hops : List Hop) (left : ℕ → Hop → Type 0) → ((x : ℕ) (hop : Hop) → left x hop)
    → AreRenewed s hops hops left
renewed_none s hops left all = record { each = λ x hop at. inr (at, all x hop) }

-- the hop of x in the table is right
pub renewed_right : (s : State) (hops : List Hop) (x : ℕ) (hop d : Hop) → IsHop s x hop → get_or hops x d ≡ hop
    → AreRenewed s hops hops (λ y _. ¬ (y ≡ x))
renewed_right s hops x hop d right is = record {
  each = λ y other at. ⊎_elim
      (λ e.
      let same : hop ≡ other =
      sym is ∙ (ap (λ (z : ℕ). get_or hops z d) (sym e) ∙ get_or_from_slice_get hops y other d at) in
      inl (subst (λ (z : ℕ). IsHop s z other) (sym e) (subst (IsHop s x) same right)))
      (λ apart. inr (at, apart))
      (cases_eq y x);
}

-- one after the other
pub renewed_then : (s : State) (a b c : List Hop) (first then left : ℕ → Hop → Type 0) → AreRenewed s a b first
    → AreRenewed s b c then → ((x : ℕ) (hop : Hop) → first x hop → then x hop → left x hop) → AreRenewed s a c left
renewed_then s a b c first then left h g both = record {
  each = λ x hop at. ⊎_elim inl
      (λ was. ⊎_elim inl (λ before. inr (before.0, both x hop before.1 was.1)) (h.each x hop was.0))
      (g.each x hop at);
}

-- the property `left` can be replaced by a weaker one
pub renewed_as : (s : State) (a b : List Hop) (left other : ℕ → Hop → Type 0) → AreRenewed s a b left
    → ((x : ℕ) (hop : Hop) → left x hop → other x hop) → AreRenewed s a b other
renewed_as s a b left other h into =
    record { each = λ x hop at. ⊎_elim inl (λ was. inr (was.0, into x hop was.1)) (h.each x hop at) }

-- no hop of the first k neighbours in a row sends on to x
abbrev pub NoneSends : List (ℕ × First) → ℕ → ℕ → ℕ → Hop → Type 0
NoneSends entries k x y hop = (j : ℕ) (d : ℕ × First) → j < k → (get_or entries j d).0 ≡ y → ¬ (hop ≡ To x)

pub none_more : (entries : List (ℕ × First)) (k : ℕ) (e : ℕ × First) (x y : ℕ) (hop : Hop) → k < length entries
    → NoneSends entries k x y hop → (y ≡ (get_or entries k e).0 → ¬ (hop ≡ To x)) → NoneSends entries (k + 1) x y hop
none_more entries k e x y hop inside before here j d low is = ⊎_elim
    (λ same.
    let at : (get_or entries k d).0 ≡ y = subst (λ (i : ℕ). (get_or entries i d).0 ≡ y) same is in
    here (sym at ∙ ap (λ (p : ℕ × First). p.0) (get_or_default entries k d e inside)))
    (λ apart. before j d (omega arith) is)
    (cases_eq j k)

-- at the end of the row of x, no neighbour of x is left that sends on to it
pub none_left : (n : ℕ) (links : List (ℕ × ℕ)) (x : ℕ) (entries : List (ℕ × First)) (k : ℕ) → IsNet n links
    → entries ≡ row n links x → length entries ≤ k → (y : ℕ) (hop : Hop) → ¬ (y ≡ x) → NoneSends entries k x y hop
    → ¬ SendsTo links x y hop
none_left n links x entries k net is past y hop apart none sends = go sends
  where
    from_row : NoneSends (row n links x) k x y hop
    from_row = subst (λ (es : List (ℕ × First)). NoneSends es k x y hop) is none

    short : length (row n links x) ≤ k
    short = subst (λ (es : List (ℕ × First)). length es ≤ k) is past

    go : SendsTo links x y hop → ⊥
    go (inl e) = apart e
    go (inr (joins, to)) = ⊎_elim
        (λ h. let (j, low, at) = row_of_in n links x y net h in from_row j (y, Inward) (omega (arith, low, short))
        (ap (λ (p : ℕ × First). p.0) at) to)
        (λ h. let (j, low, at) = row_of_out n links x y net h in from_row j (y, Outward) (omega (arith, low, short))
        (ap (λ (p : ℕ × First). p.0) at) to)
        joins

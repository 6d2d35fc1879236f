-- Whether a link is in a row.
use Rattle.std.proofs.Common.{◌≡◌, ◌∙◌, ℕ, ◌≤◌, true, false, List, ap, arith, inl, inr, refl, subst, sym}
use Rattle.std.proofs.lemmas.Bool.{cases_Bool, eq-eqb, eqb-true, false≢true}
use Rattle.std.proofs.lemmas.List.Folds.{Any-from_list_any, list_any_at}
use Rattle.std.specs.List.{Contains, list_any}
use Rattle.fr_graph.specs.Links.{IsNet, Points}
use Rattle.fr_graph.specs.Rows.{has_link, row}
use Rattle.fr_graph.specs.declared.first.First.{First}
use Rattle.fr_graph.specs.declared.first.First.TheVariants.{Inward, Outward}
use Rattle.revdot.specs.Changes.{leads_to}
use Rattle.fr_graph.proofs.Linking.{link_below}
use Rattle.fr_graph.proofs.Neighbours.{Points-has_link, has_link_true, out_of_row, row_of_out}

leading : (v : ℕ) (e : ℕ × First) → leads_to v e ≡ true → e ≡ (v, Outward)
leading v (w, Outward) h = ap (λ (x : ℕ). (x, Outward)) (eqb-true w v h)
leading v (w, Inward) h = absurd (false≢true h)

-- a row has an entry of a link to a node exactly if there is this link
pub row_any : (n : ℕ) (links : List (ℕ × ℕ)) (u v : ℕ) → IsNet n links
    → list_any (leads_to v) (row n links u) ≡ has_link links u v
row_any n links u v net =
    elim (cases_Bool (has_link links u v)) [
      | inl has ↦
          let h = row_of_out n links u v net (Points-has_link links u v has) in
          let leads : leads_to v (v, Outward) ≡ true = eq-eqb v v refl in
          list_any_at (leads_to v) (row n links u) h.0 (v, Outward) h.1 (rw h.2 leads) ∙ sym has
      | inr none ↦
          elim (cases_Bool (list_any (leads_to v) (row n links u))) [
            | inl any ↦
                let a = Any-from_list_any (leads_to v) (row n links u) any in
                let is : Contains (row n links u) a.1 = (a.0, a.2, a.3) in
                let e : a.1 ≡ (v, Outward) = leading v a.1 a.4 in
                let p : Points links u v = out_of_row n links u v (subst (Contains (row n links u)) e is) in
                absurd (false≢true (sym none ∙ has_link_true links u v p))
            | inr missing ↦ missing ∙ sym none
          ]
    ]

-- no link leads from a node that the network does not have
pub no_link : (n : ℕ) (links : List (ℕ × ℕ)) (u v : ℕ) → IsNet n links → n ≤ u → has_link links u v ≡ false
no_link n links u v net past =
    elim (cases_Bool (has_link links u v)) [
      | inl has ↦ absurd (omega (arith, past, (link_below n links u v net (Points-has_link links u v has)).0))
      | inr none ↦ none
    ]

-- The links that point away from a node, from its row.
use Rattle.std.proofs.Common.{Contains, List, ap, arith, get_or, length, subst, sym, ℕ, ⊎_elim, ◌<◌, ◌∙◌, ◌≡◌, ◌≤◌}
use Rattle.std.proofs.lemmas.Bool.{cases_eq, cases_lt}
use Rattle.std.proofs.lemmas.List.{get_or_default}
use Rattle.std.proofs.lemmas.List.Elements.{Contains-get_or}
use Rattle.fr_graph.proofs.Neighbours.{differ, out_of_row, row_of_out, row_rises}
use Rattle.fr_graph.specs.Links.{IsNet, Points}
use Rattle.fr_graph.specs.Rows.{row}
use Rattle.fr_graph.specs.declared.first.First.{First}
use Rattle.fr_graph.specs.declared.first.First.TheVariants.{Inward, Outward}
use Rattle.fr_route.specs.Routes.{IsNextHop}

-- the links of all entries before place k point to x
abbrev pub AreInward : List (ℕ × First) → ℕ → Type 0
AreInward entries k = (j : ℕ) (d : ℕ × First) → j < k → (get_or entries j d).1 ≡ Inward

module _ (n : ℕ) (links : List (ℕ × ℕ)) (x : ℕ) (net : IsNet n links) where
  no_later : (k : ℕ) (d : ℕ × First) → k < length (row n links x) → AreInward (row n links x) k → (v : ℕ)
      → Points links x v
      → (get_or (row n links x) k d).0 ≤ v
  no_later k d inside inward v h =
      let at = row_of_out n links x v net h in
      let here : (j : ℕ) → j < length (row n links x) → get_or (row n links x) j (v, Outward) ≡ (v, Outward) → j ≡ k
      → (get_or (row n links x) k d).0 ≤ v =
      λ j low is same. let node : (get_or (row n links x) j d).0 ≡ v =
      ap (λ (e : ℕ × First). e.0) (get_or_default (row n links x) j d (v, Outward) low ∙ is) in
      let moved : (get_or (row n links x) k d).0 ≡ v =
      subst (λ (i : ℕ). (get_or (row n links x) i d).0 ≡ v) same node in
      omega (arith, moved) in
      ⊎_elim
      (λ before. absurd (differ (sym (ap (λ (e : ℕ × First). e.1) at.2) ∙ inward at.0 (v, Outward) before)))
      (λ after. ⊎_elim
      (here at.0 at.1 at.2)
      (λ apart.
      let rises = row_rises n links x k at.0 d (omega arith) at.1 in
      let node : (get_or (row n links x) at.0 d).0 ≡ v =
      ap (λ (e : ℕ × First). e.0) (get_or_default (row n links x) at.0 d (v, Outward) at.1 ∙ at.2) in
      omega (arith, rises, node))
      (cases_eq at.0 k))
      (cases_lt at.0 k)

  least_in_row : (k : ℕ) (d : ℕ × First) → k < length (row n links x) → (get_or (row n links x) k d).1 ≡ Outward
      → AreInward (row n links x) k → IsNextHop links x (get_or (row n links x) k d).0
  least_in_row k d inside out inward = record {
    link = out_of_row n links x (get_or (row n links x) k d).0
        (subst (λ (f : First). Contains (row n links x) ((get_or (row n links x) k d).0, f)) out
        (Contains-get_or (row n links x) k d inside));
    least = no_later k d inside inward;
  }

  -- the first entry with a link that points away has the next hop
  pub least_at : (entries : List (ℕ × First)) → entries ≡ row n links x → (k : ℕ) (d : ℕ × First) → k < length entries
      → (get_or entries k d).1 ≡ Outward → AreInward entries k → IsNextHop links x (get_or entries k d).0
  least_at entries is = subst (λ (es : List (ℕ × First)). (k : ℕ) (d : ℕ × First) → k < length es
      → (get_or es k d).1 ≡ Outward → AreInward es k → IsNextHop links x (get_or es k d).0) (sym is) least_in_row

  none_in_row : (k : ℕ) → length (row n links x) ≤ k → AreInward (row n links x) k → (w : ℕ) → ¬ Points links x w
  none_in_row k all inward w h =
      let at = row_of_out n links x w net h in
      let low = at.1 in
      differ (sym (ap (λ (e : ℕ × First). e.1) at.2) ∙ inward at.0 (w, Outward) (omega (arith, low)))

  -- if all links of a row point to x, none points away
  pub none_out : (entries : List (ℕ × First)) → entries ≡ row n links x → (k : ℕ) → length entries ≤ k
      → AreInward entries k → (w : ℕ) → ¬ Points links x w
  none_out entries is =
      subst (λ (es : List (ℕ × First)). (k : ℕ) → length es ≤ k → AreInward es k → (w : ℕ)
      → ¬ Points links x w) (sym is) none_in_row

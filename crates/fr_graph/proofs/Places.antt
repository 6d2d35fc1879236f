-- A link removed from a list, and the place of a neighbour in a row.
use Rattle.std.proofs.Common.{Bool, Contains, List, ap, arith, eqb, get_or, inl, inr, length, refl, sym, true, ℕ, ◌&&◌}
use Rattle.std.proofs.Common.{◌<◌, ◌∙◌, ◌≡◌, ◌≢◌, ◌≤◌, ◌⊎◌}
use Rattle.std.specs.Prelude.{not}
use Rattle.std.specs.List.{remove}
use Rattle.std.specs.List.Sorted.{IsNonDecreasingBy}
use Rattle.std.proofs.lemmas.Bool.{cases_Bool, cases_eq, cases_lt}
use Rattle.std.proofs.lemmas.List.{get_or_default}
use Rattle.fr_graph.proofs.Booleans.{or_comm}
use Rattle.fr_graph.proofs.Counting.{two_pass}
use Rattle.fr_graph.proofs.Lists.{filter_one, filter_alike}
use Rattle.fr_graph.proofs.Linking.{is_between_itself, not_twice}
use Rattle.fr_graph.proofs.Neighbours.{Rises, in_of_row, out_of_row, row_of_in, row_of_out, row_rises}
use Rattle.fr_graph.specs.Edits.{without}
use Rattle.fr_graph.specs.Links.{AreSingle, IsNet, Joins, Points, is_between}
use Rattle.fr_graph.specs.Rows.{row}
use Rattle.fr_graph.specs.declared.first.First.{First}
use Rattle.fr_graph.specs.declared.first.First.TheVariants.{Inward, Outward}

-- no other link joins the ends of a link
pub cut_is_remove : (links : List (ℕ × ℕ)) (u v k : ℕ) → AreSingle links → k < length links
    → get_or links k (u, v) ≡ (u, v)
    → without u v links ≡ remove links k
cut_is_remove links u v k single l is =
    let test : ℕ × ℕ → Bool = λ y. is_between u v y in
    let here : (d : ℕ × ℕ) → is_between u v (get_or links k d) ≡ true =
    λ d. ap test (get_or_default links k d (u, v) l ∙ is) ∙ is_between_itself (u, v) in
    let once = not_twice links u v single in
    filter_one (λ (y : ℕ × ℕ). not (is_between u v y)) links k (u, v) l (ap not (here (u, v)))
    (λ i e m ne. elim (cases_Bool (is_between u v (get_or links i e))) [
      | inl both ↦ elim (cases_lt i k) [
        | inl lt ↦ absurd (omega (arith, once, two_pass test links i k e lt l both (here e)))
        | inr ge ↦ absurd (omega (arith, once, two_pass test links k i e (omega (arith, ge, ne)) m (here e) both))
      ]
      | inr none ↦ ap not none
    ])

-- a neighbour in a row is at its place
pub neighbour_at : (es : List (ℕ × First)) (v k : ℕ) (f : First) → Rises es → Contains es (v, f)
    → ((i : ℕ) (d : ℕ × First) → i < k → (get_or es i d).0 < v)
    → ((i : ℕ) (d : ℕ × First) → k ≤ i → i < length es → v ≤ (get_or es i d).0)
    → (k < length es) × (get_or es k (v, f) ≡ (v, f))
neighbour_at es v k f rises (i, l, e) before stops =
    let d : ℕ × First = (v, f) in
    let at : (get_or es i d).0 ≡ v = ap (λ (y : ℕ × First). y.0) e in
    elim (cases_lt i k) [
      | inl lt ↦ absurd (omega (arith, before i d lt, at))
      | inr ge ↦ elim (cases_eq k i) [
        | inl same ↦ (omega (arith, same, l), rw same e)
        | inr ne ↦ absurd (omega (
          arith,
          at,
          rises k i d (omega (arith, ge, ne)) l,
          stops k d (omega arith) (omega (arith, ge, l)),
        ))
      ]
    ]

pub rises_by : (es : List (ℕ × First)) → Rises es → IsNonDecreasingBy (λ (e : ℕ × First). e.0) es
rises_by es rises i j d le l =
    elim (cases_lt i j) [
      | inl lt ↦ omega (arith, rises i j d lt l)
      | inr ge ↦ let e : i ≡ j = omega arith in rw e (omega arith)
    ]

-- if the row does not have neighbour v at its place, no link joins its node with v
pub not_joined : (n : ℕ) (links : List (ℕ × ℕ)) (u v k : ℕ) → IsNet n links
    → ((i : ℕ) (d : ℕ × First) → i < k → (get_or (row n links u) i d).0 < v)
    → ((i : ℕ) (d : ℕ × First) → k ≤ i → i < length (row n links u) → v ≤ (get_or (row n links u) i d).0)
    → ((d : ℕ × First) → k < length (row n links u) → (get_or (row n links u) k d).0 ≢ v) → ¬ Joins links u v
not_joined n links u v k net before stops other (inl p) =
    let t =
    neighbour_at (row n links u) v k Outward (row_rises n links u) (row_of_out n links u v net p) before stops in
    other (v, Outward) t.0 (ap (λ (y : ℕ × First). y.0) t.1)
not_joined n links u v k net before stops other (inr p) =
    let t = neighbour_at (row n links u) v k Inward (row_rises n links u) (row_of_in n links u v net p) before stops in
    other (v, Inward) t.0 (ap (λ (y : ℕ × First). y.0) t.1)

-- an entry of the row is a link
pub entry_out : (n : ℕ) (links : List (ℕ × ℕ)) (u v k : ℕ) (e : ℕ × First) → k < length (row n links u)
    → e ≡ get_or (row n links u) k e → e.0 ≡ v → e.1 ≡ Outward → Contains links (u, v)
entry_out n links u v k (w, f) l is node out =
    let h : Contains (row n links u) (w, f) = (k, l, sym is) in
    out_of_row n links u v (rw (node, out) at h)

pub entry_in : (n : ℕ) (links : List (ℕ × ℕ)) (u v k : ℕ) (e : ℕ × First) → k < length (row n links u)
    → e ≡ get_or (row n links u) k e → e.0 ≡ v → e.1 ≡ Inward → Contains links (v, u)
entry_in n links u v k (w, f) l is node in_ =
    let h : Contains (row n links u) (w, f) = (k, l, sym is) in
    in_of_row n links u v (rw (node, in_) at h)

pub without_back : (u v : ℕ) (links : List (ℕ × ℕ)) → without v u links ≡ without u v links
without_back u v links =
    filter_alike (λ (l : ℕ × ℕ). not (is_between v u l)) (λ (l : ℕ × ℕ). not (is_between u v l)) links
    (λ l. ap not (or_comm ((eqb l.0 v) && (eqb l.1 u)) ((eqb l.0 u) && (eqb l.1 v))))

pub without_ends : (u v : ℕ) (link : ℕ × ℕ) (links : List (ℕ × ℕ)) → (link ≡ (u, v)) ⊎ (link ≡ (v, u))
    → without link.0 link.1 links ≡ without u v links
without_ends u v link links (inl e) = rw e refl
without_ends u v link links (inr e) = rw e (without_back u v links)

pub joins_ends : (u v : ℕ) (link : ℕ × ℕ) (links : List (ℕ × ℕ)) → (link ≡ (u, v)) ⊎ (link ≡ (v, u))
    → Points links link.0 link.1 → Joins links u v
joins_ends u v link links (inl e) h = inl (rw e at h)
joins_ends u v link links (inr e) h = inr (rw e at h)

-- The rows of a network with one added link.
use Rattle.std.proofs.Common.{Bool, Contains, List, None, Option, Some, [], ap, arith, cond, drop, eq-eqb, eqb, false}
use Rattle.std.proofs.Common.{get_or, inl, inr, length}
use Rattle.std.proofs.Common.{ne_eqb, option_to_list, refl, suc, sym, take, true, zero, ℕ, ◌++◌, ◌+◌, ◌<◌, ◌∙◌, ◌∷◌}
use Rattle.std.proofs.Common.{◌≡◌, ◌≢◌, ◌≤◌, ◌⊎◌}
use Rattle.std.specs.Prelude.{nat_le}
use Rattle.std.proofs.lemmas.Bool.{cases_eq, cond-false, cond-true, le-leb, lt-leb}
use Rattle.std.proofs.lemmas.List.{append-nil}
use Rattle.std.proofs.lemmas.List.Elements.{Contains-append_left, Contains-push, Contains-push_cases}
use Rattle.fr_graph.proofs.AddedLinks.{added}
use Rattle.fr_graph.proofs.Members.{Contains-head, Contains-tail}
use Rattle.fr_graph.proofs.Neighbours.{row_entry_node, row_entry_out, row_holds}
use Rattle.fr_graph.proofs.Remaking.{row_entry_same}
use Rattle.fr_graph.proofs.TurnedRows.{entry, row_entry_back, row_entry_none}
use Rattle.fr_graph.specs.Halves.{AreUnjoined}
use Rattle.fr_graph.specs.Links.{Joins, Points}
use Rattle.fr_graph.specs.Rows.{row, row_entry}
use Rattle.fr_graph.specs.declared.first.First.{First}
use Rattle.fr_graph.specs.declared.first.First.TheVariants.{Inward, Outward}

-- the entries with one inserted before the first entry that has no lower neighbour
abbrev pub with_entry : ℕ × First → List (ℕ × First) → List (ℕ × First)
with_entry new [] = new ∷ []
with_entry new (entry ∷ rest) = cond (nat_le new.0 entry.0) (new ∷ (entry ∷ rest)) (entry ∷ with_entry new rest)

-- the entries of x after the link from u to v is added
abbrev pub added_row : ℕ → ℕ → ℕ → List (ℕ × First) → List (ℕ × First)
added_row u v x entries =
    cond (eqb x u) (with_entry (v, Outward) entries) (cond (eqb x v) (with_entry (u, Inward) entries) entries)

pub put_in_row : (e : ℕ × First) (es : List (ℕ × First)) (k : ℕ) → k ≤ length es
    → ((i : ℕ) (d : ℕ × First) → i < k → (get_or es i d).0 < e.0)
    → ((d : ℕ × First) → k < length es → e.0 ≤ (get_or es k d).0) → with_entry e es ≡ take k es ++ e ∷ drop k es
put_in_row e [] zero le before stops = refl
put_in_row e [] (suc k) le before stops = absurd (omega arith)
put_in_row e (f ∷ fs) zero le before stops = rw (le-leb e.0 f.0 (stops f (omega arith))) refl
put_in_row e (f ∷ fs) (suc k) le before stops =
    rw (
      lt-leb e.0 f.0 (before 0 f (omega arith)),
      put_in_row e fs k (omega arith)
          (λ i d lt. before (suc i) d (omega arith)) (λ d lt. stops d (omega arith)),
    ) refl

length-with_entry_by : (b : Bool) (e f : ℕ × First) (fs : List (ℕ × First)) → length (with_entry e fs) ≡ length fs + 1
    → length (cond b (e ∷ (f ∷ fs)) (f ∷ with_entry e fs)) ≡ length (f ∷ fs) + 1
length-with_entry_by true e f fs rest = omega arith
length-with_entry_by false e f fs rest = omega (arith, rest)

length-with_entry : (e : ℕ × First) (es : List (ℕ × First)) → length (with_entry e es) ≡ length es + 1
length-with_entry e [] = refl
length-with_entry e (f ∷ fs) = length-with_entry_by (nat_le e.0 f.0) e f fs (length-with_entry e fs)

-- an entry greater than all others goes to the end
put_last : (e : ℕ × First) (es : List (ℕ × First)) → ((f : ℕ × First) → Contains es f → f.0 < e.0)
    → with_entry e es ≡ es ++ e ∷ []
put_last e [] above = refl
put_last e (f ∷ fs) above =
    rw (lt-leb e.0 f.0 (above f (Contains-head f fs)), put_last e fs (λ g h. above g (Contains-tail g f fs h))) refl

-- an entry lower than what follows is inserted in the part before
put_before_by : (b : Bool) (e f : ℕ × First) (fs more : List (ℕ × First))
    → with_entry e (fs ++ more) ≡ with_entry e fs ++ more
    → cond b (e ∷ (f ∷ (fs ++ more))) (f ∷ with_entry e (fs ++ more)) ≡ cond b (e ∷ (f ∷ fs)) (f ∷ with_entry e fs)
    ++ more
put_before_by true e f fs more rest = refl
put_before_by false e f fs more rest = rw rest refl

put_before : (e : ℕ × First) (es more : List (ℕ × First)) → with_entry e more ≡ e ∷ more
    → with_entry e (es ++ more) ≡ with_entry e es ++ more
put_before e [] more first = first
put_before e (f ∷ fs) more first = put_before_by (nat_le e.0 f.0) e f fs more (put_before e fs more first)

put_first : (e : ℕ × First) (o : Option (ℕ × First)) → ((f : ℕ × First) → o ≡ Some f → e.0 ≤ f.0)
    → with_entry e (option_to_list o) ≡ e ∷ option_to_list o
put_first e None below = refl
put_first e (Some f) below = rw (le-leb e.0 f.0 (below f refl)) refl

-- the entries that the added link does not change
entry_stays : (links : List (ℕ × ℕ)) (u v x w : ℕ) → ¬ ((x ≡ u) × (w ≡ v)) → ¬ ((w ≡ u) × (x ≡ v))
    → row_entry (added links u v) x w ≡ row_entry links x w
entry_stays links u v x w out back =
    row_entry_same (added links u v) links x w
    (λ h. kept links u v x w out (Contains-push_cases links (u, v) (x, w) h))
    (Contains-append_left links ((u, v) ∷ []) (x, w))
    (λ h. kept links u v w x back (Contains-push_cases links (u, v) (w, x) h))
    (Contains-append_left links ((u, v) ∷ []) (w, x))
  where
    kept : (links : List (ℕ × ℕ)) (u v a b : ℕ) → ¬ ((a ≡ u) × (b ≡ v))
        → Contains links (a, b) ⊎ (◌≡◌ {A = ℕ × ℕ} (u, v) (a, b)) → Contains links (a, b)
    kept links u v a b other (inl h) = h
    kept links u v a b other (inr e) = absurd (other (sym (ap (λ (l : ℕ × ℕ). l.0) e), sym (ap (λ (l : ℕ × ℕ). l.1) e)))

row_stays_by : (k : ℕ) (links : List (ℕ × ℕ)) (u v x : ℕ) → ((w : ℕ) → w < k → ¬ ((x ≡ u) × (w ≡ v)))
    → ((w : ℕ) → w < k → ¬ ((w ≡ u) × (x ≡ v))) → row k (added links u v) x ≡ row k links x
row_stays_by zero links u v x out back = refl
row_stays_by (suc w) links u v x out back =
    rw (
      row_stays_by w links u v x (λ z l. out z (omega arith)) (λ z l. back z (omega arith)),
      entry_stays links u v x w (out w (omega arith)) (back w (omega arith)),
    ) refl

-- the row of one end gains the other end
row_gains : (k : ℕ) (links : List (ℕ × ℕ)) (u v x other : ℕ) (f : First) → other < k → row_entry links x other ≡ None
    → row_entry (added links u v) x other ≡ Some (other, f)
    → ((w : ℕ) → w ≢ other → row_entry (added links u v) x w ≡ row_entry links x w)
    → row k (added links u v) x ≡ with_entry (other, f) (row k links x)
row_gains zero links u v x other f lt none some same = absurd (omega arith)
row_gains (suc w) links u v x other f lt none some same =
    elim (cases_eq w other) [
      | inl e ↦
          rw (e, none, some, append-nil (row other links x)) (
          ap (λ (es : List (ℕ × First)). es ++ entry other f
          ∷ []) (row_alike other links u v x (λ z l. same z (λ is. omega (arith, is, l))))
          ∙ sym (put_last (other, f) (row other links x) (λ g h. (row_holds other links x g h).0))
          )
      | inr ne ↦
          rw (row_gains w links u v x other f (omega (arith, ne)) none some same, same w ne)
          (sym (put_before (other, f) (row w links x) (option_to_list (row_entry links x w))
          (put_first (other, f) (row_entry links x w) (λ g is. omega (arith, row_entry_node links x w g is, lt)))))
    ]
  where
    row_alike : (k : ℕ) (links : List (ℕ × ℕ)) (u v x : ℕ)
        → ((w : ℕ) → w < k → row_entry (added links u v) x w ≡ row_entry links x w)
        → row k (added links u v) x ≡ row k links x
    row_alike zero links u v x same = refl
    row_alike (suc w) links u v x same =
        rw (row_alike w links u v x (λ z l. same z (omega arith)), same w (omega arith)) refl

-- the row of a node after the link from u to v is added
pub row_added : (n : ℕ) (links : List (ℕ × ℕ)) (u v x : ℕ) → u < n → v < n → u ≢ v → ¬ Joins links u v
    → row n (added links u v) x ≡ added_row u v x (row n links x)
row_added n links u v x a b apart free =
    elim (cases_eq x u) [
      | inl e ↦
          let plain : row n (added links u v) u ≡ with_entry (v, Outward) (row n links u) =
          row_gains n links u v u v Outward b
          (row_entry_none links u v (λ p. free (inl p)) (λ p. free (inr p)))
          (row_entry_out (added links u v) u v (Contains-push links (u, v)))
          (λ w ne. entry_stays links u v u w (λ t. ne t.1) (λ t. apart t.1)) in
          rw e (plain ∙ sym (cond-true _ _ _ (eq-eqb u u refl)))
      | inr ne ↦ elim (cases_eq x v) [
        | inl e ↦
            let not_out : ¬ Points (added links u v) v u =
            λ p. no_back links u v apart free (Contains-push_cases links (u, v) (v, u) p) in
            let plain : row n (added links u v) v ≡ with_entry (u, Inward) (row n links v) =
            row_gains n links u v v u Inward a
            (row_entry_none links v u (λ p. free (inr p)) (λ p. free (inl p)))
            (row_entry_back (added links u v) v u not_out (Contains-push links (u, v)))
            (λ w nw. entry_stays links u v v w (λ t. apart (sym t.0)) (λ t. nw t.0)) in
            rw e (plain ∙ sym (cond-false _ _ _ (ne_eqb v u (λ s. apart (sym s))) ∙ cond-true _ _ _ (eq-eqb v v refl)))
        | inr nv ↦
            row_stays_by n links u v x (λ w l t. ne t.0) (λ w l t. nv t.1)
            ∙ sym (cond-false _ _ _ (ne_eqb x u ne) ∙ cond-false _ _ _ (ne_eqb x v nv))
      ]
    ]
  where
    no_back : (links : List (ℕ × ℕ)) (u v : ℕ) → u ≢ v → ¬ Joins links u v
        → ¬ (Contains links (v, u) ⊎ (◌≡◌ {A = ℕ × ℕ} (u, v) (v, u)))
    no_back links u v apart free (inl h) = free (inr h)
    no_back links u v apart free (inr e) = apart (ap (λ (l : ℕ × ℕ). l.0) e)

-- with the added link, each of its ends has one more entry
pub ends_more : (n : ℕ) (links : List (ℕ × ℕ)) (u v : ℕ) → AreUnjoined n links u v
    → (length (row n (added links u v) u) ≡ length (row n links u) + 1)
    × (length (row n (added links u v) v) ≡ length (row n links v) + 1)
ends_more n links u v free = (
  ap length (row_added n links u v u free.tail free.head free.apart free.free ∙ cond-true _ _ _ (eq-eqb u u refl))
      ∙ length-with_entry (v, Outward) (row n links u),
  ap length (row_added n links u v v free.tail free.head free.apart free.free
      ∙ cond-false _ _ _ (ne_eqb v u (λ e. free.apart (sym e))) ∙ cond-true _ _ _ (eq-eqb v v refl))
      ∙ length-with_entry (u, Inward) (row n links v),
)

-- What leaves a deque is a candidate, and so are the neighbours of a node that is tried.
use Rattle.std.proofs.Common.{◌≡◌, ℕ, ◌<◌, All, Bool, Contains, IfSome, List, None, Option, Some, [], ◌∷◌, ◌++◌, arith}
use Rattle.std.proofs.Common.{false, if◌then◌else◌, inl}
use Rattle.std.proofs.Common.{inr, length, subst, suc, sym, true, zero}
use Rattle.std.specs.Option.{option_to_list}
use lib.Seq.{take-append_seam, drop-append_seam}
use Rattle.std.proofs.lemmas.List.Elements.{All-append, All-take, All-drop, Contains-get_or}
use Rattle.crossbeam_deque.specs.Tasks.{Takes, Pops, Pushes}
use Rattle.fr_graph.proofs.Neighbours.{Points-has_link, row_entry_known, row_holds}
use Rattle.fr_graph.specs.Links.{Joins}
use Rattle.fr_graph.specs.Rows.{has_link, row}
use Rattle.fr_graph.specs.declared.first.First.{First}
use Rattle.fr_graph.specs.declared.first.First.TheVariants.{Outward}
use Rattle.fr_core.specs.Machine.{neighbour_at}
use Rattle.fr_core.proofs.RowLinks.{row_below}
use Rattle.fr_round.specs.Knowledge.{Refuses}
use Rattle.fr_round.specs.declared.faults.Refusal.{Refusal}
use Rattle.fr_round.specs.declared.faults.Refusal.TheVariants.{NoNode, Destination, Alone}
use Rattle.fr_round.specs.declared.view.Setup.{Setup}
use Rattle.fr_crew.specs.Candidates.{IsCandidate}

module _ (P : ℕ → Type 0) where
  abbrev Holds : List ℕ → List (Unit {0}) → Type 0
  Holds tasks _ = All P tasks

  left : (xs ys : List ℕ) → All P (xs ++ ys) → All P xs
  left xs ys each = subst (All P) (take-append_seam xs ys) (All-take P (length xs) (xs ++ ys) each)

  right : (xs ys : List ℕ) → All P (xs ++ ys) → All P ys
  right xs ys each = subst (All P) (drop-append_seam xs ys) (All-drop P (length xs) (xs ++ ys) each)

  All-one : (x : ℕ) → P x → All P (x ∷ [])
  All-one x here zero d less = here
  All-one x here (suc k) d less = absurd (omega (arith, less))

  -- one more is put at the end, or none
  pub one_more : (put : Bool) (old new : List ℕ) (x : ℕ) → new ≡ (if put then old ++ x ∷ [] else old) → All P old → P x
      → All P new
  one_more true old new x is each here = subst (All P) (sym is) (All-append P old (x ∷ []) each (All-one x here))
  one_more false old new x is each here = subst (All P) (sym is) each

  -- the first is taken, or there is none
  pub one_less : (taken : Option ℕ) (old new : List ℕ) → old ≡ option_to_list taken ++ new → All P old
      → All P new × IfSome taken P
  one_less None old new is each = (subst (All P) is each, tt)
  one_less (Some x) old new is each =
      let all = subst (All P) is each in
      (right (x ∷ []) new all, left (x ∷ []) new all 0 x (omega arith))

  pub takes : (port : ℕ) (v : Unit {0}) (most : ℕ) → Takes Holds port v most (λ xs _. All P xs)
  takes port v most xs tasks views _ _ each _ = (tt, right xs tasks each, left xs tasks each)

  pub pushes : (port : ℕ) (v : Unit {0}) (x : ℕ) → P x → Pushes Holds port v (x ∷ []) (λ _. All P (x ∷ []))
  pushes port v x here tasks views each _ = (tt, All-append P tasks (x ∷ []) each (All-one x here), All-one x here)

  pub pops : (port : ℕ) (v : Unit {0}) → Pops Holds port v (λ xs _. All P xs)
  pops port v x tasks views each _ = (tt, left tasks (x ∷ []) each, right tasks (x ∷ []) each)

row_joins : (n : ℕ) (links : List (ℕ × ℕ)) (x : ℕ) (e : ℕ × First) → Contains (row n links x) e → Joins links e.0 x
row_joins n links x e stands =
    elim (row_entry_known (has_link links x e.0) (has_link links e.0 x) e.0 e (row_holds n links x e stands).1) [
      | inl out ↦ inr (Points-has_link links x e.0 out.0)
      | inr into ↦ inl (Points-has_link links e.0 x into.1)
    ]

-- the entry at a place of a list that is a row
pub entry_at : (b : Setup) (x : ℕ) (list : List (ℕ × First)) → list ≡ row b.nodes b.links x → (j : ℕ) → j < length list
    → ((neighbour_at list j).0 < b.nodes) × Contains (row b.nodes b.links x) (neighbour_at list j)
entry_at b x list is j =
    subst (λ (l : List (ℕ × First)). j < length l → ((neighbour_at l j).0 < b.nodes)
    × Contains (row b.nodes b.links x) (neighbour_at l j)) (sym is)
    (λ lt. (row_below b.nodes b.links x j (0, Outward) lt, Contains-get_or (row b.nodes b.links x) j (0, Outward) lt))

-- a neighbour of a node is a candidate, unless it is the destination
pub neighbour_is_candidate : (b : Setup) (x : ℕ) (e : ℕ × First) → (e.0 < b.nodes) × Contains (row b.nodes b.links x) e
    → ¬ (e.0 ≡ b.dest) → IsCandidate b e.0
neighbour_is_candidate b x e stands other = (stands.0, other, λ alone. alone x (row_joins b.nodes b.links x e stands.1))

-- no call on a candidate is refused
pub candidate_not_refused : (b : Setup) (x : ℕ) (r : Refusal) → IsCandidate b x → Refuses b x r → ⊥
candidate_not_refused b x NoNode is refused = absurd (omega (arith, is.0, refused))
candidate_not_refused b x Destination is refused = is.1 refused.1
candidate_not_refused b x Alone is refused = is.2 refused.2

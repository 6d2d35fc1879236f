-- Nodes are marked one by one.
use Rattle.std.proofs.Common.{Bool, Contains, List, [], arith, eqb, eqb-true, false, get_or, get_or-set_other}
use Rattle.std.proofs.Common.{get_or-set_same, inl, inr, length, length-set}
use Rattle.std.proofs.Common.{refl, set, subst, sym, take, true, vec_capacity, ℕ, ⊎_elim, ◌++◌, ◌+◌, ◌<◌, ◌∙◌, ◌∷◌, ◌≡◌}
use Rattle.std.proofs.Common.{◌≤◌, ◌⊎◌}
use Rattle.std.specs.Cmp.{nat_eq_equiv}
use Rattle.std.specs.List.{IsDistinct, list_any}
use Rattle.std.specs.List.Sorted.{IsPermutation}
use Rattle.std.proofs.lemmas.Bool.{cases_Bool, cases_eq, false≢true}
use Rattle.std.proofs.lemmas.List.{length_push, take_all, take_more}
use Rattle.std.proofs.lemmas.List.Elements.{Contains-append_left, Contains-push, Contains-push_cases}
use Rattle.std.proofs.lemmas.List.Sorted.{Contains-permutation, IsPermutation-sym}
use Rattle.std.proofs.lemmas.Map.Keys.{IsDistinct-IsPermutation, IsDistinct-push}
use Rattle.std.proofs.lemmas.Map.Views.{Contains-from_any}
use Rattle.fr_core.proofs.Pigeons.{distinct_length}
use Rattle.fr_graph.proofs.Members.{Contains-none}
use Rattle.fr_graph.proofs.Neighbours.{in_of_row, out_of_row, row_of_in, row_of_out}
use Rattle.fr_graph.specs.Links.{IsNet}
use Rattle.fr_graph.specs.Rows.{row}
use Rattle.fr_graph.specs.declared.first.First.TheVariants.{Inward, Outward}
use Rattle.fr_nearest.specs.Affected.{HasOne, IsNextTo}
use Rattle.fr_nearest.specs.Marks.{AreMarks, HasMarked, IsBehind, IsInward, IsMarked, IsNeighbour, IsReordered}
use Rattle.fr_nearest.specs.Marks.{IsReorderedAt, IsUnmarked}
use Rattle.fr_nearest.specs.declared.affected.Marks.{Marks}
use Rattle.fr_nearest.proofs.NotedNodes.{in_or_out}

-- One node

module _ {marks : Marks} {x : ℕ} (are : AreMarks marks) (low : x
    < length marks.marked.items) (fresh : ¬ IsMarked marks x) where
  once_more : IsDistinct eqb (marks.nodes.items ++ x ∷ [])
  once_more = IsDistinct-push {eq = eqb} nat_eq_equiv marks.nodes.items x are.once (⊎_elim
      (λ t. absurd (fresh ((are.same x).1 (Contains-from_any {eq = eqb} eqb-true x marks.nodes.items t))))
      (λ f. f) (cases_Bool (list_any (eqb x) marks.nodes.items)))

  below_more : (y : ℕ) → Contains (marks.nodes.items ++ x ∷ []) y → y < length marks.marked.items
  below_more y h =
      ⊎_elim (are.below y) (λ e. subst (λ (z : ℕ). z
      < length marks.marked.items) e low) (Contains-push_cases marks.nodes.items x y h)

  -- there is room for it
  pub place_left : length marks.nodes.items < vec_capacity marks.nodes
  place_left =
      let few = distinct_length (length marks.marked.items) (marks.nodes.items ++ x ∷ []) once_more below_more in
      omega (arith, few, length_push marks.nodes.items x, are.room)

  pub marks_it : {after : Marks} → after.marked.items ≡ set marks.marked.items x true
      → after.nodes.items ≡ marks.nodes.items ++ x ∷ []
      → vec_capacity after.nodes ≡ vec_capacity marks.nodes → HasMarked (λ y. y ≡ x) (λ y. y ≡ x) marks after
  marks_it {after} marked_are nodes_are room =
      let long = length-set marks.marked.items x true in
      record {
        are = record {
          room = rw (room, marked_are, long) are.room;
          same = λ y. rw (marked_are, nodes_are) (elim (cases_eq y x) [
            | inl e ↦ rw e (
              λ _. Contains-push marks.nodes.items x,
              λ _. get_or-set_same marks.marked.items x true false low,
            )
            | inr apart ↦ (
              λ is. Contains-append_left marks.nodes.items (x
                  ∷ []) y ((are.same y).0 (sym (get_or-set_other marks.marked.items x y true false apart) ∙ is)),
              λ h. get_or-set_other marks.marked.items x y true false apart ∙ (are.same y).1
                  (⊎_elim (λ old. old) (λ e. absurd (apart (sym e))) (Contains-push_cases marks.nodes.items x y h)),
            )
          ]);
          below = λ y h. rw (marked_are, long) (below_more y (rw nodes_are at h));
          once = rw nodes_are once_more;
        };
        long = rw marked_are long;
        stay = λ y h. rw nodes_are (Contains-append_left marks.nodes.items (x ∷ []) y h);
        all = λ y e. rw (nodes_are, e) (Contains-push marks.nodes.items x);
        just =
            λ y h. ⊎_elim (λ old. inl old) (λ e. inr (sym e))
            (Contains-push_cases marks.nodes.items x y (rw nodes_are at h));
      }

-- nothing has to be marked, or it is marked
pub marked_none : (Must May : ℕ → Type 0) {marks : Marks} → AreMarks marks
    → ((y : ℕ) → Must y → Contains marks.nodes.items y)
    → HasMarked Must May marks marks
marked_none Must May are known = record { are = are; long = refl; stay = λ y h. h; all = known; just = λ y h. inl h }

-- Several nodes

pub marked_then : {Must May Also Might : ℕ → Type 0} {first then last : Marks} → HasMarked Must May first then
    → HasMarked Also Might then last → HasMarked (λ y. Must y ⊎ Also y) (λ y. May y ⊎ Might y) first last
marked_then one two = record {
  are = two.are;
  long = two.long ∙ one.long;
  stay = λ y h. two.stay y (one.stay y h);
  all = λ y. ⊎_elim (λ must. two.stay y (one.all y must)) (two.all y);
  just =
      λ y h. ⊎_elim (λ was. ⊎_elim (λ old. inl old) (λ may. inr (inl may)) (one.just y was)) (λ might. inr (inr might))
      (two.just y h);
}

pub marked_as : {Must May : ℕ → Type 0} {before after : Marks} (These Those : ℕ → Type 0) → ((y : ℕ) → These y → Must y)
    → ((y : ℕ) → May y → Those y) → HasMarked Must May before after → HasMarked These Those before after
marked_as These Those to from one = record {
  are = one.are;
  long = one.long;
  stay = one.stay;
  all = λ y is. one.all y (to y is);
  just = λ y h. ⊎_elim (λ old. inl old) (λ may. inr (from y may)) (one.just y h);
}

-- the elements of a list, one by one
pub marked_first : {A : Type 0} (P Q : A → ℕ → Type 0) {marks : Marks} → AreMarks marks
    → HasMarked (HasOne P []) (HasOne Q []) marks marks
marked_first P Q are = marked_none (HasOne P []) (HasOne Q []) are (λ y h. absurd (Contains-none h.0 h.1))

pub marked_more : {A : Type 0} (P Q : A → ℕ → Type 0) (xs : List A) (k : ℕ) (d : A) {first then last : Marks}
    → k < length xs
    → HasMarked (HasOne P (take k xs)) (HasOne Q (take k xs)) first then
    → HasMarked (P (get_or xs k d)) (Q (get_or xs k d)) then last
    → HasMarked (HasOne P (take (k + 1) xs)) (HasOne Q (take (k + 1) xs)) first last
marked_more {A} P Q xs k d inside some one =
    marked_as (HasOne P (take (k + 1) xs)) (HasOne Q (take (k + 1) xs)) split join (marked_then some one)
  where
    is : take (k + 1) xs ≡ take k xs ++ get_or xs k d ∷ []
    is = take_more xs k d inside

    split : (y : ℕ) → HasOne P (take (k + 1) xs) y → HasOne P (take k xs) y ⊎ P (get_or xs k d) y
    split y (x, h, holds) = elim (Contains-push_cases (take k xs) (get_or xs k d) x (rw is at h)) [
      | inl old ↦ inl (x, old, holds)
      | inr e ↦ inr (subst (λ (z : A). P z y) (sym e) holds)
    ]

    join : (y : ℕ) → HasOne Q (take k xs) y ⊎ Q (get_or xs k d) y → HasOne Q (take (k + 1) xs) y
    join y (inl (x, h, holds)) = (x, rw is (Contains-append_left (take k xs) (get_or xs k d ∷ []) x h), holds)
    join y (inr holds) = (get_or xs k d, rw is (Contains-push (take k xs) (get_or xs k d)), holds)

pub marked_all : {A : Type 0} (P Q : A → ℕ → Type 0) (xs : List A) (k : ℕ) {before after : Marks} → length xs ≤ k
    → HasMarked (HasOne P (take k xs)) (HasOne Q (take k xs)) before after
    → HasMarked (HasOne P xs) (HasOne Q xs) before after
marked_all {A} P Q xs k {before} {after} end some =
    subst (λ (ys : List A). HasMarked (HasOne P ys) (HasOne Q ys) before after) (take_all k xs end) some

-- No node is marked

pub unmarked_none : (marked : List Bool) → IsUnmarked [] marked marked
unmarked_none marked = record { long = refl; these = λ x h. absurd (Contains-none x h); others = λ x _. refl }

pub unmarked_more : (nodes : List ℕ) {first marked : List Bool} (place : ℕ) → place < length nodes
    → get_or nodes place 0 < length first
    → IsUnmarked (take place nodes) first marked
    → IsUnmarked (take (place + 1) nodes) first (set marked (get_or nodes place 0) false)
unmarked_more nodes {first} {marked} place inside low t =
    let x = get_or nodes place 0 in
    let more : take (place + 1) nodes ≡ take place nodes ++ x ∷ [] = take_more nodes place 0 inside in
    record {
      long = length-set marked x false ∙ t.long;
      these = λ y h. elim (cases_eq y x) [
        | inl e ↦ rw e (get_or-set_same marked x false false (omega (arith, low, t.long)))
        | inr apart ↦ get_or-set_other marked x y false false apart
            ∙ t.these y (⊎_elim (λ old. old) (λ e. absurd (apart (sym e)))
            (Contains-push_cases (take place nodes) x y (rw more at h)))
      ];
      others = λ y out.
          let apart : ¬ (y ≡ x) = λ e. out (rw (more, e) (Contains-push (take place nodes) x)) in
          get_or-set_other marked x y false false apart
          ∙ t.others y (λ h. out (rw more (Contains-append_left (take place nodes) (x ∷ []) y h)));
    }

-- no node is marked
pub unmarked : {marks : Marks} → length marks.marked.items ≤ vec_capacity marks.nodes → ((x : ℕ) → ¬ IsMarked marks x)
    → marks.nodes.items ≡ [] → AreMarks marks
unfolding IsDistinct
unmarked room none empty = record {
  room = room;
  same = λ x. (λ is. absurd (none x is), λ h. absurd (Contains-none x (rw empty at h)));
  below = λ x h. absurd (Contains-none x (rw empty at h));
  once = rw empty tt;
}

pub cleared : {marks after : Marks} {marked : List Bool} → AreMarks marks
    → IsUnmarked marks.nodes.items marks.marked.items marked
    → after.marked.items ≡ marked → after.nodes.items ≡ [] → vec_capacity after.nodes ≡ vec_capacity marks.nodes
    → AreMarks after
cleared {marks} {after} {marked} are un marked_is empty room = unmarked (rw (room, marked_is, un.long) are.room)
    (λ x is. elim (in_or_out x marks.nodes.items) [
      | inl h ↦ false≢true (sym (un.these x h) ∙ rw marked_is at is)
      | inr out ↦ out ((are.same x).0 (sym (un.others x out) ∙ rw marked_is at is))
    ]) empty

-- they are sorted
pub marks_sorted : {marks after : Marks} → AreMarks marks → after.marked.items ≡ marks.marked.items
    → IsPermutation marks.nodes.items after.nodes.items
    → vec_capacity after.nodes ≡ vec_capacity marks.nodes → AreMarks after
marks_sorted {marks} {after} are marked_are same room =
    let nodes = marks.nodes.items in
    let there : (x : ℕ) → Contains after.nodes.items x → Contains nodes x =
    λ x h. Contains-permutation after.nodes.items nodes x (IsPermutation-sym nodes after.nodes.items same) h in
    record {
      room = rw (room, marked_are) are.room;
      same = λ x. rw marked_are (
        λ is. Contains-permutation nodes after.nodes.items x same ((are.same x).0 is),
        λ h. (are.same x).1 (there x h),
      );
      below = λ x h. rw marked_are (are.below x (there x h));
      once = IsDistinct-IsPermutation eqb nat_eq_equiv.symm nodes after.nodes.items same are.once;
    }

-- The row of a node

pub next_in_row : (n : ℕ) (links : List (ℕ × ℕ)) (x : ℕ) → IsNet n links → (y : ℕ) → IsNextTo links x y
    → (y ≡ x) ⊎ HasOne IsNeighbour (row n links x) y
next_in_row n links x is_net y (inl e) = inl e
next_in_row n links x is_net y (inr (inl out)) = inr ((y, Outward), row_of_out n links x y is_net out, refl)
next_in_row n links x is_net y (inr (inr back)) = inr ((y, Inward), row_of_in n links x y is_net back, refl)

pub next_from_row : (n : ℕ) (links : List (ℕ × ℕ)) (x y : ℕ) → (y ≡ x) ⊎ HasOne IsNeighbour (row n links x) y
    → IsNextTo links x y
next_from_row n links x y (inl e) = inl e
next_from_row n links x y (inr ((w, Outward), h, e)) = inr (inl (rw e (out_of_row n links x w h)))
next_from_row n links x y (inr ((w, Inward), h, e)) = inr (inr (rw e (in_of_row n links x w h)))

pub reordered_in_row : (n : ℕ) (links : List (ℕ × ℕ)) (before table : List ℕ) (w : ℕ) → IsNet n links → (y : ℕ)
    → IsReordered links before table w y
    → HasOne (IsReorderedAt links before table w) (row n links w) y
reordered_in_row n links before table w is_net y (link, out) =
    ((y, Inward), row_of_in n links w y is_net link, (refl, (refl, out)))

pub behind_from_row : (n : ℕ) (links : List (ℕ × ℕ)) (w y : ℕ) → HasOne IsInward (row n links w) y → IsBehind links w y
behind_from_row n links w y ((v, f), h, (back, e)) = rw e (in_of_row n links w v (rw back at h))

-- The row that a side reads: the direction of its links, which entries the side has passed, and its state after the row
-- is read.
use Rattle.std.proofs.Common.{Contains, List, arith, get_or, inl, inr, length, refl, slice_index, subst, ℕ, ◌+◌, ◌<◌}
use Rattle.std.proofs.Common.{◌∙◌, ◌≡◌}
use Rattle.std.proofs.lemmas.Bool.{cases_lt}
use Rattle.std.proofs.lemmas.List.{get_or_default}
use Rattle.std.proofs.lemmas.List.Elements.{Contains-get_or}
use Rattle.fr_graph.proofs.Neighbours.{entry_is, in_of_row, out_of_row, row_holds, row_of_in, row_of_out}
use Rattle.fr_graph.specs.Heights.{AreFalling}
use Rattle.fr_graph.specs.Links.{IsNet}
use Rattle.fr_graph.specs.PathSearch.{HasMetMore, HasPassed, IsMetOrAside, IsSide, LeadsOn, LiesOn}
use Rattle.fr_graph.specs.Network.{Network}
use Rattle.fr_graph.specs.Rows.{row}
use Rattle.fr_graph.specs.declared.path_search.Met.{Met}
use Rattle.fr_graph.specs.declared.path_search.Side.{Side}
use Rattle.fr_graph.specs.declared.first.First.{First}
use Rattle.fr_graph.specs.declared.first.First.TheVariants.{Inward, Outward}
use Rattle.fr_graph.proofs.MetNodes.{settled_stays}

-- the links in the row of a node that have one direction
leads_by_row : (f : First) (n : ℕ) (links : List (ℕ × ℕ)) (x w : ℕ) → Contains (row n links x) (w, f)
    → LeadsOn f links x w
leads_by_row Outward n links x w h = out_of_row n links x w h
leads_by_row Inward n links x w h = in_of_row n links x w h

row_of_leads : (f : First) (n : ℕ) (links : List (ℕ × ℕ)) (x w : ℕ) → IsNet n links → LeadsOn f links x w
    → Contains (row n links x) (w, f)
row_of_leads Outward n links x w net h = row_of_out n links x w net h
row_of_leads Inward n links x w net h = row_of_in n links x w net h

-- links fall, so heights show in which direction the link to a neighbour points
pub leads_lies : (f : First) (heights : List ℕ) (links : List (ℕ × ℕ)) (x w : ℕ) → AreFalling heights links
    → LeadsOn f links x w → LiesOn f (slice_index heights x) (slice_index heights w)
leads_lies Outward heights links x w falling step = falling x w step
leads_lies Inward heights links x w falling step = falling w x step

lies_leads : (f g : First) (heights : List ℕ) (links : List (ℕ × ℕ)) (x w : ℕ) → AreFalling heights links
    → LeadsOn g links x w → LiesOn f (slice_index heights x) (slice_index heights w) → LeadsOn f links x w
lies_leads Outward Outward heights links x w falling step lies = step
lies_leads Outward Inward heights links x w falling step lies = absurd (omega (arith, falling w x step))
lies_leads Inward Outward heights links x w falling step lies = absurd (omega (arith, falling x w step))
lies_leads Inward Inward heights links x w falling step lies = step

pub entry_leads : (f : First) (n : ℕ) (links : List (ℕ × ℕ)) (x : ℕ) (entries : List (ℕ × First)) (k : ℕ) (d : ℕ
    × First)
    → entries ≡ row n links x → k < length entries → (get_or entries k d).1 ≡ f
    → LeadsOn f links x (get_or entries k d).0
entry_leads f n links x entries k d is l same =
    let w = (get_or entries k d).0 in
    let listed : Contains entries (w, f) =
    (k, l, get_or_default entries k (w, f) d l ∙ entry_is (get_or entries k d) f same) in
    leads_by_row f n links x w (subst (λ (es : List (ℕ × First)). Contains es (w, f)) is listed)

pub entry_leads_by_height : (f : First) (n : ℕ) (heights : List ℕ) (links : List (ℕ × ℕ)) (x : ℕ)
    (entries : List (ℕ × First)) (k : ℕ) (d : ℕ × First) → AreFalling heights links → entries ≡ row n links x
    → k < length entries → LiesOn f (slice_index heights x) (slice_index heights (get_or entries k d).0)
    → LeadsOn f links x (get_or entries k d).0
entry_leads_by_height f n heights links x entries k d falling is l lies =
    let e = get_or entries k d in
    lies_leads f e.1 heights links x e.0 falling (entry_leads e.1 n links x entries k d is l refl) lies

pub entry_below : (n : ℕ) (links : List (ℕ × ℕ)) (x : ℕ) (entries : List (ℕ × First)) (k : ℕ) (d : ℕ × First)
    → entries ≡ row n links x → k < length entries → (get_or entries k d).0 < n
entry_below n links x entries k d is l =
    (row_holds n links x (get_or entries k d) (subst (λ (es : List (ℕ
    × First)). Contains es (get_or entries k d)) is (Contains-get_or entries k d l))).0

-- the entries of a row that a side has passed
pub passed_stays : {f : First} {before after : Side} {old new : List Met} (heights : List ℕ) (entries : List (ℕ
    × First))
    (place : ℕ) → before.first ≡ f → HasMetMore before after old new → HasPassed heights f before old entries place
    → HasPassed heights f after new entries place
passed_stays {f} heights entries place first_is more passed k d lt same =
    settled_stays f _ _ first_is more (passed k d lt same)

pub passed_more : (heights : List ℕ) (f : First) (side : Side) (met : List Met) (entries : List (ℕ × First)) (place : ℕ)
    (e : ℕ × First) → HasPassed heights f side met entries place → place < length entries
    → ((get_or entries place e).1 ≡ f
    → IsMetOrAside f side met (get_or entries place e).0 (slice_index heights (get_or entries place e).0))
    → HasPassed heights f side met entries (place + 1)
passed_more heights f side met entries place e passed l here k d lt same =
    elim (cases_lt k place) [
      | inl less ↦ passed k d less same
      | inr past ↦
          let at : get_or entries k d ≡ get_or entries place e = let k_is : k ≡ place = omega arith in
          rw k_is (get_or_default entries place d e l) in
          rw at (here (rw at at same))
    ]

-- a side whose next row was read to its end
pub side_reads : {net : Network} {heights : List ℕ} {f : First} {start limit : ℕ} {met : List Met} {side : Side} (x : ℕ)
    → IsNet net.nodes net.links → side.read < length side.nodes.items → get_or side.nodes.items side.read 0 ≡ x
    → HasPassed heights f side met (row net.nodes net.links x) (length (row net.nodes net.links x))
    → IsSide net heights f start limit met side
    → IsSide net heights f start limit met (record side { read = side.read + 1 })
side_reads {net} {heights} {f} {start} {limit} {met} {side} x is_net unread at_read passed s =
    let here : (w : ℕ) → LeadsOn f net.links x w → IsMetOrAside f side met w (slice_index heights w) = λ w step.
    let at = row_of_leads f net.nodes net.links x w is_net step in
    let is : get_or (row net.nodes net.links x) at.0 (w, f) ≡ (w, f) = at.2 in
    let entry_settled : ℕ × First → Type 0 = λ e. e.1 ≡ f → IsMetOrAside f side met e.0 (slice_index heights e.0) in
    let done : entry_settled (w, f) = subst entry_settled is (passed at.0 (w, f) at.1) in
    done refl in
    record {
      one_each = s.one_each;
      first_is = s.first_is;
      limit_is = s.limit_is;
      start_is = s.start_is;
      begun = s.begun;
      reached = s.reached;
      all_met = s.all_met;
      listed = s.listed;
      inside = omega arith;
      within = s.within;
      leads_on = λ k w l step. again w (elim (cases_lt k side.read) [
        | inl less ↦ s.leads_on k w less step
        | inr more ↦ let e : k ≡ side.read = omega arith in here w (rw (e, at_read) at step)
      ]);
      room = s.room;
    }
  where
    again : (w : ℕ) → IsMetOrAside f side met w (slice_index heights w)
        → IsMetOrAside f (record side { read = side.read + 1 }) met w (slice_index heights w)
    again w (inl h) = inl h
    again w (inr aside) = inr record { beyond = aside.beyond; past = aside.past }

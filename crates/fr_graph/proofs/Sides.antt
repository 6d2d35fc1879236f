-- A side of a search from both ends keeps its state when it begins, meets a node, skips one, and when the other side
-- continues.
use Rattle.std.proofs.Common.{Bool, Contains, IsTrue, List, [], ap, arith, false, get_or, inl, inr, length, refl, set}
use Rattle.std.proofs.Common.{slice_index, subst, sym, ℕ, ◌+◌, ◌<◌, ◌∙◌}
use Rattle.std.proofs.Common.{◌∷◌, ◌≡◌, ◌≤◌, ◌⊎◌, ◌↔◌}
use Rattle.std.proofs.lemmas.Bool.{cases_lt}
use Rattle.std.proofs.lemmas.List.{get_or_past, get_or-set_same}
use Rattle.std.proofs.lemmas.List.Elements.{All-contains, All-get_or, All-push, Contains-append_left, Contains-push}
use Rattle.std.specs.List.{All}
use Rattle.fr_graph.specs.Links.{HasPath, IsPath, Points, end_of}
use Rattle.fr_graph.specs.PathSearch.{HasBegun, HasMet, HasMetMore, HasMovedEdge, HasPathOn, IsBeyond, IsSide, LeadsOn}
use Rattle.fr_graph.specs.PathSearch.{MeetsNew, met_by}
use Rattle.fr_graph.specs.PathSearch.{never_count, start_of}
use Rattle.fr_graph.specs.Network.{Network}
use Rattle.fr_graph.specs.RowLists.{opposite}
use Rattle.fr_graph.specs.declared.path_search.Met.{Met}
use Rattle.fr_graph.specs.declared.path_search.Met.TheVariants.{Never}
use Rattle.fr_graph.specs.declared.path_search.Side.{Side}
use Rattle.fr_graph.specs.declared.first.First.{First}
use Rattle.fr_graph.specs.declared.first.First.TheVariants.{Inward, Outward}
use Rattle.fr_graph.proofs.MetNodes.{never_apart, met_set, one_more, none_more, same_more, met_stays, settled_stays}
use Rattle.fr_graph.proofs.MetNodes.{other_was}

-- a path that leads on to a node, and on from it by one link
path_grows : (links : List (ℕ × ℕ)) (x : ℕ) (vs : List ℕ) (y w : ℕ) → IsPath links x vs → end_of x vs ≡ y
    → Points links y w → HasPath links x w
path_grows links x [] y w path e step = (w ∷ [], ((rw e step, tt), refl))
path_grows links x (v ∷ vs) y w path e step =
    let rest = path_grows links v vs y w path.1 e step in (v ∷ rest.0, ((path.0, rest.1.0), rest.1.1))

on_path : (f : First) (links : List (ℕ × ℕ)) (s : ℕ) → HasPathOn f links s s
on_path Outward links s = ([], (tt, refl))
on_path Inward links s = ([], (tt, refl))

path_on : (f : First) (links : List (ℕ × ℕ)) (s x w : ℕ) → HasPathOn f links s x → LeadsOn f links x w
    → HasPathOn f links s w
path_on Outward links s x w path step = path_grows links s path.0 x w path.1.0 path.1.1 step
path_on Inward links s x w path step = (x ∷ path.0, ((step, path.1.0), path.1.1))

-- a side that has met only its start
pub side_begins : (net : Network) (heights : List ℕ) (f : First) (start limit : ℕ) (met : List Met) (side : Side)
    → length met ≡ net.nodes → HasMet f met start → ((x : ℕ) → HasMet f met x → x ≡ start)
    → never_count met + 1 ≤ net.nodes
    → ¬ IsBeyond f limit (slice_index heights start) → HasBegun f start limit net.nodes side
    → IsSide net heights f start limit met side
side_begins net heights f start limit met side long here alone few near b =
    let first : (P : ℕ → Type 0) → P start → All P side.nodes.items =
    λ P p. rw b.met_alone (All-push P [] start (λ k d h. absurd (omega arith)) p) in
    record {
      one_each = long;
      first_is = b.first_is;
      limit_is = b.limit_is;
      start_is = rw b.met_alone refl;
      begun = rw b.met_alone (omega arith);
      reached = first (HasPathOn f net.links start) (on_path f net.links start);
      all_met = first (HasMet f met) here;
      listed = λ x h. rw (b.met_alone, alone x h) (Contains-push [] start);
      inside = rw b.none_read (omega arith);
      within = first (λ (x : ℕ). ¬ IsBeyond f limit (slice_index heights x)) near;
      leads_on = λ k w l step. absurd (omega (arith, b.none_read, l));
      room = omega (arith, few, b.room, ap length b.met_alone);
    }

-- a side that has met one more node
side_meets : {net : Network} {heights : List ℕ} {f : First} {start limit : ℕ} {old new : List Met} {before after : Side}
    {x : ℕ} → x < net.nodes → before.read < length before.nodes.items
    → LeadsOn f net.links (get_or before.nodes.items before.read 0) x → ¬ IsBeyond f limit (slice_index heights x)
    → MeetsNew before after old new x → IsSide net heights f start limit old before
    → IsSide net heights f start limit new after
side_meets {net} {heights} {f} {start} {limit} {old} {new} {before} {after} {x} below unread step near m s =
    let l : x < length old = omega (arith, s.one_each) in
    let more = one_more l m in
    let new_is : new ≡ set old x (met_by f) = rw s.first_is at m.met in
    let now : HasMet f new x = rw new_is (get_or-set_same old x (met_by f) Never l) in
    record {
      one_each = more.one_each ∙ s.one_each;
      first_is = m.same_first ∙ s.first_is;
      limit_is = m.same_limit ∙ s.limit_is;
      start_is = more.stands 0 s.begun ∙ s.start_is;
      begun = omega (arith, s.begun, more.longer);
      reached = rw m.nodes (All-push (HasPathOn f net.links start) before.nodes.items x s.reached
          (path_on f net.links start _ x
          (All-get_or (HasPathOn f net.links start) before.nodes.items before.read 0 unread s.reached) step));
      all_met =
          rw m.nodes (All-push (HasMet f new) before.nodes.items x
          (λ k d h. met_stays f _ s.first_is more (s.all_met k d h)) now);
      listed = λ y h. rw m.nodes (elim (met_set old x y (met_by f) l) [
        | inl w ↦ rw w.0 (Contains-push before.nodes.items x)
        | inr w ↦ Contains-append_left before.nodes.items (x ∷ []) y (s.listed y (sym w ∙ rw new_is at h))
      ]);
      inside = rw m.same_read (omega (arith, s.inside, more.longer));
      within =
          rw m.nodes (All-push (λ (y : ℕ). ¬ IsBeyond f limit (slice_index heights y)) before.nodes.items x s.within
          near);
      leads_on = λ k w l step.
          let early : k < before.read = omega (arith, l, m.same_read) in
          settled_stays f w (slice_index heights w) s.first_is more (s.leads_on k w early (rw (more.stands k (omega (
            arith,
            early,
            s.inside,
          ))) at step));
      room = rw m.same_room (omega (arith, more.counted, s.room));
    }

-- a side that may have skipped one more node
pub side_moves : {net : Network} {heights : List ℕ} {f : First} {start limit : ℕ} {met : List Met} {before after : Side}
    → HasMovedEdge before after → IsSide net heights f start limit met before
    → IsSide net heights f start limit met after
side_moves {net} {heights} {f} {start} {limit} {met} {before} {after} m s = record {
  one_each = s.one_each;
  first_is = m.same_first ∙ s.first_is;
  limit_is = m.same_limit ∙ s.limit_is;
  start_is = rw m.same_nodes s.start_is;
  begun = rw m.same_nodes s.begun;
  reached = rw m.same_nodes s.reached;
  all_met = rw m.same_nodes s.all_met;
  listed = rw m.same_nodes s.listed;
  inside = rw (m.same_nodes, m.same_read) s.inside;
  within = rw m.same_nodes s.within;
  leads_on = λ k w l step. settled_stays f w (slice_index heights w) s.first_is (none_more m)
      (s.leads_on k w (omega (arith, l, m.same_read)) (rw m.same_nodes at step));
  room = rw m.same_nodes s.room;
}

-- so it keeps its state, whether it meets a node within the limit now or has met it before
pub side_goes_on : {net : Network} {heights : List ℕ} {f : First} {start limit : ℕ} {old new : List Met}
    {before after : Side} (x : ℕ) → x < net.nodes → before.read < length before.nodes.items
    → LeadsOn f net.links (get_or before.nodes.items before.read 0) x → ¬ IsBeyond f limit (slice_index heights x)
    → ((after ≡ before) × (new ≡ old)) ⊎ MeetsNew before after old new x → IsSide net heights f start limit old before
    → IsSide net heights f start limit new after × HasMetMore before after old new × (after.read ≡ before.read)
    × (after.edge ≡ before.edge)
side_goes_on {old = old} {before = before} x below unread step near (inl m) s =
    rw (m.0, m.1) (s, same_more before old, refl, refl)
side_goes_on x below unread step near (inr m) s =
    (side_meets below unread step near m s, one_more (omega (arith, s.one_each)) m, m.same_read, m.same_edge)

-- the other side, after a side meets more nodes
pub other_stays : {net : Network} {heights : List ℕ} {start limit : ℕ} {old new : List Met} {before after other : Side}
    (f : First) → before.first ≡ f → HasMetMore before after old new
    → IsSide net heights (opposite f) start limit old other
    → IsSide net heights (opposite f) start limit new other
other_stays {net} {heights} {start} {limit} {old} {new} {before} {after} {other} f first_is more s =
    let g = opposite f in
    let met = rw first_is at more.met in
    let stays : (y : ℕ) → HasMet g old y → HasMet g new y =
    λ y h. elim (met y) [ inl e ↦ e ∙ h | inr w ↦ absurd (never_apart g (sym h ∙ w.0)) ] in
    record {
      one_each = more.one_each ∙ s.one_each;
      first_is = s.first_is;
      limit_is = s.limit_is;
      start_is = s.start_is;
      begun = s.begun;
      reached = s.reached;
      all_met = λ k d h. stays _ (s.all_met k d h);
      listed = λ y h. s.listed y (other_was f y first_is more h);
      inside = s.inside;
      within = s.within;
      leads_on = λ k w l step. elim (s.leads_on k w l step) [ inl h ↦ inl (stays w h) | inr aside ↦ inr aside ];
      room = omega (arith, more.counted, more.longer, s.room);
    }

pub start_met : {net : Network} {heights : List ℕ} {f : First} {start limit : ℕ} {met : List Met} {side : Side}
    → IsSide net heights f start limit met side → HasMet f met start
start_met s = rw s.start_is at (s.all_met 0 0 s.begun)

pub listed_met : {net : Network} {heights : List ℕ} {f : First} {start limit : ℕ} {met : List Met} {side : Side} (x : ℕ)
    → IsSide net heights f start limit met side → Contains side.nodes.items x → HasMet f met x
listed_met {net} {heights} {f} {start} {limit} {met} {side} x s h =
    All-contains (HasMet f met) side.nodes.items x s.all_met h

-- a path leads on to each node that a side has met
pub met_reached : {net : Network} {heights : List ℕ} {f : First} {start limit : ℕ} {met : List Met} {side : Side}
    (x : ℕ)
    → IsSide net heights f start limit met side → HasMet f met x → HasPathOn f net.links start x
met_reached {net} {heights} {f} {start} {limit} {met} {side} x s h =
    All-contains (HasPathOn f net.links start) side.nodes.items x s.reached (s.listed x h)

-- the nodes of a side are within the limit, and below the number of nodes
pub near_met : {net : Network} {heights : List ℕ} {f : First} {start limit : ℕ} {met : List Met} {side : Side} (x : ℕ)
    → IsSide net heights f start limit met side → HasMet f met x → ¬ IsBeyond f limit (slice_index heights x)
near_met {net} {heights} {f} {start} {limit} {met} {side} x s h =
    All-contains (λ (y : ℕ). ¬ IsBeyond f limit (slice_index heights y)) side.nodes.items x s.within (s.listed x h)

pub met_below : {net : Network} {heights : List ℕ} {f : First} {start limit : ℕ} {met : List Met} {side : Side} (x : ℕ)
    → IsSide net heights f start limit met side → HasMet f met x → x < net.nodes
met_below {net} {heights} {f} {start} {limit} {met} {side} x s h =
    elim (cases_lt x net.nodes) [
      | inl l ↦ l
      | inr g ↦ absurd (never_apart f (sym h ∙ get_or_past met x Never (omega (arith, s.one_each))))
    ]

-- a side, described by its own fields
pub own_side : {net : Network} {heights : List ℕ} {f : First} {start limit : ℕ} {met : List Met} {side : Side}
    → IsSide net heights f start limit met side → IsSide net heights side.first (start_of side) side.limit met side
own_side {net} {heights} {f} {start} {limit} {met} {side} is =
    subst (λ (g : First). IsSide net heights g (start_of side) side.limit met side) (sym is.first_is)
    (subst (λ (a : ℕ). IsSide net heights f a side.limit met side) (sym is.start_is)
    (subst (λ (l : ℕ). IsSide net heights f start l met side) (sym is.limit_is) is))

-- the node whose row is read next
pub next_below : {net : Network} {heights : List ℕ} {f : First} {start limit : ℕ} {met : List Met} {side : Side} (x : ℕ)
    → IsSide net heights f start limit met side → side.read < length side.nodes.items
    → x ≡ get_or side.nodes.items side.read x → x < net.nodes
next_below {side = side} x is unread at = met_below x is (listed_met x is (side.read, unread, sym at))

-- a side without unread nodes has read all its rows
pub none_left : {has : Bool} {read nodes : ℕ} → has ≡ false → IsTrue has ↔ (read < nodes) → nodes ≤ read
none_left {has} {read} {nodes} none says =
    elim (cases_lt read nodes) [ inl left ↦ cc (says.1 left, none) | inr read_all ↦ read_all ]

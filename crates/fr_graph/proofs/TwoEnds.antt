-- The steps of the search for a path from both ends keep its state. If a side has nothing left to read, there is no
-- path.
use Rattle.std.proofs.Common.{Contains, List, [], ap, arith, get_or, inl, inr, length, replicate, set, slice_index, sym, ℕ, ◌+◌, ◌<◌, ◌∙◌, ◌∷◌, ◌≡◌}
use Rattle.std.proofs.Common.{◌≢◌, ◌≤◌, ◌⊎◌}
use Rattle.std.proofs.lemmas.List.{get_or_default, get_or-set_other, get_or-set_same, length-replicate, length-set}
use Rattle.std.proofs.lemmas.List.Elements.{Contains-push_cases}
use Rattle.std.proofs.lemmas.List.Sums.{count_by-le-length}
use Rattle.fr_graph.proofs.Acyclic.{path_falls}
use Rattle.fr_graph.proofs.AddedLinks.{added, path_joins}
use Rattle.fr_graph.specs.Heights.{AreFalling, FitBetween}
use Rattle.fr_graph.specs.Links.{HasPath, IsPath, Points, end_of}
use Rattle.fr_graph.specs.PathSearch.{HasBegun, HasMet, IsBeyond, IsPast, IsSide, IsPathAnswer, LeadsOn, Meets, is_never}
use Rattle.fr_graph.specs.PathSearch.{met_of, never_count, answer_of_ended}
use Rattle.fr_graph.specs.Network.{Network}
use Rattle.fr_graph.specs.RowLists.{opposite}
use Rattle.fr_graph.specs.declared.path_search.Met.{Met}
use Rattle.fr_graph.specs.declared.path_search.Met.TheVariants.{Backward, Forward, Never}
use Rattle.fr_graph.specs.declared.path_search.Side.{Side}
use Rattle.fr_graph.specs.declared.first.First.{First}
use Rattle.fr_graph.specs.declared.first.First.TheVariants.{Inward, Outward}
use Rattle.fr_graph.proofs.Lists.{all_default}
use Rattle.fr_graph.proofs.MetNodes.{sides_apart, met_set, fewer_never}
use Rattle.fr_graph.proofs.Sides.{side_begins, start_met, listed_met, near_met, met_below, met_reached}

-- if links from nodes with P lead only to nodes with P, except to heads below the limit, so do paths that end no lower
path_ahead : (heights : List ℕ) (links : List (ℕ × ℕ)) (limit : ℕ) (P : ℕ → Type 0) → AreFalling heights links
    → ((u v : ℕ) → P u → Points links u v → P v ⊎ (slice_index heights v < limit)) → (u : ℕ) (vs : List ℕ)
    → IsPath links u vs → limit ≤ slice_index heights (end_of u vs) → P u → P (end_of u vs)
path_ahead heights links limit P falling on u [] path high here = here
path_ahead heights links limit P falling on u (v ∷ vs) path high here =
    elim (on u v here path.0) [
      | inl there ↦ path_ahead heights links limit P falling on v vs path.1 high there
      | inr low ↦ absurd (omega (arith, path_falls links heights (λ x y p. omega (arith, falling x y p)) v vs path.1))
    ]

-- the same backward, except from tails above the limit, along paths that begin no higher
path_behind : (heights : List ℕ) (links : List (ℕ × ℕ)) (limit : ℕ) (P : ℕ → Type 0) → AreFalling heights links
    → ((u v : ℕ) → P v → Points links u v → P u ⊎ (limit < slice_index heights u)) → (u : ℕ) (vs : List ℕ)
    → IsPath links u vs → slice_index heights u ≤ limit → P (end_of u vs) → P u
path_behind heights links limit P falling on u [] path low there = there
path_behind heights links limit P falling on u (v ∷ vs) path low there =
    elim (on u v (path_behind heights links limit P falling on v vs path.1 (omega (arith, falling u v path.0)) there)
    path.0) [ inl here ↦ here | inr high ↦ absurd (omega arith) ]

-- a side has not met the start of the other side
start_unmet : {net : Network} {heights : List ℕ} {f : First} {a b low high : ℕ} {met : List Met} {side other : Side}
    → IsSide net heights f a low met side → IsSide net heights (opposite f) b high met other → ¬ HasMet f met b
start_unmet {net} {heights} {f} s o h = sides_apart f (sym h ∙ start_met o)

-- if the sides meet, there is a path
pub ahead_meets : {net : Network} {heights : List ℕ} {from to low high : ℕ} {met : List Met} {ahead behind : Side}
    → IsSide net heights Outward from low met ahead → IsSide net heights Inward to high met behind → Meets Outward net.links met → HasPath net.links from to
ahead_meets {net} s o m =
    let here = met_reached m.own s m.own_met in
    let there = met_reached m.other o m.other_met in
    path_joins net.links _ here.0 m.own _ here.1.0 here.1.1 (m.other ∷ there.0, ((m.leads, there.1.0), there.1.1))

pub behind_meets : {net : Network} {heights : List ℕ} {from to low high : ℕ} {met : List Met} {ahead behind : Side}
    → IsSide net heights Outward from low met ahead → IsSide net heights Inward to high met behind → Meets Inward net.links met → HasPath net.links from to
behind_meets s o m = ahead_meets s o (record { own = m.other; other = m.own; own_met = m.other_met; other_met = m.own_met; leads = m.leads })

-- if a side has read the rows of all its nodes, links lead on only to nodes that it has met, or that lie past its edge
side_closed : {net : Network} {heights : List ℕ} {f : First} {start limit : ℕ} {met : List Met} {side : Side} (x w : ℕ)
    → IsSide net heights f start limit met side → length side.nodes.items ≤ side.read → HasMet f met x
    → LeadsOn f net.links x w → HasMet f met w ⊎ (IsBeyond f limit (slice_index heights w) × IsPast f side.edge (slice_index heights w))
side_closed {net} {heights} {f} {start} {limit} {met} {side} x w s all h step =
    let at = s.listed x h in
    let is : get_or side.nodes.items at.0 0 ≡ x = get_or_default side.nodes.items at.0 0 x at.1 ∙ at.2 in
    elim (s.leads_on at.0 w (omega (arith, at.1, all)) (rw is step)) [
      | inl there ↦ inl there
      | inr aside ↦ inr (rw (s.first_is, s.limit_is) at aside.beyond, rw s.first_is at aside.past)
    ]

-- the links with a link back fall outside and within a side that has met only one of the two ends
points_added : (links : List (ℕ × ℕ)) (a b u v : ℕ) → Points (added links a b) u v → Points links u v ⊎ ((u ≡ a) × (v ≡ b))
points_added links a b u v p =
    elim (Contains-push_cases links (a, b) (u, v) p) [ inl old ↦ inl old | inr e ↦ inr (ap (λ (l : ℕ × ℕ). l.0) (sym e), ap (λ (l : ℕ × ℕ). l.1) (sym e)) ]

old_falls : (heights : List ℕ) (links : List (ℕ × ℕ)) (a b u v : ℕ) → AreFalling heights links
    → Points (added links a b) u v → ¬ ((u ≡ a) × (v ≡ b)) → slice_index heights v < slice_index heights u
old_falls heights links a b u v falling p old = elim (points_added links a b u v p) [ inl step ↦ falling u v step | inr new ↦ absurd (old new) ]

-- so once a side has read the rows of all its nodes, it is decided whether a path leads from the one node to the other
pub ended_ahead : {net : Network} {heights : List ℕ} {from to : ℕ} {met : List Met} {ahead behind : Side}
    → AreFalling heights net.links → IsSide net heights Outward from (slice_index heights to) met ahead
    → IsSide net heights Inward to (slice_index heights from) met behind → length ahead.nodes.items ≤ ahead.read
    → IsPathAnswer net heights from to (answer_of_ended ahead)
ended_ahead {net} {heights} {from} {to} {met} {ahead} {behind} falling s o all =
    let links = net.links in
    let here : Contains ahead.nodes.items from = s.listed from (start_met s) in
    let there : ¬ Contains ahead.nodes.items to = λ h. start_unmet s o (listed_met to s h) in
    let none : ¬ HasPath links from to = λ way.
    let on : (u v : ℕ) → HasMet Outward met u → Points links u v → HasMet Outward met v
    ⊎ (slice_index heights v < slice_index heights to) = λ u v h step. elim (side_closed u v s all h step) [ inl h ↦ inl h | inr past ↦ inr past.0 ] in
    let reached = path_ahead heights links (slice_index heights to) (HasMet Outward met) falling on from way.0 way.1.0
    (rw way.1.1 (omega arith)) (start_met s) in
    start_unmet s o (rw way.1.1 at reached) in
    let fit : FitBetween (added links to from) heights ahead.nodes.items ahead.edge (slice_index heights to) = record {
      into = λ u v p out inside. elim (points_added links to from u v p) [
        | inl step ↦ omega (arith, falling u v step, near_met v s (listed_met v s inside))
        | inr new ↦ rw new.0 (omega arith)
      ];
      out = λ u v p inside out. elim (points_added links to from u v p) [
        | inl step ↦ elim (side_closed u v s all (listed_met u s inside) step) [ inl h ↦ absurd (out (s.listed v h)) | inr past ↦ past.1 ]
        | inr new ↦ absurd (there (rw new.0 at inside))
      ];
      within = λ u v p inside also. old_falls heights links to from u v falling p (λ new. there (rw new.0 at inside));
      outside = λ u v p out also. old_falls heights links to from u v falling p (λ new. also (rw new.1 here));
    } in
    let first_is = s.first_is in
    rw (first_is, s.limit_is) (none, (λ k d l. met_below _ s (s.all_met k d l), fit))

pub ended_behind : {net : Network} {heights : List ℕ} {from to : ℕ} {met : List Met} {ahead behind : Side}
    → AreFalling heights net.links → IsSide net heights Outward from (slice_index heights to) met ahead
    → IsSide net heights Inward to (slice_index heights from) met behind → length behind.nodes.items ≤ behind.read
    → IsPathAnswer net heights from to (answer_of_ended behind)
ended_behind {net} {heights} {from} {to} {met} {ahead} {behind} falling o s all =
    let links = net.links in
    let here : Contains behind.nodes.items to = s.listed to (start_met s) in
    let there : ¬ Contains behind.nodes.items from = λ h. start_unmet s o (listed_met from s h) in
    let none : ¬ HasPath links from to = λ way.
    let on : (u v : ℕ) → HasMet Inward met v → Points links u v → HasMet Inward met u
    ⊎ (slice_index heights from < slice_index heights u) = λ u v h step. elim (side_closed v u s all h step) [ inl h ↦ inl h | inr past ↦ inr past.0 ] in
    start_unmet s o (path_behind heights links (slice_index heights from) (HasMet Inward met) falling on from way.0 way.1.0
    (omega arith) (rw way.1.1 (start_met s))) in
    let fit : FitBetween (added links to from) heights behind.nodes.items (slice_index heights from) behind.edge = record {
      into = λ u v p out inside. elim (points_added links to from u v p) [
        | inl step ↦ elim (side_closed v u s all (listed_met v s inside) step) [ inl h ↦ absurd (out (s.listed u h)) | inr past ↦ past.1 ]
        | inr new ↦ absurd (out (rw new.0 here))
      ];
      out = λ u v p inside out. elim (points_added links to from u v p) [
        | inl step ↦ omega (arith, falling u v step, near_met u s (listed_met u s inside))
        | inr new ↦ rw new.1 (omega arith)
      ];
      within = λ u v p inside also. old_falls heights links to from u v falling p (λ new. there (rw new.1 at also));
      outside = λ u v p out also. old_falls heights links to from u v falling p (λ new. out (rw new.0 here));
    } in
    rw (s.first_is, s.limit_is) (none, (λ k d l. met_below _ s (s.all_met k d l), fit))

-- both sides when they begin
pub sides_begin : (net : Network) (heights : List ℕ) (from to : ℕ) (met : List Met) (ahead behind : Side) → from < net.nodes
    → to < net.nodes → from ≢ to → slice_index heights to ≤ slice_index heights from
    → met ≡ set (set (replicate net.nodes Never) from Forward) to Backward
    → HasBegun Outward from (slice_index heights to) net.nodes ahead
    → HasBegun Inward to (slice_index heights from) net.nodes behind
    → IsSide net heights Outward from (slice_index heights to) met ahead × IsSide net heights Inward to (slice_index heights from) met behind
sides_begin net heights from to met ahead behind from_below to_below apart no_higher met_is a b =
    let none : List Met = replicate net.nodes Never in
    let one : List Met = set none from Forward in
    let long : length none ≡ net.nodes = length-replicate net.nodes Never in
    let one_long : length one ≡ net.nodes = length-set none from Forward ∙ long in
    let met_long : length met ≡ net.nodes = rw met_is (length-set one to Backward ∙ one_long) in
    let l : from < length none = omega (arith, long) in
    let m : to < length one = omega (arith, one_long) in
    let to_fresh : met_of one to ≡ Never = get_or-set_other none from to Forward Never (λ e. apart (sym e)) ∙ all_default net.nodes to Never in
    let few : never_count met + 1 ≤ net.nodes =
    rw met_is (omega (
      arith,
      long,
      count_by-le-length is_never none,
      fewer_never none from Outward l
          (all_default net.nodes from Never),
      fewer_never one to Inward m to_fresh,
    )) in
    let from_met : met_of met from ≡ Forward = rw met_is (get_or-set_other one to from Backward Never apart ∙ get_or-set_same none from Forward Never l) in
    let to_met : met_of met to ≡ Backward = rw met_is (get_or-set_same one to Backward Never m) in
    let cases : (x : ℕ) → ((x ≡ to) × (met_of met x ≡ Backward)) ⊎ (((x ≡ from) × (met_of met x ≡ Forward)) ⊎ (met_of met x ≡ Never)) = λ x.
    rw met_is (elim (met_set one to x Backward m) [
      | inl w ↦ inl w
      | inr e ↦ elim (met_set none from x Forward l) [ inl v ↦ inr (inl (v.0, e ∙ v.1)) | inr q ↦ inr (inr (e ∙ q ∙ all_default net.nodes x Never)) ]
    ]) in
    let from_alone : (x : ℕ) → met_of met x ≡ Forward
    → x ≡ from = λ x h. elim (cases x) [ inl w ↦ cc (w.1, h) | inr r ↦ elim r [ inl v ↦ v.0 | inr q ↦ cc (q, h) ] ] in
    let to_alone : (x : ℕ) → met_of met x ≡ Backward
    → x ≡ to = λ x h. elim (cases x) [ inl w ↦ w.0 | inr r ↦ elim r [ inl v ↦ cc (v.1, h) | inr q ↦ cc (q, h) ] ] in (
      side_begins net heights Outward from (slice_index heights to) met ahead met_long from_met from_alone few (λ l. omega arith) a,
      side_begins net heights Inward to (slice_index heights from) met behind met_long to_met to_alone few (λ l. omega arith) b,
    )

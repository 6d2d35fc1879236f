-- Which nodes the sides of a search have met: no two are the same, and there are more from step to step.
use Rattle.std.proofs.Common.{List, [], arith, inl, inr, length, refl, set, sym, ℕ, ◌+◌, ◌<◌, ◌∙◌, ◌∷◌, ◌≡◌, ◌≢◌, ◌⊎◌}
use Rattle.std.proofs.lemmas.Bool.{cases_eq}
use Rattle.std.proofs.lemmas.List.{get_or_append_left, get_or-set_other, get_or-set_same, length-set, length_push}
use Rattle.std.proofs.lemmas.List.Sums.{sum_by-set}
use Rattle.fr_graph.proofs.Counting.{weigh}
use Rattle.fr_graph.specs.PathSearch.{HasMet, HasMetMore, HasMovedEdge, IsPast, IsMetOrAside, MeetsNew, is_never}
use Rattle.fr_graph.specs.PathSearch.{met_by, met_of, never_count}
use Rattle.fr_graph.specs.RowLists.{opposite}
use Rattle.fr_graph.specs.declared.path_search.Met.{Met}
use Rattle.fr_graph.specs.declared.path_search.Met.TheVariants.{Never}
use Rattle.fr_graph.specs.declared.path_search.Side.{Side}
use Rattle.fr_graph.specs.declared.first.First.{First}
use Rattle.fr_graph.specs.declared.first.First.TheVariants.{Inward, Outward}

-- what one side has met, the other has not
pub never_apart : (f : First) → met_by f ≢ Never
never_apart Outward e = cc
never_apart Inward e = cc

pub sides_apart : (f : First) → met_by f ≢ met_by (opposite f)
sides_apart Outward e = cc
sides_apart Inward e = cc

pub met_set : (met : List Met) (x y : ℕ) (m : Met) → x < length met
    → ((y ≡ x) × (met_of (set met x m) y ≡ m)) ⊎ (met_of (set met x m) y ≡ met_of met y)
met_set met x y m l =
    elim (cases_eq y x) [
      | inl e ↦ inl (e, rw e (get_or-set_same met x m Never l))
      | inr ne ↦ inr (get_or-set_other met x y m Never ne)
    ]

pub fewer_never : (met : List Met) (x : ℕ) (f : First) → x < length met → met_of met x ≡ Never
    → never_count (set met x (met_by f)) + 1 ≡ never_count met
fewer_never met x f l fresh =
    let weight : Met → ℕ = λ m. weigh (is_never m) in
    let one : weight (met_of met x) ≡ 1 = rw fresh refl in
    let none : (g : First) → weight (met_by g) ≡ 0 =
    λ g. elim g as (λ h. weight (met_by h) ≡ 0) [ Outward ↦ refl | Inward ↦ refl ] in
    omega (arith, sum_by-set weight met x (met_by f) Never l, one, none f)

-- nodes that a side met later, after others
pub one_more : {before after : Side} {old new : List Met} {x : ℕ} → x < length old → MeetsNew before after old new x
    → HasMetMore before after old new
one_more {before} {after} {old} {new} {x} l m =
    let long : length after.nodes.items ≡ length before.nodes.items + 1 =
    rw m.nodes (length_push before.nodes.items x) in
    record {
      same_first = m.same_first;
      same_limit = m.same_limit;
      nearer = λ height past. rw m.same_edge past;
      longer = omega (arith, long);
      stands = λ k h. rw m.nodes (get_or_append_left before.nodes.items (x ∷ []) 0 k h);
      met =
          λ y. rw m.met (elim (met_set old x y (met_by before.first) l)
          [ inl w ↦ inr (rw w.0 m.fresh, w.1) | inr w ↦ inl w ]);
      one_each = rw m.met (length-set old x (met_by before.first));
      counted = rw m.met (omega (arith, long, fewer_never old x before.first l m.fresh));
    }

pub none_more : {before after : Side} {met : List Met} → HasMovedEdge before after → HasMetMore before after met met
none_more m = record {
  same_first = m.same_first;
  same_limit = m.same_limit;
  nearer = m.nearer;
  longer = rw m.same_nodes (omega arith);
  stands = λ k l. rw m.same_nodes refl;
  met = λ x. inl refl;
  one_each = refl;
  counted = rw m.same_nodes refl;
}

-- a side whose edge came nearer, or is unchanged
pub with_edge_nearer : {side : Side} {f : First} {edge : ℕ} → side.first ≡ f
    → ((height : ℕ) → IsPast f side.edge height → IsPast f edge height)
    → HasMovedEdge side (record side { edge = edge })
with_edge_nearer first_is nearer = record {
  same_first = refl;
  same_limit = refl;
  nearer = rw first_is nearer;
  same_nodes = refl;
  same_read = refl;
}

-- a side that met nothing, and whose edge is unchanged
pub same_more : (side : Side) (met : List Met) → HasMetMore side side met met
same_more side met = none_more {before = side} {after = side} {met = met} record {
  same_first = refl;
  same_limit = refl;
  nearer = λ height past. past;
  same_nodes = refl;
  same_read = refl;
}

-- a side that met more nodes still did so if nearer edges are put in place of its edges
pub more_by_edges : {before after : Side} {f : First} {old new : List Met} {edge nearer_edge : ℕ} → before.first ≡ f
    → ((height : ℕ) → IsPast f edge height → IsPast f nearer_edge height) → HasMetMore before after old new
    → HasMetMore (record before { edge = edge }) (record after { edge = nearer_edge }) old new
more_by_edges first_is nearer m = record {
  same_first = m.same_first;
  same_limit = m.same_limit;
  nearer = rw first_is nearer;
  longer = m.longer;
  stands = m.stands;
  met = m.met;
  one_each = m.one_each;
  counted = m.counted;
}

pub more_after : {first mid last : Side} {a b c : List Met} → HasMetMore first mid a b → HasMetMore mid last b c
    → HasMetMore first last a c
more_after {first} {mid} {last} {a} {b} {c} h g =
    let then : (x : ℕ) → (met_of c x ≡ met_of b x) ⊎ ((met_of b x ≡ Never) × HasMet first.first c x) =
    rw h.same_first at g.met in
    record {
      same_first = g.same_first ∙ h.same_first;
      same_limit = g.same_limit ∙ h.same_limit;
      nearer = λ height past. rw h.same_first at g.nearer height (h.nearer height past);
      longer = omega (arith, h.longer, g.longer);
      stands = λ k l. g.stands k (omega (arith, h.longer)) ∙ h.stands k l;
      met = λ x. elim (h.met x) [
        | inl e ↦ elim (then x) [ inl q ↦ inl (q ∙ e) | inr w ↦ inr (sym e ∙ w.0, w.1) ]
        | inr v ↦ elim (then x) [ inl q ↦ inr (v.0, q ∙ v.1) | inr w ↦ inr (v.0, w.1) ]
      ];
      one_each = g.one_each ∙ h.one_each;
      counted = g.counted ∙ h.counted;
    }

pub met_stays : (f : First) {before after : Side} {old new : List Met} (x : ℕ) → before.first ≡ f
    → HasMetMore before after old new → HasMet f old x → HasMet f new x
met_stays f x first_is more h = elim (more.met x) [ inl e ↦ e ∙ h | inr w ↦ rw first_is at w.1 ]

pub settled_stays : (f : First) {before after : Side} {old new : List Met} (x height : ℕ) → before.first ≡ f
    → HasMetMore before after old new → IsMetOrAside f before old x height → IsMetOrAside f after new x height
settled_stays f x height first_is more (inl met) = inl (met_stays f x first_is more met)
settled_stays f {before} {after} x height first_is more (inr aside) = inr record {
  beyond = rw (more.same_first, more.same_limit) aside.beyond;
  past = rw more.same_first (more.nearer height aside.past);
}

pub other_was : (f : First) {before after : Side} {old new : List Met} (x : ℕ) → before.first ≡ f
    → HasMetMore before after old new → HasMet (opposite f) new x → HasMet (opposite f) old x
other_was f x first_is more h =
    elim (more.met x) [ inl e ↦ sym e ∙ h | inr w ↦ absurd (sides_apart f (sym (rw first_is at w.1) ∙ h)) ]

-- the side has read one more row, and its edge may have come nearer
pub more_read : {before after : Side} {old new : List Met} {edge read : ℕ}
    → ((height : ℕ) → IsPast before.first after.edge height → IsPast before.first edge height)
    → HasMetMore before after old new → HasMetMore before (record after { edge = edge; read = read }) old new
more_read nearer more = record {
  same_first = more.same_first;
  same_limit = more.same_limit;
  nearer = λ height past. nearer height (more.nearer height past);
  longer = more.longer;
  stands = more.stands;
  met = more.met;
  one_each = more.one_each;
  counted = more.counted;
}

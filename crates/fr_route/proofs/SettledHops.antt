-- The hops of a settled network as a table: it has no loop, and each hop names a node. Which nodes are listed as
-- rerouted, from such tables.
use Rattle.std.proofs.Common.{Contains, List, Some, [], ap, arith, get_or, le_refl, length, refl, replicate}
use Rattle.std.proofs.Common.{slice_get, subst, sym, take, ℕ, ⊎_elim, ◌+◌, ◌++◌, ◌-◌, ◌<◌, ◌≤◌, ◌∙◌, ◌∷◌, ◌≡◌, ◌↔◌}
use Rattle.std.proofs.Math.ListN.{get_or-append}
use Rattle.std.proofs.lemmas.Bool.{cases_lt}
use Rattle.std.proofs.lemmas.List.{get_or-append-add, get_or-replicate, length-append, length-replicate, take_all}
use Rattle.std.proofs.lemmas.Option.{get_or_from_slice_get, slice_get-get_or, slice_get_past, slice_get_within}
use Rattle.fr_graph.specs.Links.{IsAcyclic, IsNet, IsPath, end_of}
use Rattle.fr_route.specs.Reroutes.{AreRerouted, IsRerouted}
use Rattle.fr_core.specs.Walks.{IsConnected}
use Rattle.fr_route.specs.Outcomes.{IsSettledTable}
use Rattle.fr_route.specs.Routes.{AreHops, IsHop}
use Rattle.fr_route.specs.States.{State, IsAfterRound, IsCutOff}
use Rattle.fr_tables.specs.Tables.{IsInRange, IsLoop, IsLoopFree, IsWalk}
use Rattle.fr_tables.specs.declared.hop.Hop.{Hop}
use Rattle.fr_tables.specs.declared.hop.Hop.TheVariants.{CutOff, Here, To}
use Rattle.fr_route.proofs.Determined.{one_hop}
use Rattle.fr_route.proofs.RoundEnds.{round_acyclic, round_joined, round_net}
use Rattle.fr_route.proofs.Routing.{joined_in_range}
use Rattle.fr_route.proofs.Walking.{route_in_range}

end_push : (x : ℕ) (ys : List ℕ) (z : ℕ) → end_of x (ys ++ z ∷ []) ≡ z
end_push x [] z = refl
end_push x (y ∷ ys) z = end_push y ys z

module _ (s : State) (n : ℕ) (hops : List Hop) (are : AreHops s n hops) where
  walk_path : (x : ℕ) (ys : List ℕ) → IsWalk hops x ys → IsPath s.links x ys
  walk_path x [] goes = tt
  walk_path x (y ∷ ys) goes = ((are.each x (To y) goes.0).1.1.link, walk_path y ys goes.1)

  -- a loop would be a cycle along the links
  no_loop : IsAcyclic s.links → (x : ℕ) (xs : List ℕ) → ¬ IsWalk hops x (xs ++ x ∷ [])
  no_loop acyclic x [] goes = acyclic x (x ∷ []) (walk_path x (x ∷ []) goes, refl)
  no_loop acyclic x (y ∷ ys) goes =
      acyclic x (y ∷ (ys ++ x ∷ [])) (walk_path x (y ∷ (ys ++ x ∷ [])) goes, end_push y ys x)

  no_loops : IsAcyclic s.links → (nodes : List ℕ) → ¬ IsLoop hops nodes
  no_loops acyclic [] none = none
  no_loops acyclic (x ∷ xs) goes = no_loop acyclic x xs goes

  pub settled_table : IsAfterRound s → s.nodes ≤ n → IsSettledTable s n hops
  settled_table after enough =
      let net : IsNet s.nodes s.links = round_net s.nodes s.dest after.first s after.is_net after.dest after.round in
      record {
        are = are;
        in_range = λ x y sends.
            let r = are.each x (To y) sends in
            let below : y < s.nodes = route_in_range s.nodes s.links s.dest y r.0 net after.dest r.1.2 in
            omega (arith, are.one_each, enough, below);
        loop_free = no_loops (round_acyclic s.nodes s.dest after.first s after.is_net after.dest after.round);
      }

pub settled_loop_free : (s : State) (hops : List Hop) → IsAfterRound s → AreHops s s.nodes hops → IsLoopFree hops
settled_loop_free s hops after are = (settled_table s s.nodes hops are after (le_refl s.nodes)).loop_free

pub settled_in_range : (s : State) (hops : List Hop) → IsAfterRound s → AreHops s s.nodes hops → IsInRange hops
settled_in_range s hops after are = (settled_table s s.nodes hops are after (le_refl s.nodes)).in_range

-- the hops of the numbers past the nodes, which are cut off
module _ (s : State) (after : IsAfterRound s) where
  pub outside_cut : (x : ℕ) → s.nodes ≤ x → IsCutOff s.dest s.links x
  outside_cut x out = (
    λ same. omega (arith, same, out, after.dest),
    λ joined.
        let at_first : IsConnected after.first s.dest x =
        (round_joined s.nodes s.dest after.first s after.is_net after.dest after.round x).1 joined in
        let below : x < s.nodes =
        joined_in_range s.nodes s.dest after.first after.is_net after.dest s.counts after.round.counts x at_first in
        omega (arith, out, below),
  )

  pub resized_table : (hops : List Hop) (n : ℕ) → AreHops s s.nodes hops → s.nodes ≤ n
      → IsSettledTable s n (take n hops ++ replicate (n - length hops) CutOff)
  resized_table hops n are enough =
      let whole : take n hops ≡ hops = take_all n hops (omega (arith, are.one_each, enough)) in
      let fill = replicate (n - length hops) CutOff in
      let long : length (hops ++ fill) ≡ n =
      omega (arith, length-append hops fill, length-replicate (n - length hops) CutOff, are.one_each, enough) in
      let below : (x : ℕ) (hop : Hop) → x < length hops → slice_get (hops ++ fill) x ≡ Some hop → IsHop s x hop =
      λ x hop low is. are.each x hop (slice_get-get_or hops x hop low ∙ ap Some (sym (get_or-append hops fill hop x low)
      ∙ get_or_from_slice_get (hops ++ fill) x hop hop is)) in
      let past : (x : ℕ) (hop : Hop) → length hops ≤ x → slice_get (hops ++ fill) x ≡ Some hop → IsHop s x hop =
      λ x hop high is.
      let at = x - length hops in
      let place : x ≡ length hops + at = omega (arith, high) in
      let inside : at < n - length hops = omega (arith, high, long, slice_get_within (hops ++ fill) x hop is) in
      let filled : hop ≡ CutOff =
      sym (get_or_from_slice_get (hops ++ fill) x hop hop is) ∙ (ap (λ (k : ℕ). get_or (hops ++ fill) k hop) place
      ∙ (get_or-append-add hops fill at hop ∙ get_or-replicate (n - length hops) at CutOff hop inside)) in
      subst (IsHop s x) (sym filled) (outside_cut x (omega (arith, high, are.one_each))) in
      let are_all : AreHops s n (hops ++ fill) = record {
        one_each = long;
        each = λ x hop is. ⊎_elim (λ low. below x hop low is) (λ high. past x hop high is) (cases_lt x (length hops));
      } in
      subst (λ (front : List Hop). IsSettledTable s n (front ++ fill)) (sym whole)
      (settled_table s n (hops ++ fill) are_all after enough)

-- exactly the rerouted nodes are listed
pub rerouted_told : (old new : State) (nodes : List ℕ) (x : ℕ) → old.nodes ≡ new.nodes → AreRerouted old new nodes
    → Contains nodes x ↔ ((x < new.nodes) × IsRerouted old new x)
rerouted_told old new nodes x same r = (
  λ found.
      let differ = (r.order.these x).0 found in
      ⊎_elim
      (λ below.
      let was = slice_get-get_or r.before x Here (omega (arith, below, r.were.one_each, same)) in
      let is = slice_get-get_or r.after x Here (omega (arith, below, r.are.one_each)) in (
        below,
        record {
          before = get_or r.before x Here;
          after = get_or r.after x Here;
          was = r.were.each x (get_or r.before x Here) was;
          is = r.are.each x (get_or r.after x Here) is;
          another = λ e. differ (was ∙ (ap Some e ∙ sym is));
        },
      ))
      (λ out. absurd (differ (slice_get_past r.before x (omega (arith, out, r.were.one_each, same))
      ∙ sym (slice_get_past r.after x (omega (arith, out, r.are.one_each))))))
      (cases_lt x new.nodes),
  λ (below, at). (r.order.these x).1 (λ alike.
      let was = slice_get-get_or r.before x Here (omega (arith, below, r.were.one_each, same)) in
      let is = slice_get-get_or r.after x Here (omega (arith, below, r.are.one_each)) in
      let one : at.before ≡ get_or r.before x Here =
      one_hop old x at.before (get_or r.before x Here) at.was (r.were.each x (get_or r.before x Here) was) in
      let other : at.after ≡ get_or r.after x Here =
      one_hop new x at.after (get_or r.after x Here) at.is (r.are.each x (get_or r.after x Here) is) in
      at.another (cc (one, other, was, is, alike))),
)

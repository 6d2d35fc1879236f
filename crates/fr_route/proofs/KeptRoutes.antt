-- While hops are pushed, no node loses a route that it has before and after.
use Rattle.std.proofs.Common.{List, Some, [], ap, arith, get_or, le_refl, ℕ, ◌++◌, ◌<◌, ◌≤◌, ◌∙◌, ◌∷◌, ◌≡◌}
use Rattle.std.proofs.lemmas.Option.{slice_get-get_or}
use Rattle.fr_route.specs.Laws.{ChangeKeepsRoutes, HasRoute, PushesKeepRoutes, ReplacingKeepsRoutes}
use Rattle.fr_route.specs.Routes.{AreHops, IsRoute}
use Rattle.fr_route.specs.States.{State, IsAfterRound}
use Rattle.fr_tables.specs.Pushes.{IsPushOrder, IsPushed}
use Rattle.fr_tables.specs.Tables.{Arrives}
use Rattle.fr_tables.specs.declared.hop.Hop.{Hop}
use Rattle.fr_tables.specs.declared.hop.Hop.TheVariants.{Here, To}
use Rattle.fr_tables.proofs.Arriving.{arrives_before}
use Rattle.fr_tables.proofs.Orders.{beginning_closed, beginning_routed_first}
use Rattle.fr_tables.proofs.Pushing.{keeps_routes}
use Rattle.fr_route.proofs.Determined.{one_hop}
use Rattle.fr_route.proofs.RoundEnds.{round_net}
use Rattle.fr_route.proofs.Walking.{route_in_range}

-- a node that has a route in a state has it in the table of its hops
module _ (s : State) (n : ℕ) (hops : List Hop) (are : AreHops s n hops) (after : IsAfterRound s) (enough : s.nodes
    ≤ n) where
  route_arrives : (x : ℕ) (rest : List ℕ) → IsRoute s.links s.dest x rest → Arrives hops x
  route_arrives x rest route = go x rest route
    where
      at : (x : ℕ) (rest : List ℕ) → IsRoute s.links s.dest x rest → x < n
      at x rest route =
          let net = round_net s.nodes s.dest after.first s after.is_net after.dest after.round in
          omega (arith, route_in_range s.nodes s.links s.dest x rest net after.dest route, enough)

      go : (x : ℕ) (rest : List ℕ) → IsRoute s.links s.dest x rest → Arrives hops x
      go x [] route =
          let is = slice_get-get_or hops x Here (omega (arith, at x [] route, are.one_each)) in
          record {
            by = [];
            goes = tt;
            home = is ∙ ap Some (one_hop s x (get_or hops x Here) Here (are.each x (get_or hops x Here) is) route);
          }
      go x (y ∷ ys) route =
          let is = slice_get-get_or hops x Here (omega (arith, at x (y ∷ ys) route, are.one_each)) in
          let to : get_or hops x Here ≡ To y =
          one_hop s x (get_or hops x Here) (To y) (are.each x (get_or hops x Here) is) (ys, route) in
          arrives_before hops x y (is ∙ ap Some to) (go y ys route.2)

  pub has_route : (x : ℕ) → HasRoute s x → Arrives hops x
  has_route x (rest, route) = route_arrives x rest route

order_keeps : (old new : List Hop) (done left : List ℕ) (table : List Hop) (x : ℕ) → IsPushOrder old new (done ++ left)
    → IsPushed old new done table
    → Arrives old x → Arrives new x → Arrives table x
order_keeps old new done left table x order pushed had has =
    keeps_routes old new done table pushed (beginning_closed old new done left order) x
    (beginning_routed_first old new done left order) had has

pub change_keeps_routes : ChangeKeepsRoutes
change_keeps_routes old new done left r table x was is pushed had has =
    order_keeps r.before r.after done left table x r.order pushed
    (has_route old old.nodes r.before r.were was (le_refl old.nodes) x had)
    (has_route new new.nodes r.after r.are is (le_refl new.nodes) x has)

pub replacing_keeps_routes : ReplacingKeepsRoutes
replacing_keeps_routes old new done left r table x was is pushed had has =
    order_keeps r.before r.after done left table x r.order pushed
    (has_route old r.count r.before r.were was (omega (arith, r.all)) x had)
    (has_route new r.count r.after r.are is (omega (arith, r.all)) x has)

pub pushes_keep_routes : PushesKeepRoutes
pushes_keep_routes s old done left r table x is pushed had has =
    order_keeps old r.hops done left table x r.order.is_order pushed
    had (has_route s s.nodes r.hops r.are is (le_refl s.nodes) x has)

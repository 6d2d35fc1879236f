use Rattle.std.proofs.Common.{IfOk, List, Result, subst, ℕ, ◌≡◌}
use Rattle.std.proofs.lemmas.Result.{IfOk-weaker}
use Rattle.fr_route.specs.NodeWays.{AreAllWays}
use Rattle.fr_route.specs.RouterInside.{state_of}
use Rattle.fr_route.specs.States.{State, state_with}
use Rattle.fr_route.specs.declared.router.Router.TheInside.{Inside}
use Rattle.fr_route.proofs.router.Router.all_ways.Goals as goal

-- the table that is made from distances is the one of the router
of_router : {X : Type 0} (r : Inside) (s : State) → state_of r ≡ s → (d : ℕ) → d ≡ r.dest
    → (made : Result (List (List ℕ)) X)
    → IfOk made (λ table. (counts : List ℕ) → AreAllWays (state_with r.net d counts) table) → IfOk made (AreAllWays s)
of_router r s is d same made ways =
    IfOk-weaker made (λ table. (counts : List ℕ) → AreAllWays (state_with r.net d counts) table) (AreAllWays s)
    (λ table are. subst (λ (now : State). AreAllWays now table) is
    (subst (λ (e : ℕ). AreAllWays (state_with r.net e r.turns) table) same (are r.turns)))
    ways

pub returns-then-self : goal.returns-then-self
returns-then-self c =
    let r = c.self.inside in
    of_router r c.args.self.now c.self.view_is r.forwarding.distances.table.dest
    (c.self.invariant.distances.distances c.if-self.true).dest
    c.table_of_ways.result c.table_of_ways.ensures

pub returns : goal.returns
returns c =
    of_router c.self.inside c.args.self.now c.self.view_is c.in_ok-measured.measured.dest c.in_ok-measured.ensures.dest
    c.table_of_ways-2.result c.table_of_ways-2.ensures

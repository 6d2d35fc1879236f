use Rattle.std.proofs.Common.{[], arith, length, subst, sym, ℕ, ◌++◌, ◌+◌, ◌∷◌, ◌≡◌}
use Rattle.std.proofs.lemmas.List.{length_push}
use Rattle.fr_graph.specs.Links.{IsNet}
use Rattle.fr_route.specs.NodeWays.{AreWaysBelow}
use Rattle.fr_route.specs.States.{State}
use Rattle.fr_route.proofs.WayPushes.{ways_in_range, ways_longer}
use Rattle.fr_route.proofs.router.Router.ways_below.Goals as goal

pub rows-preserved : goal.rows-preserved
rows-preserved c =
    let s : State = c.args.self.now in
    let old = c.rows.table in
    let net = subst (λ (now : State). IsNet now.nodes now.links) c.self.view_is c.network_law.ensures.is_net in
    let long : length (old ++ [] ∷ []) ≡ length old + 1 = length_push old [] in
    rw c.in_ok-push_row.ensures.added (record {
      are = subst (λ (n : ℕ). AreWaysBelow s n (old ++ [] ∷ [])) (sym long)
          (ways_longer s net (length old) old c.rows.invariant.enough c.rows.invariant.are);
      enough = omega (arith, long, c.rows.invariant.enough);
      few = omega (arith, long, c.rows-test.true, c.len.ensures);
    })

pub returns-clause-range : goal.returns-clause-range
returns-clause-range c =
    let s : State = c.args.self.now in
    let net = subst (λ (now : State). IsNet now.nodes now.links) c.self.view_is c.network_law.ensures.is_net in
    ways_in_range s net (length c.rows.table) c.rows.table c.rows.invariant.enough c.rows.invariant.are

pub returns-clause-ways : goal.returns-clause-ways
returns-clause-ways c =
    let all : length c.rows.table ≡ c.args.count =
    omega (arith, c.rows.invariant.few, c.rows-test.false, c.len.ensures) in
    subst (λ (n : ℕ). AreWaysBelow c.args.self.now n c.rows.table) all c.rows.invariant.are

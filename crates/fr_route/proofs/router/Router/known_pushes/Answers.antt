use Rattle.std.proofs.Common.{ap, arith, length, List, subst, ℕ, ◌≡◌}
use Rattle.std.proofs.lemmas.Result.{IfOk-weaker}
use Rattle.fr_route.specs.Reroutes.{ArePushes}
use Rattle.fr_route.specs.RouterInside.{state_of}
use Rattle.fr_route.specs.Routes.{AreHops}
use Rattle.fr_route.specs.States.{State}
use Rattle.fr_tables.specs.Faults.{AreTables}
use Rattle.fr_tables.specs.Pushes.{IsPushOrder}
use Rattle.fr_route.proofs.SettledHops.{settled_in_range, settled_loop_free}
use Rattle.fr_route.proofs.router.Router.known_pushes.Goals as goal
use Rattle.fr_route.proofs.router.Router.known_pushes.Goals.{After-deref}

hops_are : (c : After-deref) → AreHops (state_of c.self.inside) (state_of c.self.inside).nodes c.deref.result.now
hops_are c = rw c.deref.ensures.value c.self.invariant.hops

tables_are : (c : After-deref) → AreTables c.args.table.now c.deref.result.now
tables_are c =
    let inside : (state_of c.self.inside).nodes ≡ c.args.self.now.nodes = ap (λ (s : State). s.nodes) c.self.view_is in
    let same : length c.args.table.now ≡ length c.deref.result.now =
    omega (arith, c.requires.nodes, (hops_are c).one_each, inside) in
    record {
      one_length =
          record { same = same; few = omega (arith, (hops_are c).one_each, c.network_law.ensures.limits.nodes_few) };
      old_range = c.requires.range;
      new_range = settled_in_range (state_of c.self.inside) c.deref.result.now c.self.invariant.round (hops_are c);
    }

pub known_push_order-requires-clause-tables : goal.known_push_order-requires-clause-tables
known_push_order-requires-clause-tables c = tables_are c

pub known_push_order-requires-clause-loop_free : goal.known_push_order-requires-clause-loop_free
known_push_order-requires-clause-loop_free c =
    settled_loop_free (state_of c.self.inside) c.deref.result.now c.self.invariant.round (hops_are c)

pub returns : goal.returns
returns c =
    let s : State = state_of c.self.inside in
    let table : List _ = c.args.table.now in
    let hops : List _ = c.deref.result.now in
    let at = goal.at.returns c in
    let pushes : (order : List ℕ) → IsPushOrder table hops order → ArePushes c.args.self.now table order = λ order is.
    let found : ArePushes s table order = record {
      hops = hops;
      are = hops_are at.After-deref;
      order = record {
        tables = tables_are at.After-deref;
        loop_free = settled_loop_free s hops c.self.invariant.round (hops_are at.After-deref);
        is_order = is;
      };
    } in
    subst (λ (now : State). ArePushes now table order) c.self.view_is found in
    IfOk-weaker c.known_push_order.result (λ order. IsPushOrder table hops order.items)
    (λ order. ArePushes c.args.self.now table order.items)
    (λ order is. pushes order.items is) c.known_push_order.ensures

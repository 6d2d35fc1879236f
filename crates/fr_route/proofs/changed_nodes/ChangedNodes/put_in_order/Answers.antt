use Rattle.std.proofs.Common.{Contains, List, arith, length, subst, sym, vec_len, ℕ, ◌≡◌, ◌↔◌}
use Rattle.std.proofs.lemmas.List.{with_items_is}
use Rattle.fr_tables.specs.Pushes.{DifferAt, IsPushOrder}
use Rattle.fr_route.proofs.PushLengths.{order_length}
use Rattle.fr_route.proofs.changed_nodes.ChangedNodes.put_in_order.Goals as goal

pub returns-in-InList-clause-order : goal.returns-in-InList-clause-order
returns-in-InList-clause-order c = λ old same listing noted.
    let others = rw c.in-InList.is at noted in
    let hops = c.args.hops.now in
    let list = c.in-InList.list in
    let is : IsPushOrder old hops c.order.new.changed = c.order.ensures.order old same
    (subst (λ (nodes : List ℕ). (x : ℕ) → Contains nodes x
    ↔ DifferAt old hops x) (sym c.deref_mut.ensures.value) others.just) in
    let as_many : length c.order.new.changed ≡ vec_len list =
    omega (arith, order_length old hops list.items c.order.new.changed others is, list.ok.0) in
    subst (IsPushOrder old hops) (sym (with_items_is list c.order.new.changed as_many)) is

use Rattle.std.proofs.Common.{arith, rules, ⊎_elim}
use Rattle.fr_tables.specs.Faults.{IsFaultOf}
use Rattle.fr_tables.specs.declared.fault.TableFault.TheVariants.{Range}
use Rattle.revroute_c.specs.PushOrders.{hops_of, nodes_of}
use Rattle.revroute_c.specs.Tables.{is_outside}
use Rattle.revroute_c.proofs.InRange.{front_inside, none_outside, padded_in_range}
use Rattle.revroute_c.proofs.push_orders.order_of.Goals as goal

pub unreachable-requires-in-Err-Range : goal.unreachable-requires-in-Err-Range
unreachable-requires-in-Err-Range c =
    let old = c.args.tables.now.old.now in
    let new = c.args.tables.now.new.now in
    let n = nodes_of old new in
    let none = front_inside (is_outside n) old new c.in_default.ensures.none.in_range in
    let fault : IsFaultOf (hops_of n old) (hops_of n new) (Range c.in-Err-Range.field-0-0) = search rules in
    ⊎_elim
    (λ first. none_outside (hops_of n old) _ (padded_in_range n old (omega arith) none.0) first)
    (λ later. none_outside (hops_of n new) _ (padded_in_range n new (omega arith) none.1) later.1)
    fault.1

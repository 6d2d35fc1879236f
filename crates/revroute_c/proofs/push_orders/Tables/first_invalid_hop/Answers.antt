use Rattle.std.proofs.Common.{refl}
use Rattle.std.proofs.lemmas.List.Folds.{find-append}
use Rattle.revroute_c.specs.PushOrders.{nodes_of}
use Rattle.revroute_c.specs.Tables.{is_outside}
use Rattle.revroute_c.proofs.push_orders.Tables.first_invalid_hop.Goals as goal

pub returns : goal.returns
returns c =
    let old = c.args.self.now.old.now in let new = c.args.self.now.new.now in
    rw (
      find-append (is_outside (nodes_of old new)) old new,
      c.or.ensures,
      c.first_outside.ensures,
      c.first_outside-2.ensures,
      c.nodes-nodes.ensures,
    ) refl

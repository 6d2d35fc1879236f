use Rattle.std.proofs.Common.{ap, sym, ◌∙◌}
use Rattle.std.specs.List.{list_any}
use Rattle.fr_graph.specs.Links.{IsNet}
use Rattle.revdot.proofs.Linked.{no_link, row_any}
use Rattle.revdot.specs.Changes.{leads_to}
use Rattle.revdot.proofs.changes.has_link.Goals as goal

pub returns-then-u-nodes : goal.returns-then-u-nodes
returns-then-u-nodes c =
    let n = c.args.net.now.nodes in
    let net : IsNet n c.args.net.now.links = c.nodes.ensures.faultless.is_net in
    sym (no_link n c.args.net.now.links c.args.u c.args.v net (rw c.nodes.ensures.value at c.if-u-nodes.true))

pub returns : goal.returns
returns c =
    let n = c.args.net.now.nodes in
    let net : IsNet n c.args.net.now.links = c.nodes.ensures.faultless.is_net in
    c.has_link_to.ensures
    ∙ (ap (list_any (leads_to c.args.v)) c.row.ensures ∙ row_any n c.args.net.now.links c.args.u c.args.v net)

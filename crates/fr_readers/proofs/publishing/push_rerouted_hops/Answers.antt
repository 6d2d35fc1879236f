use Rattle.std.proofs.Common.{rules, ap, subst, sym, [], Contains, IsTrue, ◌≡◌, ◌∙◌, ◌++◌, ℕ, List}
use Rattle.fr_graph.specs.Limits.{most_nodes}
use Rattle.fr_shared.specs.HopTables.{HopKnowledge, IsTable, last_hops, padded, pushes_of}
use Rattle.fr_tables.specs.Pushes.{IsPushOrder}
use Rattle.fr_readers.specs.Publishing.{Publishes}
use Rattle.fr_readers.proofs.Leading.{all_table}
use Rattle.fr_readers.proofs.Bringing.{has_already, leads_here, none_to_push, nothing_first, one_is_there, pushed}
use Rattle.fr_readers.proofs.publishing.push_rerouted_hops.Goals as goal

pub returns-in_default : goal.returns-in_default
returns-in_default c =
    let k = c.args.publisher.now in
    let s = c.args.session.now in
    let nodes : List ℕ = c.args.rerouted.now in
    let none : nodes ≡ [] = nothing_first nodes c.in_default.ensures.value in
    has_already k s nodes c.requires.can.largest (none_to_push k s nodes c.history_law.ensures c.requires.can none)

pub returns-then-has_hop : goal.returns-then-has_hop
returns-then-has_hop c =
    let k = c.args.publisher.now in
    let s = c.args.session.now in
    let nodes : List ℕ = c.args.rerouted.now in
    let hops = c.hops_in-hops.result.now in
    let x : ℕ = c.in-Some.first.now in
    let found : Contains nodes x = search rules in
    subst (Publishes k s nodes) (sym c.has_hop.ensures.kept)
    (has_already k s nodes c.requires.can.largest
    (one_is_there k s nodes c.requires.settled hops c.hops_in-hops.ensures c.requires.can x found
    (c.has_hop.ensures.same.0 c.if-has_hop.true)))

pub push_all-requires-clause-new : goal.push_all-requires-clause-new
push_all-requires-clause-new c =
    let hops = c.hops_in-hops.result.now in
    subst (λ (q : HopKnowledge). IsTable q.nodes (padded q.nodes hops)) (sym c.has_hop.ensures.kept)
    (subst (λ (n : ℕ). IsTable n (padded n hops)) (sym c.requires.can.largest)
    (all_table c.args.session.now c.requires.settled hops c.hops_in-hops.ensures))

pub push_all-requires-clause-order : goal.push_all-requires-clause-order
push_all-requires-clause-order c =
    let k = c.args.publisher.now in
    let nodes : List ℕ = c.args.rerouted.now in
    let hops = c.hops_in-hops.result.now in
    let x : ℕ = c.in-Some.first.now in
    let not_true : ¬ IsTrue c.has_hop.result = search rules in
    subst (λ (q : HopKnowledge). IsPushOrder (last_hops q) (padded q.nodes hops) nodes) (sym c.has_hop.ensures.kept)
    (subst (λ (n : ℕ). IsPushOrder (last_hops k) (padded n hops) nodes) (sym c.requires.can.largest)
    (leads_here k c.args.session.now nodes c.requires.settled hops c.hops_in-hops.ensures c.requires.can x
    (λ has. not_true (c.has_hop.ensures.same.1 has))))

pub returns : goal.returns
returns c =
    let k = c.args.publisher.now in
    let s = c.args.session.now in
    let nodes : List ℕ = c.args.rerouted.now in
    let hops = c.hops_in-hops.result.now in
    let kept : c.has_hop.new.publisher ≡ k = c.has_hop.ensures.kept in
    let n : c.has_hop.new.publisher.nodes ≡ most_nodes =
    ap (λ (q : HopKnowledge). q.nodes) kept ∙ c.requires.can.largest in
    let not_true : ¬ IsTrue c.has_hop.result = search rules in
    let order = leads_here k s nodes c.requires.settled hops c.hops_in-hops.ensures c.requires.can c.in-Some.first.now
    (λ has. not_true (c.has_hop.ensures.same.1 has)) in
    pushed k s nodes c.requires.settled hops c.hops_in-hops.ensures c.requires.can.largest order c.push_all.new.self
    (c.push_all.ensures.history
    ∙ (ap (λ (q : HopKnowledge). record q { known = q.known ++ pushes_of (padded q.nodes hops) nodes }) kept
    ∙ ap (λ (m : ℕ). record k { known = k.known ++ pushes_of (padded m hops) nodes }) c.requires.can.largest))
    (c.push_all.ensures.table ∙ ap (λ (m : ℕ). padded m hops) n)

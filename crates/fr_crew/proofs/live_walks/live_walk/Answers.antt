use Rattle.std.proofs.lemmas.Bool.Decides.{nat_tests}
use Rattle.std.proofs.Common.{List, arith, refl, subst, ℕ, ◌≡◌}
use Rattle.fr_graph.specs.Links.{IsAlone}
use Rattle.fr_graph.proofs.Neighbours.{row_alone}
use Rattle.fr_crew.specs.LiveWalks.{IsLiveFault}
use Rattle.fr_crew.proofs.Walking.{if_memory, lookable_in}
use Rattle.fr_crew.proofs.live_walks.live_walk.Goals as goal

pub returns-then-degree-eq0-clause-refused : goal.returns-then-degree-eq0-clause-refused
returns-then-degree-eq0-clause-refused c =
    let net = c.net-net.result.now in
    let none : c.degree.result ≡ 0 = grind (arith, nat_tests) in
    let alone =
    row_alone net.nodes net.links c.args.x c.nodes.ensures.faultless.is_net (omega (arith, none, c.degree.ensures)) in (
      (
        omega (arith, c.if-x-nodes.false, c.nodes.ensures.value, c.net-net.ensures.nodes),
        subst (λ (ls : List (ℕ × ℕ)). IsAlone ls c.args.x) c.net-net.ensures.links alone,
      ),
      refl,
    )

pub returns-in_err-nodes-clause-refused : goal.returns-in_err-nodes-clause-refused
returns-in_err-nodes-clause-refused c =
    let net = c.net-net.result.now in
    let round = c.args.round.now in
    let some : c.degree.result ≡ 0 → ⊥ = grind (arith, nat_tests) in
    let lookable = lookable_in round.setup net.nodes net.links c.args.x c.degree.result c.net-net.ensures.nodes
    c.net-net.ensures.links (omega (arith, c.if-x-nodes.false, c.nodes.ensures.value)) c.degree.ensures some in
    if_memory (λ fault. IsLiveFault round.setup c.args.x fault × (c.args.worker.now ≡ c.args.worker.now))
    c.from_residual.result c.from_residual.ensures.1 (lookable, refl)

pub continue_walk-end-requires-clause-node : goal.continue_walk-end-requires-clause-node
continue_walk-end-requires-clause-node c =
    let net = c.net-net.result.now in
    let some : c.degree.result ≡ 0 → ⊥ = grind (arith, nat_tests) in
    lookable_in c.args.round.now.setup net.nodes net.links c.args.x c.degree.result c.net-net.ensures.nodes
    c.net-net.ensures.links (omega (arith, c.if-x-nodes.false, c.nodes.ensures.value)) c.degree.ensures some

pub returns-clause-begun : goal.returns-clause-begun
returns-clause-begun c =
    let net = c.net-net.result.now in
    let some : c.degree.result ≡ 0 → ⊥ = grind (arith, nat_tests) in
    lookable_in c.args.round.now.setup net.nodes net.links c.args.x c.degree.result c.net-net.ensures.nodes
    c.net-net.ensures.links (omega (arith, c.if-x-nodes.false, c.nodes.ensures.value)) c.degree.ensures some

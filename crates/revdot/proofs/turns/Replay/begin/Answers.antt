use Rattle.std.proofs.Common.{ap, map, replicate, ℕ, ◌∙◌, ◌≡◌}
use Rattle.std.proofs.lemmas.List.{length-replicate}
use Rattle.fr_graph.specs.Links.{AreBelow}
use Rattle.revdot.specs.Strips.{first_link}
use Rattle.revdot.proofs.Turning.{first_below}
use Rattle.revdot.proofs.turns.Replay.begin.Goals as goal

pub returns-clause-replay : goal.returns-clause-replay
returns-clause-replay c =
    let s = c.args.router.now in
    let nodes : c.nodes.result ≡ s.nodes = c.nodes.ensures.value ∙ c.net-net.ensures.nodes in
    let zeros : c.in_ok-counts.counts.items ≡ replicate s.nodes 0 =
    c.in_ok-counts.ensures.items_if_clones_equal (λ y e. e)
    ∙ ap (λ (k : ℕ). replicate {A = ℕ} k 0) nodes in
    let settled : c.in_ok-settled.settled.items ≡ s.links = c.in_ok-settled.ensures ∙ c.net-net.ensures.links in
    let links : c.deref.result.now ≡ s.links = c.deref.ensures.value ∙ settled in
    let first : c.in_ok-links.links.items ≡ map (first_link s.counts) s.links =
    rw (links, c.counts.ensures.value) at c.in_ok-links.ensures in
    let below : AreBelow s.nodes s.links =
    rw (c.net-net.ensures.nodes, c.net-net.ensures.links) at c.network_law.ensures.is_net.in_range in
    record {
      settled = settled;
      below = rw first (first_below s below);
      one_each = rw zeros (length-replicate s.nodes 0);
    }

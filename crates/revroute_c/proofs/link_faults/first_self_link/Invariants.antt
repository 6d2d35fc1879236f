use Rattle.std.proofs.Common.{drop, eqb, find, map, take, ℕ, ◌≡◌}
use Rattle.fr_graph.specs.Links.{HasNoSelfLink}
use Rattle.revroute_c.specs.Records.{link_of}
use Rattle.revroute_c.proofs.link_faults.first_self_link.Given as goal

abbrev pub invariant-loop-link : goal.invariant-loop-link
invariant-loop-link l = record {
  clear : HasNoSelfLink (map link_of (take l.link-index l.links));
  rest : find (λ (x : ℕ × ℕ). eqb x.0 x.1) (map link_of l.links)
      ≡ find (λ (x : ℕ × ℕ). eqb x.0 x.1) (map link_of (drop l.link-index l.links));
}

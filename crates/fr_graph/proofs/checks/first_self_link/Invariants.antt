use Rattle.std.proofs.Common.{drop, eqb, find, take, ℕ, ◌≡◌}
use Rattle.fr_graph.specs.Links.{HasNoSelfLink}
use Rattle.fr_graph.proofs.checks.first_self_link.Given as goal

abbrev pub invariant-loop-tail : goal.invariant-loop-tail
invariant-loop-tail l = record {
  clear : HasNoSelfLink (take l.tail-index l.links);
  rest : find (λ (x : ℕ × ℕ). eqb x.0 x.1) l.links ≡ find (λ (x : ℕ × ℕ). eqb x.0 x.1) (drop l.tail-index l.links);
}

use Rattle.std.proofs.Common.{arith, eqb-true, sym, ℕ, ◌==◌}
use Rattle.std.proofs.lemmas.List.Sums.{get_or-le-sum_by}
use Rattle.fr_graph.proofs.Counting.{none_pass}
use Rattle.fr_route.proofs.outcome.count_capped_nodes.Goals as goal

pub returns-then-turned-cap : goal.returns-then-turned-cap
returns-then-turned-cap c =
    let counts = c.args.counts.now in
    sym (none_pass (λ (count : ℕ). count == c.args.nodes) counts
    (λ j d l is. omega (
      arith,
      get_or-le-sum_by (λ (count : ℕ). count) counts j d l,
      eqb-true _ _ is,
      c.requires.turned,
    )))

use Rattle.std.proofs.Common.{arith, length, ◌≡◌}
use Rattle.fr_graph.specs.Rows.{row}
use Rattle.fr_route.proofs.CutNodes.{alone_elsewhere, alone_there}
use Rattle.fr_route.proofs.outcome.count_isolated_nodes.Goals as goal

pub overflow_sub-result : goal.overflow_sub-result
overflow_sub-result c =
    let net = c.args.net.now in
    let none : length (row net.nodes net.links c.args.dest) ≡ 0 =
    omega (arith, c.degree.ensures, c.if-degree-eq0.true) in
    omega (
      arith,
      alone_there net.nodes net.links c.args.dest c.requires none,
      c.from-alone.ensures,
      c.isolated_count.ensures,
    )

pub returns-then-degree-eq0 : goal.returns-then-degree-eq0
returns-then-degree-eq0 c =
    let net = c.args.net.now in
    let none : length (row net.nodes net.links c.args.dest) ≡ 0 =
    omega (arith, c.degree.ensures, c.if-degree-eq0.true) in
    omega (
      arith,
      alone_there net.nodes net.links c.args.dest c.requires none,
      c.from-alone.ensures,
      c.isolated_count.ensures,
    )

pub returns-else-degree-eq0 : goal.returns-else-degree-eq0
returns-else-degree-eq0 c =
    let net = c.args.net.now in
    let some : ¬ (length (row net.nodes net.links c.args.dest) ≡ 0) =
    λ e. c.if-degree-eq0.false (omega (arith, c.degree.ensures, e)) in
    omega (
      arith,
      alone_elsewhere net.nodes net.links c.args.dest c.requires some,
      c.from-alone.ensures,
      c.isolated_count.ensures,
    )

use Rattle.std.proofs.Common.{arith, ◌≡◌}
use Rattle.std.proofs.lemmas.Bool.Decides.{nat_tests}
use Rattle.fr_graph.proofs.Neighbours.{row_alone, row_linked}
use Rattle.fr_round.proofs.round_setup.RoundSetup.check_look.Goals as goal

pub returns-then-degree-eq0-clause-refused : goal.returns-then-degree-eq0-clause-refused
returns-then-degree-eq0-clause-refused c =
    let net = c.args.self.now.net in
    let none : c.degree.result ≡ 0 = grind (arith, nat_tests) in (
      omega (arith, c.if-x-nodes.false, c.nodes.ensures.value),
      row_alone net.nodes net.links c.args.x c.nodes.ensures.faultless.is_net (omega (arith, none, c.degree.ensures)),
    )

pub returns-clause-lookable : goal.returns-clause-lookable
returns-clause-lookable c =
    let net = c.args.self.now.net in
    let some : c.degree.result ≡ 0 → ⊥ = grind (arith, nat_tests) in
    record {
      inside = omega (arith, c.if-x-nodes.false, c.nodes.ensures.value);
      linked = row_linked net.nodes net.links c.args.x (omega (arith, some, c.degree.ensures));
    }

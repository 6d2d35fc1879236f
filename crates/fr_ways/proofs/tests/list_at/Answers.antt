use Rattle.std.proofs.Common.{List, ap, arith, length, ℕ}
use Rattle.std.proofs.lemmas.List.{length-map}
use Rattle.fr_ways.proofs.tests.list_at.Goals as goal

pub row-requires : goal.row-requires
row-requires c =
    let (listed, are) = c.requires in (
      listed,
      are,
      omega (
        arith,
        c.if-i-pushes.true,
        ap length are.nodes,
        length-map listed (λ (p : ℕ × List ℕ). p.0),
      ),
    )

-- Counts as they begin: nobody has turned, and each sink but the destination can. And as they end.
use Rattle.std.proofs.Common.{List, arith, replicate, subst, sym, ℕ, ◌<◌, ◌∙◌}
use Rattle.std.proofs.lemmas.List.{ext_get_or, get_or-replicate}
use Rattle.fr_core.proofs.Finishing.{links_at-zeros}
use Rattle.fr_core.proofs.Totals.{settled_within}
use Rattle.fr_core.proofs.Unique.{lawful_le_settled}
use Rattle.fr_core.specs.Finish.{HoldsAllThatCanTurn}
use Rattle.fr_core.specs.Settled.{AreSettled}
use Rattle.fr_crew.specs.Settlements.{HoldsSinks, IsCounted}
use Rattle.fr_graph.specs.Counts.{AreLawful}
use Rattle.fr_graph.specs.Links.{IsNet}
use Rattle.fr_graph.specs.Network.{Network}
use Rattle.fr_graph.specs.Turn.{IsSink}

pub zeros_hold : (net : Network) (d : ℕ) (from : List ℕ) → HoldsSinks net d from
    → HoldsAllThatCanTurn net.nodes d net.links (replicate net.nodes 0) from
zeros_hold net d from holds = record {
  nodes = holds.nodes;
  all =
      λ x can. holds.sinks x (subst (λ (links : List (ℕ
      × ℕ)). IsSink links x) (links_at-zeros net.nodes net.links) can.sink) can.not_destination;
}

-- where nobody can turn, there are no other lawful counts
pub still_settled : (n d : ℕ) (first : List (ℕ × ℕ)) (counts : List ℕ) → AreSettled n d first (replicate n 0)
    → AreLawful n d first counts → AreSettled n d first counts
still_settled n d first counts settled lawful =
    subst (AreSettled n d first)
    (ext_get_or 0 (replicate n 0) counts (settled.one_each ∙ sym lawful.one_each)
    (λ x l.
    let below : x < n = omega (arith, settled.one_each) in
    omega (
      arith,
      get_or-replicate {A = ℕ} n x 0 0 below,
      lawful_le_settled n d first counts (replicate n 0) lawful settled x below,
    )))
    settled

-- settled counts, within the bound of their first links
pub counted : (n d : ℕ) (first : List (ℕ × ℕ)) → IsNet n first → d < n → (counts : List ℕ)
    → AreSettled n d first counts → IsCounted n d first counts
counted n d first net below counts settled = record {
  destination = below;
  settled = settled;
  most = settled_within n d first net below counts settled;
}

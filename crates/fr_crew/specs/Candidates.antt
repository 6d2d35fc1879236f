-- What workers try to turn. For proofs only.
use Rattle.std.specs.Prelude.{◌≡◌, ℕ, ◌<◌}
use Rattle.fr_graph.specs.Links.{IsAlone}
use Rattle.fr_round.specs.declared.view.Setup.{Setup}

-- a worker may try to turn x in a round with this setup: it is a node with a link, and not the destination
abbrev pub IsCandidate : Setup → ℕ → Type 0
IsCandidate setup x = (x < setup.nodes) × ¬ (x ≡ setup.dest) × ¬ IsAlone setup.links x

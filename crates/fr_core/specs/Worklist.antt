-- The worklist of nodes that may turn. For proofs only.
use Rattle.std.specs.Prelude.{◌≡◌, ℕ, ◌+◌, ◌<◌, ◌≤◌, List, length, slice_index}
use Rattle.fr_graph.specs.Counts.{AreLawful}
use Rattle.fr_graph.specs.Network.{Network}
use Rattle.fr_core.specs.History.{moment_of}
use Rattle.fr_core.specs.Legal.{CanTurn}

-- all its elements are nodes
abbrev pub AreNodes : ℕ → List ℕ → Type 0
AreNodes n work = (i : ℕ) → i < length work → slice_index work i < n

-- each node that can turn at these counts is in it, at the place `at` or after it
abbrev pub HoldsAll : Network → ℕ → List ℕ → List ℕ → ℕ → Type 0
HoldsAll net d counts work at =
    (x : ℕ) → CanTurn net.nodes d (moment_of net.links counts) x
    → (i : ℕ) × (at ≤ i) × (i < length work) × (slice_index work i ≡ x)

-- a worklist for these counts that has been read up to the place `at`
pub record IsWorklist (net : Network) (d : ℕ) (counts work : List ℕ) (at : ℕ) : Type 0 where
  pub nodes : AreNodes net.nodes work
  pub all : HoldsAll net d counts work at

-- if a worklist w for the counts b is read up to a place with x, then v is a worklist for the counts c that is read
-- past this place
abbrev pub Carries : Network → ℕ → ℕ → List ℕ → List ℕ → List ℕ → List ℕ → Type 0
Carries net d x b w c v = (at : ℕ) → at < length w → slice_index w at ≡ x → IsWorklist net d b w at
    → IsWorklist net d c v (at + 1)

-- the counts after are lawful, and no node has turned less often
pub record AreLater (net : Network) (d : ℕ) (before after : List ℕ) : Type 0 where
  pub lawful : AreLawful net.nodes d net.links after
  pub forth : (x : ℕ) → slice_index before x ≤ slice_index after x

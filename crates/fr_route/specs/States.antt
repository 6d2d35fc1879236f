-- The state of a session: the network after the last round, settled. This project's own; the part that contains the
-- destination is then destination-oriented in the sense of Gafni and Bertsekas (1981).
use Rattle.std.specs.Prelude.{◌≡◌, ℕ, ◌<◌, ◌↔◌, List, Bool, IsTrue, count_by, sum}
use Rattle.std.specs.List.{range_with_len}
use Rattle.fr_graph.specs.Links.{IsNet}
use Rattle.fr_graph.specs.Network.{Network}
use Rattle.fr_graph.specs.Order.{in_order}
use Rattle.fr_graph.specs.Counts.{links_at}
use Rattle.fr_core.specs.Walks.{IsConnected}
use Rattle.fr_core.specs.Settled.{AreSettled}
use Rattle.fr_core.specs.Work.{IsWithinWork}

-- the number of nodes, the destination, the links in their current directions and in order, and the counts of the last
-- round
pub record State : Type 0 where
  pub nodes : ℕ
  pub dest : ℕ
  pub links : List (ℕ × ℕ)
  pub counts : List ℕ

-- the state with this network, destination and counts
abbrev pub state_with : Network → ℕ → List ℕ → State
state_with net d counts = record { nodes = net.nodes; dest = d; links = net.links; counts = counts }

-- the network of a state
abbrev pub net_at : State → Network
net_at s = record { nodes = s.nodes; links = s.links }

-- the state after a round on these first links: their settled counts, and the links that these counts give
pub record IsRound (n d : ℕ) (first : List (ℕ × ℕ)) (s : State) : Type 0 where
  pub nodes : s.nodes ≡ n
  pub dest : s.dest ≡ d
  pub counts : AreSettled n d first s.counts
  pub links : s.links ≡ in_order (links_at first s.counts)

-- the state is the result of a round on some network
pub record IsAfterRound (s : State) : Type 0 where
  pub first : List (ℕ × ℕ)
  pub is_net : IsNet s.nodes first
  pub dest : s.dest < s.nodes
  pub round : IsRound s.nodes s.dest first s

-- x is cut off: it is not the destination, and not connected to it
abbrev pub IsCutOff : ℕ → List (ℕ × ℕ) → ℕ → Type 0
IsCutOff d links x = ¬ (x ≡ d) × ¬ IsConnected links d x

-- k of the nodes below n are cut off
pub record IsCutCount (n d : ℕ) (links : List (ℕ × ℕ)) (k : ℕ) : Type 0 where
  pub is_cut_off : ℕ → Bool
  pub just : (x : ℕ) → x < n → IsTrue (is_cut_off x) ↔ IsCutOff d links x
  pub number : k ≡ count_by is_cut_off (range_with_len 0 n)

-- the report of a round: how many turns it took, and how many nodes are cut off
pub record IsReport (s : State) (turned cut : ℕ) : Type 0 where
  pub turns : turned ≡ sum s.counts
  pub cut_off : IsCutCount s.nodes s.dest s.links cut
  -- the turns are no more than the bound for the first links of the round
  pub most : (first : List (ℕ × ℕ)) → IsNet s.nodes first → s.dest < s.nodes → IsRound s.nodes s.dest first s
      → IsWithinWork s.nodes s.dest first turned

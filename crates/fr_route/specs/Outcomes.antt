-- The outcome of a round on a network, and the nodes at which edits change links. For proofs only.
use Rattle.std.specs.Prelude.{◌≡◌, ℕ, ◌<◌, ◌≤◌, ◌⊎◌, ◌↔◌, not, ◌==◌, ◌&&◌, List, ◌∷◌, ◌++◌}
use Rattle.std.specs.Prelude.{count_by, length, nat_eq, slice_get, slice_index, Some, ◌≢◌}
use Rattle.std.specs.List.{All, Contains, IsDistinct, filter, range_with_len}
use Rattle.fr_graph.specs.Batches.{AreMade}
use Rattle.fr_graph.specs.Counts.{links_at}
use Rattle.fr_graph.specs.Limits.{most_edits}
use Rattle.fr_graph.specs.Network.{Network, net_of}
use Rattle.fr_graph.specs.Links.{Joins}
use Rattle.fr_graph.specs.Rows.{has_no_neighbour}
use Rattle.fr_graph.specs.declared.edit.Edit.{Edit}
use Rattle.fr_crew.specs.Settlements.{IsCounted}
use Rattle.fr_route.specs.Routes.{AreHops, IsHop}
use Rattle.fr_route.specs.Ends.{ends_of}
use Rattle.fr_route.specs.Changes.{IsOpenFault, IsStill}
use Rattle.fr_route.specs.Listing.{HasPlaces, KeepsPlaces, nodes_told}
use Rattle.fr_route.specs.States.{State, IsReport, IsRound, net_at, state_with}
use Rattle.fr_route.specs.declared.fault.RouteFault.{RouteFault}
use Rattle.fr_route.specs.declared.fault.RouteFault.TheVariants.{Start}
use Rattle.fr_tables.specs.Pushes.{DifferAt}
use Rattle.fr_tables.specs.Tables.{IsInRange, IsLoopFree}
use Rattle.fr_tables.specs.declared.hop.Hop.{Hop}
use Rattle.fr_tables.specs.declared.hop.Hop.TheVariants.{To}
use Rattle.fr_route.specs.declared.hops.AfterRound.{AfterRound}
use Rattle.fr_route.specs.declared.turn_candidates.TurnCandidates.{TurnCandidates}
use Rattle.fr_route.specs.declared.turn_candidates.TurnCandidates.TheVariants.{Few, Many}
use Rattle.fr_route.specs.declared.outcome.Outcome.{Outcome}
use Rattle.fr_route.specs.declared.changed_nodes.ChangedNodes.{ChangedNodes}

-- the state after a round with these counts on the network
abbrev pub settled_state : Network → ℕ → List ℕ → State
settled_state net d counts = state_with (net_of net.nodes (links_at net.links counts)) d counts

-- the destination, the settled counts of a network, and the report of the round on it
pub record IsOutcome (net : Network) (d : ℕ) (outcome : Outcome) : Type 0 where
  pub dest : outcome.dest ≡ d
  pub counts : IsCounted net.nodes d net.links outcome.turns
  pub report : IsReport (settled_state net d outcome.turns) outcome.report.turned outcome.report.cut

-- why there is no round on a network: the destination is not a node, or a thread or memory is missing. No thread is
-- needed if no node can turn, or if the way to settle never starts one
pub record IsRoundFault (never : Type 0) (net : Network) (d : ℕ) (fault : RouteFault) : Type 0 where
  pub why : IsOpenFault net.nodes d fault
  pub still : IsStill net d → fault ≢ Start
  pub no_start : never → fault ≢ Start

-- the state after a round
abbrev pub state_after : AfterRound → State
state_after round = state_with round.net.now round.dest round.turns.now

-- how many of n nodes, other than d, have no neighbour
abbrev pub lone_count : ℕ → List (ℕ × ℕ) → ℕ → ℕ
lone_count n links d = count_by (λ x. not (x == d) && has_no_neighbour n links x) (range_with_len 0 n)

-- the nodes that edits and a new destination touch: the old and the new destination, and the ends of the edited links
abbrev pub touched : State → ℕ → List Edit → List ℕ
touched s d edits = s.dest ∷ (d ∷ ends_of edits)

-- the nodes with links that the last round cut off: each has turned as often as there are nodes
abbrev pub cut_off_nodes : State → List ℕ
cut_off_nodes s = filter (λ x. slice_index s.counts x == s.nodes) (range_with_len 0 s.nodes)

-- the nodes that can be sinks after the edits and the move of the destination, and whose hops can be wrong even if no
-- node turns
abbrev pub movable : State → ℕ → List Edit → List ℕ
movable s d edits = touched s d edits ++ cut_off_nodes s

-- the nodes in such a list
abbrev pub nodes_listed : TurnCandidates → List ℕ
nodes_listed (Few nodes) = nodes
nodes_listed (Many nodes) = nodes.items

-- y is x itself, or a neighbour that sends on to x
abbrev pub SendsTo : List (ℕ × ℕ) → ℕ → ℕ → Hop → Type 0
SendsTo links x y hop = (y ≡ x) ⊎ (Joins links y x × (hop ≡ To x))

-- the hop may be wrong after a round, because its node has turned, or the node to which it sends on
abbrev pub IsStale : State → ℕ → Hop → Type 0
IsStale s y hop = (x : ℕ) × ((0 < slice_index s.counts x) × SendsTo s.links x y hop)

-- all moved nodes are nodes of the state, and every other hop is right unless it is stale
pub record HoldsMoved (s : State) (hops : List Hop) (moved : List ℕ) : Type 0 where
  pub below : All (λ x. x < s.nodes) moved
  pub others : (x : ℕ) (hop : Hop) → slice_get hops x ≡ Some hop → ¬ Contains moved x → ¬ IsStale s x hop
      → IsHop s x hop

-- each hop is right now, or it is unchanged and satisfies `left`
pub record AreRenewed (s : State) (old new : List Hop) (left : ℕ → Hop → Type 0) : Type 0 where
  pub each : (x : ℕ) (hop : Hop) → slice_get new x ≡ Some hop
      → IsHop s x hop ⊎ ((slice_get old x ≡ Some hop) × left x hop)

-- these are exactly the nodes whose hop differs from that in `before`, each once, and their hops are right
pub record AreNoted (s : State) (before hops : List Hop) (nodes : List ℕ) : Type 0 where
  pub once : IsDistinct nat_eq nodes
  pub these : (x : ℕ) → Contains nodes x
      → (hop : Hop) × ((slice_get hops x ≡ Some hop) × IsHop s x hop × ¬ (slice_get before x ≡ Some hop))
  pub others : (x : ℕ) → ¬ Contains nodes x → slice_get hops x ≡ slice_get before x

-- while hops are updated, the list continues to note where they differ from any table `before`, if it has room for each
-- node
pub record NotesMore (s : State) (old : List Hop) (told : ChangedNodes) (new : List Hop) (more : ChangedNodes) : Type 0 where
  pub keeps : KeepsPlaces told more
  pub noted : HasPlaces (length old) told → (before : List Hop) → AreNoted s before old (nodes_told told)
      → AreNoted s before new (nodes_told more)

-- these are exactly the nodes at which the hops differ, each once
pub record AreOthers (old new : List Hop) (nodes : List ℕ) : Type 0 where
  pub once : IsDistinct nat_eq nodes
  pub below : All (λ x. x < length new) nodes
  pub just : (x : ℕ) → Contains nodes x ↔ DifferAt old new x

-- the list has exactly the nodes at which the hops differ, if it has room for each node
pub record ListsOthers (old new : List Hop) (told more : ChangedNodes) : Type 0 where
  pub keeps : KeepsPlaces told more
  pub others : HasPlaces (length old) told → AreOthers old new (nodes_told more)

-- the hops of the numbers below n after a round, as a table
pub record IsSettledTable (s : State) (n : ℕ) (hops : List Hop) : Type 0 where
  pub are : AreHops s n hops
  pub in_range : IsInRange hops
  pub loop_free : IsLoopFree hops

-- the edits are made, and `new` is the state after the round on the resulting network, with destination d
abbrev pub IsEdited : State → List Edit → ℕ → State → Type 0
IsEdited s edits d new =
    (length edits ≤ most_edits) × ((net : Network) × (AreMade (net_at s) edits net × IsRound net.nodes d net.links new))

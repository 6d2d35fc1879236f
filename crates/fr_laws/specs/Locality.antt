-- Which nodes a change touches (full reversal: E. Gafni and D. Bertsekas, "Distributed Algorithms for Generating
-- Loop-Free Routes in Networks with Frequently Changing Topology", 1981). The laws say exactly which nodes turn in the
-- round after a change, where the links point then, and which nodes an added or a cut link does not touch. They hold
-- for every state after a round, every change and every node. They say nothing about hops after a batch or a moved
-- destination. The laws are this project's own.
use Rattle.std.specs.Prelude.{◌≡◌, ◌≢◌, ℕ, ◌<◌, ◌≤◌, ◌⊎◌, ◌↔◌, List, [], ◌∷◌, ◌++◌, IsTrue, length, slice_index}
use Rattle.fr_graph.specs.Batches.{AreMade}
use Rattle.fr_graph.specs.Edits.{IsJoined as IsNetJoined, without}
use Rattle.fr_graph.specs.Faults.{IsFaultless}
use Rattle.fr_graph.specs.Limits.{most_edits}
use Rattle.fr_graph.specs.Links.{HasPath, IsAlone, IsPath, Joins, Points, end_of, is_between}
use Rattle.fr_graph.specs.Network.{Network}
use Rattle.fr_core.specs.Walks.{IsConnected}
use Rattle.fr_route.specs.Changes.{IsChanged}
use Rattle.fr_route.specs.Routes.{IsHop, IsNextHop}
use Rattle.fr_route.specs.States.{State, IsAfterRound, IsRound, net_at}
use Rattle.fr_route.specs.declared.change.Change.{Change}
use Rattle.fr_route.specs.declared.change.Change.TheVariants.{Cut, Add, Join, Batch, Destination}
use Rattle.fr_tables.specs.declared.hop.Hop.{Hop}
use Rattle.fr_tables.specs.declared.hop.Hop.TheVariants.{CutOff, To}

-- The round after a change

-- the change is accepted, and the round after it begins with these links and this destination
abbrev pub BeginsWith : State → Change → List (ℕ × ℕ) → ℕ → Type 0
BeginsWith s (Cut u v) first d = Joins s.links u v × (first ≡ without u v s.links) × (d ≡ s.dest)
BeginsWith s (Add u v) first d =
    IsFaultless s.nodes (s.links ++ (u, v) ∷ []) × (first ≡ s.links ++ (u, v) ∷ []) × (d ≡ s.dest)
BeginsWith s (Join u v) first d =
    ((net : Network) × IsNetJoined s.nodes s.links u v net × (first ≡ net.links)) × (d ≡ s.dest)
BeginsWith s (Batch edits) first d =
    (length edits.items ≤ most_edits)
    × ((net : Network) × AreMade (net_at s) edits.items net × (first ≡ net.links)) × (d ≡ s.dest)
BeginsWith s (Destination to) first d = (to < s.nodes) × (first ≡ s.links) × (d ≡ to)

-- the network of a state after a round changes. The round after the change begins with the links `first` and the
-- destination d, and ends in the state `new`
pub record IsSettledAnew (s : State) (change : Change) (first : List (ℕ × ℕ)) (d : ℕ) (new : State) : Type 0 where
  pub settled : IsAfterRound s
  pub begins : BeginsWith s change first d
  pub round : IsRound s.nodes d first new

-- x has turned in the round that ended in this state
abbrev pub HasTurned : State → ℕ → Type 0
HasTurned new x = 0 < slice_index new.counts x

-- The changes of a state after a round are exactly these rounds.
abbrev pub ChangeIsARound : Type 0
ChangeIsARound = (s : State) (change : Change) (new : State) → IsAfterRound s
    → IsChanged s change new ↔ ((first : List (ℕ × ℕ)) × (d : ℕ) × IsSettledAnew s change first d new)

-- Who turns

-- Exactly the nodes turn that have a link, and no path to the destination along the changed links.
abbrev pub WhoTurns : Type 0
WhoTurns = (s : State) (change : Change) (first : List (ℕ × ℕ)) (d : ℕ) (new : State) (x : ℕ)
    → IsSettledAnew s change first d new → HasTurned new x ↔ (¬ IsAlone first x × ¬ HasPath first x d)

-- the links between x and y after the round
pub record AreLinksBetween (first : List (ℕ × ℕ)) (new : State) (x y : ℕ) : Type 0 where
  -- if neither has turned, a link points from x to y exactly if it did before the round
  pub still : ¬ HasTurned new x → ¬ HasTurned new y → Points first x y ↔ Points new.links x y
  -- if only x has turned, a link points from x to y exactly if one joined them before the round
  pub border : HasTurned new x → ¬ HasTurned new y → Joins first x y ↔ Points new.links x y

-- Links between nodes that did not turn keep their direction. A link between a node that turned and one that did not
-- points to the latter.
abbrev pub LinksStand : Type 0
LinksStand = (s : State) (change : Change) (first : List (ℕ × ℕ)) (d : ℕ) (new : State) (x y : ℕ)
    → IsSettledAnew s change first d new → AreLinksBetween first new x y

-- Which nodes an added link does not touch

-- x sends on to the same node as before
abbrev pub KeepsHop : State → State → ℕ → Type 0
KeepsHop s new x = (hop : Hop) → IsHop s x hop → IsHop new x hop

-- x is the tail of the added link and takes it: the head was connected to the destination, and its number is less than
-- that of the node to which x sent on
pub record TakesLink (s : State) (tail head x : ℕ) : Type 0 where
  pub at_tail : x ≡ tail
  pub joined : IsConnected s.links s.dest head
  pub before : ℕ
  pub hop : IsHop s x (To before)
  pub less : head < before

-- what an added link does to x, which was connected to the destination. It does not turn. If it takes the link, it sends
-- on to the head, and otherwise it keeps its hop
pub record IsAfterAdd (s : State) (tail head : ℕ) (new : State) (x : ℕ) : Type 0 where
  pub still : ¬ HasTurned new x
  pub takes : TakesLink s tail head x → IsHop new x (To head)
  pub keeps : ¬ TakesLink s tail head x → KeepsHop s new x

-- An added link turns no connected node. Of the connected nodes, only the link's tail may change its hop, to the
-- head.
abbrev pub AddSparesJoined : Type 0
AddSparesJoined = (s : State) (u v : ℕ) (first : List (ℕ × ℕ)) (d : ℕ) (new : State) (x : ℕ)
    → IsSettledAnew s (Add u v) first d new → IsConnected s.links s.dest x → IsAfterAdd s u v new x

-- the tail is one of u and v, and the head is the other
abbrev pub AreEnds : ℕ → ℕ → ℕ → ℕ → Type 0
AreEnds u v tail head = ((tail ≡ u) × (head ≡ v)) ⊎ ((tail ≡ v) × (head ≡ u))

-- The same holds for a join, which adds a link in one of the two directions.
abbrev pub JoinSparesJoined : Type 0
JoinSparesJoined = (s : State) (u v : ℕ) (first : List (ℕ × ℕ)) (d : ℕ) (new : State)
    → IsSettledAnew s (Join u v) first d new → (tail : ℕ) × (head : ℕ) × AreEnds u v tail head × Points first tail head
    × ((x : ℕ) → IsConnected s.links s.dest x → IsAfterAdd s tail head new x)

-- Which nodes a cut link does not touch

-- x is the end of the link between u and v from which it points
abbrev pub IsTail : List (ℕ × ℕ) → ℕ → ℕ → ℕ → Type 0
IsTail links u v x = ((x ≡ u) × Points links u v) ⊎ ((x ≡ v) × Points links v u)

-- the path from x along these nodes uses the link between u and v
abbrev pub GoesOver : ℕ → ℕ → ℕ → List ℕ → Type 0
GoesOver u v x [] = ⊥
GoesOver u v x (w ∷ ws) = IsTrue (is_between u v (x, w)) ⊎ GoesOver u v w ws

-- each path along the links from x to y uses the link between u and v
abbrev pub EachGoesOver : List (ℕ × ℕ) → ℕ → ℕ → ℕ → ℕ → Type 0
EachGoesOver links u v x y = (vs : List ℕ) → IsPath links x vs → end_of x vs ≡ y → GoesOver u v x vs

-- what the cut of the link between u and v does to x, which was connected to the destination; `first` are the links that
-- are left
pub record IsAfterCut (s : State) (u v : ℕ) (first : List (ℕ × ℕ)) (new : State) (x : ℕ) : Type 0 where
  -- x had a path to the destination
  pub had : HasPath s.links x s.dest
  -- x turns exactly if it has a link left and each path that it had uses the cut link
  pub turns : HasTurned new x ↔ (¬ IsAlone first x × EachGoesOver s.links u v x s.dest)
  -- if another link points away from the tail, x does not turn. Then the tail sends on to the lowest such neighbour w,
  -- and every other node keeps its hop
  pub detour : (tail w : ℕ) → IsTail s.links u v tail → IsNextHop first tail w
      → ¬ HasTurned new x × (x ≡ tail → IsHop new x (To w)) × (x ≢ tail → KeepsHop s new x)
  -- if x had no path to the tail, it does not turn and keeps its hop
  pub apart : (tail : ℕ) → IsTail s.links u v tail → ¬ HasPath s.links x tail → ¬ HasTurned new x × KeepsHop s new x

-- A cut turns exactly the connected nodes that keep a link and whose every path went over the cut link. If another
-- link points from the tail, only the tail's hop changes. A node without a path to the tail is unchanged, and a node
-- that was cut off stays cut off.
abbrev pub CutSparesOthers : Type 0
CutSparesOthers = (s : State) (u v : ℕ) (first : List (ℕ × ℕ)) (d : ℕ) (new : State) (x : ℕ)
    → IsSettledAnew s (Cut u v) first d new
    → (IsConnected s.links s.dest x → IsAfterCut s u v first new x)
    × (¬ IsConnected s.links s.dest x → IsHop new x CutOff)

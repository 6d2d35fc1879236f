-- Which nodes gain a way by a change. The ways of a node are the nodes to which its links point. Full reversal is that
-- of E. Gafni and D. Bertsekas, "Distributed Algorithms for Generating Loop-Free Routes in Networks with Frequently
-- Changing Topology" (1981). The laws are this project's own.
use Rattle.std.specs.Prelude.{◌≡◌, ℕ, ◌⊎◌, List}
use Rattle.fr_graph.specs.Links.{IsPath, Points, end_of}
use Rattle.fr_core.specs.Walks.{IsConnected}
use Rattle.fr_route.specs.States.{State}
use Rattle.fr_route.specs.declared.change.Change.{Change}
use Rattle.fr_route.specs.declared.change.Change.TheVariants.{Add, Cut, Join}
use Rattle.fr_laws.specs.Locality.{AreEnds, HasTurned, IsSettledAnew}

-- y is a way of x: a link points from x to y, and x is connected with the destination
pub record IsWay (s : State) (x y : ℕ) : Type 0 where
  pub link : Points s.links x y
  pub connected : IsConnected s.links s.dest x

-- y is a way of x after the change, and was none before
pub record Gains (s new : State) (x y : ℕ) : Type 0 where
  pub has : IsWay new x y
  pub had : ¬ IsWay s x y

-- After a cut, only nodes that turned gain a way.
abbrev pub CutGrowsTurned : Type 0
CutGrowsTurned = (s : State) (u v : ℕ) (first : List (ℕ × ℕ)) (d : ℕ) (new : State) (x y : ℕ)
    → IsSettledAnew s (Cut u v) first d new → Gains s new x y → HasTurned new x

-- Of the nodes that were connected before a link is added, only its tail gains a way, and this way is the link's
-- head.
abbrev pub AddGrowsItsTail : Type 0
AddGrowsItsTail = (s : State) (u v : ℕ) (first : List (ℕ × ℕ)) (d : ℕ) (new : State) (x y : ℕ)
    → IsSettledAnew s (Add u v) first d new → IsConnected s.links s.dest x → Gains s new x y → (x ≡ u) × (y ≡ v)

-- The same holds for a join, whose tail is one of the two nodes.
abbrev pub JoinGrowsATail : Type 0
JoinGrowsATail = (s : State) (u v : ℕ) (first : List (ℕ × ℕ)) (d : ℕ) (new : State)
    → IsSettledAnew s (Join u v) first d new → (tail : ℕ) × (head : ℕ) × AreEnds u v tail head
    × ((x y : ℕ) → IsConnected s.links s.dest x → Gains s new x y → (x ≡ tail) × (y ≡ head))

-- every walk from x along the links meets only nodes that did not turn, uses only links from before the round, and goes
-- on until it comes to the destination
pub record LeadsHome (first : List (ℕ × ℕ)) (new : State) (x : ℕ) : Type 0 where
  pub still : (ys : List ℕ) → IsPath new.links x ys → ¬ HasTurned new (end_of x ys)
  pub kept : (ys : List ℕ) → IsPath new.links x ys → IsPath first x ys
  pub goes_on : (ys : List ℕ) → IsPath new.links x ys
      → (end_of x ys ≡ new.dest) ⊎ ((y : ℕ) × IsWay new (end_of x ys) y)

-- After any change, a connected node that did not turn has only ways from before the round. All walks from it along
-- ways go on until they arrive, and meet only nodes that did not turn.
abbrev pub StillLeadsHome : Type 0
StillLeadsHome = (s : State) (change : Change) (first : List (ℕ × ℕ)) (d : ℕ) (new : State) (x : ℕ)
    → IsSettledAnew s change first d new → IsConnected new.links new.dest x → ¬ HasTurned new x
    → LeadsHome first new x

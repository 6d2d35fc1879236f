-- Routes along the links: each node sends on to the node with the lowest number to which one of its links points. This
-- project's own; next hops are those of RFC 6976.
use Rattle.std.specs.Prelude.{◌≡◌, ℕ, ◌≤◌, Bool, true, false, List, [], ◌∷◌, length, slice_get, Some}
use Rattle.fr_graph.specs.Links.{Points}
use Rattle.fr_route.specs.States.{State, IsCutOff}
use Rattle.fr_tables.specs.declared.hop.Hop.{Hop}
use Rattle.fr_tables.specs.declared.hop.Hop.TheVariants.{Here, To, CutOff}
use Rattle.fr_route.specs.declared.hops.Walked.{Walked}
use Rattle.fr_route.specs.declared.hops.Walked.TheVariants.{Route, CutOff as NoRoute}

-- the node with the lowest number to which a link from x points
pub record IsNextHop (links : List (ℕ × ℕ)) (x y : ℕ) : Type 0 where
  pub link : Points links x y
  pub least : (w : ℕ) → Points links x w → y ≤ w

-- a route from x along these nodes to d, each the next hop of the one before
abbrev pub IsRoute : List (ℕ × ℕ) → ℕ → ℕ → List ℕ → Type 0
IsRoute links d x [] = x ≡ d
IsRoute links d x (y ∷ ys) = ¬ (x ≡ d) × IsNextHop links x y × IsRoute links d y ys

-- the hop of x: the second node of its route
abbrev pub IsHop : State → ℕ → Hop → Type 0
IsHop s x Here = x ≡ s.dest
IsHop s x (To y) = (rest : List ℕ) × IsRoute s.links s.dest x (y ∷ rest)
IsHop s x CutOff = IsCutOff s.dest s.links x

-- the hops of the nodes below n, in order
pub record AreHops (s : State) (n : ℕ) (hops : List Hop) : Type 0 where
  pub one_each : length hops ≡ n
  pub each : (x : ℕ) (hop : Hop) → slice_get hops x ≡ Some hop → IsHop s x hop

-- whether the hop of a node says that it is cut off
abbrev pub is_cut_off : Hop → Bool
is_cut_off Here = false
is_cut_off (To y) = false
is_cut_off CutOff = true

-- the answer for x: the nodes of its route, beginning with x, or that there is none
abbrev pub IsWalked : State → ℕ → Walked → Type 0
IsWalked s x (Route nodes) = (rest : List ℕ) × IsRoute s.links s.dest x rest × (nodes.items ≡ x ∷ rest)
IsWalked s x NoRoute = IsCutOff s.dest s.links x

-- Networks of nodes with `Rise::Top` in which all messages have arrived and nothing more happens, and that routes have
-- the least costs in them. Least costs are those of D. Bertsekas and R. Gallager, Data Networks (1992). The laws are this
-- project's own.
use Rattle.std.specs.Prelude.{IsTrue, List, [], ◌∷◌, false, true, zero, suc, ℕ, ◌+◌, ◌^◌, ◌<◌, ◌≡◌, ◌≤◌, ◌⊎◌}
use Rattle.std.specs.Global.{Global}
use Rattle.std.specs.List.{Contains}
use Rattle.fr_node.specs.declared.link.Link.{Link}
use Rattle.fr_node.specs.declared.message.TheConstants.{CUT_OFF}
use Rattle.fr_node.specs.declared.node.Node.{Node}
use Rattle.fr_node.specs.declared.policy.Rise.TheVariants.{Top}
use Rattle.fr_node.specs.Arrivals.{Arrive, IsTold}
use Rattle.fr_node.specs.Distances.{IsDistance, distance_over}
use Rattle.fr_node.specs.Histories.{IsHistory}
use Rattle.fr_node.specs.Links.{is_way}
use Rattle.fr_node.specs.Nodes.{lets_in}
use Rattle.fr_node.specs.Policies.{Keeps, MayAnnounce}

-- a gateway, at the height at which it starts
pub record IsGateway (n : Node) : Type 0 where
  pub gateway : IsTrue n.gateway
  pub height : n.own.used ≡ 0

-- the node has this ceiling, is not above the top, and could announce a height, but its policy announces nothing
pub record IsStillBelow (ceiling : ℕ) (n : Node) : Type 0 where
  pub rise : n.policy.rise ≡ Top ceiling
  pub height : n.own.used ≤ CUT_OFF
  pub may : MayAnnounce n
  pub keeps : Keeps n n.own

-- a network of so many routers, node x being router x, with a ceiling of its own. Each has announced heights, and links
-- that cost 1 at least. All messages have arrived, also with the present distances, and each router is a gateway or still
pub record IsQuietBelow (routers : ℕ) (ceiling : ℕ → ℕ) (node : ℕ → Node) : Type 0 where
  pub bits : (x : ℕ) → x < routers → ceiling x < 2 ^ 32
  pub me : (x : ℕ) → x < routers → (node x).own.me ≡ x
  pub announced : (x : ℕ) → x < routers → (h : ℕ → ℕ) × IsHistory (node x).own h
  pub cost : (x : ℕ) (l : Link) → x < routers → Contains (node x).links.items l → 1 ≤ l.cost
  pub told : (x : ℕ) (l : Link) → x < routers → Contains (node x).links.items l → l.up ≡ true → IsTold routers node x l
  pub distance : (x : ℕ) (l : Link) → x < routers → Contains (node x).links.items l → l.up ≡ true
      → IsDistance (node l.neighbour) l.distance
  pub still : (x : ℕ) → x < routers → IsGateway (node x) ⊎ IsStillBelow (ceiling x) (node x)

-- a path of links that are up, from router x to a gateway
abbrev pub IsPath : (ℕ → Node) → ℕ → List Link → Type 0
IsPath node x [] = IsTrue (node x).gateway
IsPath node x (l ∷ ls) = Contains (node x).links.items l × (l.up ≡ true) × IsPath node l.neighbour ls

-- the cost of a path
abbrev pub cost_of : List Link → ℕ
cost_of [] = 0
cost_of (l ∷ ls) = l.cost + cost_of ls

-- from each router of the path on, its cost is below the ceiling of that router
abbrev pub IsWithinCeilings : (ceiling : ℕ → ℕ) → ℕ → List Link → Type 0
IsWithinCeilings ceiling x [] = Unit {0}
IsWithinCeilings ceiling x (l ∷ ls) = (cost_of (l ∷ ls) < ceiling x) × IsWithinCeilings ceiling l.neighbour ls

-- a path that counts
pub record IsRoute (ceiling : ℕ → ℕ) (node : ℕ → Node) (x : ℕ) (ls : List Link) : Type 0 where
  pub path : IsPath node x ls
  pub within : IsWithinCeilings ceiling x ls

-- d is the least cost of a route from router x
pub record IsLeastCost (ceiling : ℕ → ℕ) (node : ℕ → Node) (x d : ℕ) : Type 0 where
  pub some : (ls : List Link) × IsRoute ceiling node x ls × (cost_of ls ≡ d)
  pub least : (ls : List Link) → IsRoute ceiling node x ls → d ≤ cost_of ls

-- the link is a way of the node, and none is nearer
pub record IsNearestWay (n : Node) (l : Link) : Type 0 where
  pub listed : Contains n.links.items l
  pub way : is_way n.own l ≡ true
  pub nearest : IsDistance n (distance_over l)

-- packets at router x come to a gateway after k links or fewer, which together cost d, if each router sends them to a
-- nearest way, whichever that is. The neighbour there lets them in
abbrev pub ArriveNearest : (ℕ → Node) → (k x d : ℕ) → Type 0
ArriveNearest node zero x d = IsTrue (node x).gateway × (d ≡ 0)
ArriveNearest node (suc k) x d = (IsTrue (node x).gateway × (d ≡ 0))
    ⊎ (((l : Link) × IsNearestWay (node x) l)
    × ((l : Link) → IsNearestWay (node x) l → IsTrue (lets_in (node l.neighbour) x)
    × ((e : ℕ) × (d ≡ l.cost + e) × ArriveNearest node k l.neighbour e)))

-- the least cost of a route from router x is its height and its distance. Its packets come to a gateway, whichever ways
-- they take, and by nearest ways at this cost
pub record IsServed (ceiling : ℕ → ℕ) (node : ℕ → Node) (x : ℕ) : Type 0 where
  pub height : IsLeastCost ceiling node x (node x).own.used
  pub distance : IsDistance (node x) (node x).own.used
  pub arrive : (k : ℕ) × Arrive node k x
  pub nearest : (k : ℕ) × ArriveNearest node k x (node x).own.used

-- The height of a router with a route, and its distance, are the least cost of its routes. Its packets come to a
-- gateway whichever ways they take, and at this cost by nearest ways. A route is a path of links that are up, from a
-- router to a gateway, whose cost from each of its routers on is below the ceiling of that router. Ceilings may
-- differ, and so may the costs that the ends of a link know, each 1 or more. All messages have arrived, also with the
-- present distances, and no policy changes a height. Gateways are at height 0, and other routers not above the top.
abbrev pub RoutesAreShortest : Type 0
RoutesAreShortest = (routers : ℕ) (ceiling : ℕ → ℕ) (node : ℕ → Node) → IsQuietBelow routers ceiling node
    → (x : ℕ) (ls : List Link) → x < routers → IsRoute ceiling node x ls → IsServed ceiling node x

-- A router from which no path of links that are up leads to a gateway is at the top, and has no distance.
abbrev pub LostRoutersKnow : Type 0
LostRoutersKnow = (routers : ℕ) (ceiling : ℕ → ℕ) (node : ℕ → Node) → IsQuietBelow routers ceiling node
    → (x : ℕ) → x < routers → ((ls : List Link) → ¬ IsPath node x ls)
    → ((node x).own.used ≡ CUT_OFF) × IsDistance (node x) CUT_OFF

-- A gateway and a router meet these premises.
abbrev pub SomeRouteIsShortest : Type 0
SomeRouteIsShortest = (alloc : Global) → (routers : ℕ) × (ceiling : ℕ → ℕ) × (node : ℕ → Node) × (x : ℕ)
    × (ls : List Link) × IsQuietBelow routers ceiling node × (x < routers) × IsRoute ceiling node x ls
    × ((node x).gateway ≡ false)

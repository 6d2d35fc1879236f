-- Distances from a gateway, by what was heard: the sum of a neighbour's distance and the cost of the link to it, as in
-- C. Hedrick, Routing Information Protocol, RFC 1058 (1988).
use Rattle.std.specs.Prelude.{Bool, IsTrue, List, [], false, filter, length, map, min, true, ℕ, ◌+◌, ◌*◌, ◌^◌, ◌<◌, ◌≡◌, ◌≤◌}
use Rattle.std.specs.List.{slice_index_or}
use Rattle.std.specs.List.Sorted.{IsNonDecreasingBy, IsPermutation}
use Rattle.fr_node.specs.declared.link.Link.{Link}
use Rattle.fr_node.specs.declared.message.TheConstants.{CUT_OFF}
use Rattle.fr_node.specs.declared.node.Node.{Node}
use Rattle.fr_node.specs.declared.own.Own.{Own}
use Rattle.fr_node.specs.declared.way.Way.{Way}
use Rattle.fr_node.specs.Links.{is_way, unknown}

-- d is the least of the numbers that are taken of these links, of those that pass the test
pub record IsLeast (passes : Link → Bool) (number : Link → ℕ) (ls : List Link) (d : ℕ) : Type 0 where
  pub some : (k : ℕ) × (k < length ls) × (passes (slice_index_or ls k unknown) ≡ true)
      × (number (slice_index_or ls k unknown) ≡ d)
  pub least : (k : ℕ) → k < length ls → passes (slice_index_or ls k unknown) ≡ true
      → d ≤ number (slice_index_or ls k unknown)

-- none of these links passes the test
abbrev pub NonePasses : (Link → Bool) → List Link → Type 0
NonePasses passes ls = (k : ℕ) → k < length ls → passes (slice_index_or ls k unknown) ≡ false

-- the distance over the link: that of the neighbour and the cost of the link, if the neighbour has one
abbrev pub distance_over : Link → ℕ
distance_over l = min (l.distance + l.cost) CUT_OFF

-- d is the least distance over one of these links to whose neighbours router `own` may send packets
abbrev pub IsNearest : Own → List Link → ℕ → Type 0
IsNearest own ls d = IsLeast (is_way own) distance_over ls d

-- the router may send packets on none of these links
abbrev pub HasNoWay : Own → List Link → Type 0
HasNoWay own ls = NonePasses (is_way own) ls

-- the distance of the node: that over its nearest way, if that has one
pub record IsDistance (n : Node) (d : ℕ) : Type 0 where
  pub gateway : IsTrue n.gateway → d ≡ 0
  pub near : ¬ IsTrue n.gateway → (k : ℕ) → IsNearest n.own n.links.items k → d ≡ k
  pub far : ¬ IsTrue n.gateway → HasNoWay n.own n.links.items → d ≡ CUT_OFF

-- a link as a way, and the number by which ways are sorted: by the distance over them, and equal ones by number
abbrev pub way_of : Link → Way
way_of l = record { neighbour = l.neighbour; distance = distance_over l }

abbrev pub rank_of : Way → ℕ
rank_of w = w.distance * 2 ^ 32 + w.neighbour

-- the ways of some links, in their order
abbrev pub ways_of : Own → List Link → List Way
ways_of own ls = map way_of (filter (is_way own) ls)

-- all ways of the node, nearest first. A gateway has none
pub record AreWays (n : Node) (ws : List Way) : Type 0 where
  pub gateway : IsTrue n.gateway → ws ≡ []
  pub each : ¬ IsTrue n.gateway → IsPermutation (ways_of n.own n.links.items) ws
  pub order : IsNonDecreasingBy rank_of ws

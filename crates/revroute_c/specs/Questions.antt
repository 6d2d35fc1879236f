-- The answers to questions. This project's own.
use Rattle.std.specs.Prelude.{◌≡◌, ℕ, ◌<◌, ◌≤◌, ◌⊎◌, ◌∷◌, List, length, map, slice_get, Option, Some, None}
use Rattle.fr_route.specs.Routes.{IsHop, IsRoute}
use Rattle.fr_route.specs.States.{State, IsCutOff}
use Rattle.fr_tables.specs.declared.hop.Hop.{Hop}
use Rattle.fr_tables.specs.declared.hop.Hop.TheVariants.{Here, To, CutOff}
use Rattle.revroute_c.specs.Records.{link_of}
use Rattle.revroute_c.specs.Replies.{IsWritten}
use Rattle.revroute_c.specs.declared.records.Link.{Link}

-- the values that are not nodes, greater than all nodes: the node is the destination, the node is cut off, there is no
-- such node, there is no network
abbrev pub here : ℕ
here = 4294967295

abbrev pub cut_off : ℕ
cut_off = 4294967294

abbrev pub no_node : ℕ
no_node = 4294967293

abbrev pub no_network : ℕ
no_network = 4294967292

-- a hop as a number
abbrev pub number_of : Hop → ℕ
number_of Here = here
number_of (To y) = y
number_of CutOff = cut_off

-- the hop of x as a number
abbrev pub IsHopNumber : State → ℕ → ℕ → Type 0
IsHopNumber s x number = (hop : Hop) × (IsHop s x hop × (number ≡ number_of hop))

-- the answer for any x and any session
abbrev pub TellsHop : Option State → ℕ → ℕ → Type 0
TellsHop None x number = number ≡ no_network
TellsHop (Some s) x number = ((s.nodes ≤ x) × (number ≡ no_node)) ⊎ ((x < s.nodes) × IsHopNumber s x number)

-- the hops of all nodes as numbers, in the order of the nodes
pub record AreHopNumbers (s : State) (numbers : List ℕ) : Type 0 where
  pub one_each : length numbers ≡ s.nodes
  pub each : (x number : ℕ) → slice_get numbers x ≡ Some number → IsHopNumber s x number

-- these numbers are at the front of the place
abbrev pub AreHopsWritten : State → List ℕ → List ℕ → Type 0
AreHopsWritten s before after = (numbers : List ℕ) × (AreHopNumbers s numbers × IsWritten numbers before after)

-- there are as many numbers as nodes
abbrev pub AreAsManyAsNodes : Option State → List ℕ → Type 0
AreAsManyAsNodes None numbers = ⊥
AreAsManyAsNodes (Some s) numbers = length numbers ≡ s.nodes

-- these numbers are how often each node turned in the last round
abbrev pub AreCounts : Option State → List ℕ → Type 0
AreCounts None numbers = ⊥
AreCounts (Some s) numbers = numbers ≡ s.counts

-- these nodes are the route from x, beginning with x
abbrev pub IsRouteFrom : Option State → ℕ → List ℕ → Type 0
IsRouteFrom None x nodes = ⊥
IsRouteFrom (Some s) x nodes = (x < s.nodes) × ((rest : List ℕ) × IsRoute s.links s.dest x rest × (nodes ≡ x ∷ rest))

-- these are the links
abbrev pub AreLinks : Option State → List Link → Type 0
AreLinks None links = ⊥
AreLinks (Some s) links = map link_of links ≡ s.links

-- the number is the destination, or says that there is no network
abbrev pub TellsDest : Option State → ℕ → Type 0
TellsDest None number = number ≡ no_network
TellsDest (Some s) number = number ≡ s.dest

-- x has no route to the destination: it is not a node, or it is cut off
abbrev pub HasNoRoute : State → ℕ → Type 0
HasNoRoute s x = (s.nodes ≤ x) ⊎ IsCutOff s.dest s.links x

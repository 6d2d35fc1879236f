-- The graph of a settled network. This project's own.
use Rattle.std.specs.Prelude.{◌≡◌, ℕ, ◌==◌, if◌then◌else◌, Bool, false, List, Option, Some, None, map, slice_get, slice_index}
use Rattle.std.specs.Prelude.{slice_index_or}
use Rattle.std.specs.List.{range_with_len}
use Rattle.fr_route.specs.NodeWays.{AreAllWays}
use Rattle.fr_route.specs.States.{State}
use Rattle.fr_route.specs.Routes.{AreHops}
use Rattle.fr_tables.specs.declared.hop.Hop.{Hop}
use Rattle.fr_tables.specs.declared.hop.Hop.TheVariants.{Here, To, CutOff}
use Rattle.fr_ways.specs.Ways.{ways}
use Rattle.revdot.specs.Graphs.{graph_text}
use Rattle.revdot.specs.declared.graphs.Direction.{Direction}
use Rattle.revdot.specs.declared.graphs.Label.{Label}
use Rattle.revdot.specs.declared.graphs.Label.TheVariants.{Plain}
use Rattle.revdot.specs.declared.graphs.NodeStyle.{NodeStyle}
use Rattle.revdot.specs.declared.graphs.NodeStyle.TheVariants as node
use Rattle.revdot.specs.declared.graphs.LinkStyle.{LinkStyle}
use Rattle.revdot.specs.declared.graphs.LinkStyle.TheVariants as link
use Rattle.revdot.specs.declared.graphs.DrawnNode.{DrawnNode}
use Rattle.revdot.specs.declared.graphs.DrawnLink.{DrawnLink}

-- the style of a node with this hop
abbrev pub node_style : Hop → NodeStyle
node_style Here = node.Destination
node_style (To y) = node.Plain
node_style CutOff = node.CutOff

-- the style of a link to this head whose tail has this hop: the link to the next hop is bold
abbrev pub link_style : Hop → ℕ → LinkStyle
link_style Here head = link.Plain
link_style (To y) head = if y == head then link.NextHop else link.Plain
link_style CutOff head = link.CutOff

abbrev pub settled_node : List ℕ → List Hop → ℕ → DrawnNode
settled_node counts hops x = record {
  node = x;
  count = slice_index counts x;
  style = node_style (slice_index_or hops x Here);
}

abbrev pub settled_link : List Hop → ℕ × ℕ → DrawnLink
settled_link hops l = record {
  tail = l.0;
  head = l.1;
  style = link_style (slice_index_or hops l.0 Here) l.1;
  back = false;
}

-- the graph of a state in this direction, with this text below it: each node with its settled count, and each link
pub record IsGraphOf (towards : Direction) (said : Label) (s : State) (out : List ℕ) : Type 0 where
  pub hops : List Hop
  pub are_hops : AreHops s s.nodes hops
  pub text : out ≡ graph_text towards said s.dest (map (settled_node s.counts hops) (range_with_len 0 s.nodes))
      (map (settled_link hops) s.links)

-- whether this is the first way
abbrev pub is_first : Option ℕ → ℕ → Bool
is_first (Some way) head = way == head
is_first None head = false

-- the style of a link to this head, where its tail has this hop and this first way: that to the first way is bold, and
-- that to the next hop has a hollow head
abbrev pub way_style : Hop → Option ℕ → ℕ → LinkStyle
way_style Here first head = link.Plain
way_style (To y) first head =
    if is_first first head
    then (if y == head then link.FirstWayToHop else link.FirstWay)
    else (if y == head then link.WayToHop else link.Way)
way_style CutOff first head = link.CutOff

abbrev pub way_link : List Hop → List (List ℕ) → ℕ × ℕ → DrawnLink
way_link hops table l = record {
  tail = l.0;
  head = l.1;
  style = way_style (slice_index_or hops l.0 Here) (slice_get (ways table l.0) 0) l.1;
  back = false;
}

-- the graph of a state in this direction that shows which way of each node is the first
pub record IsWaysGraphOf (towards : Direction) (s : State) (out : List ℕ) : Type 0 where
  pub hops : List Hop
  pub are_hops : AreHops s s.nodes hops
  pub table : List (List ℕ)
  pub are_ways : AreAllWays s table
  pub text : out ≡ graph_text towards Plain s.dest (map (settled_node s.counts hops) (range_with_len 0 s.nodes))
      (map (way_link hops table) s.links)

-- Graphs in the DOT language of Graphviz, line by line. The styles are this project's own.
use Rattle.std.specs.Prelude.{ℕ, List, [], ◌++◌, Bool, true, false, codes, decimal}
use Rattle.std.specs.List.{flat_map}
use Rattle.revdot.specs.declared.graphs.Direction.{Direction}
use Rattle.revdot.specs.declared.graphs.Direction.TheVariants as to
use Rattle.revdot.specs.declared.graphs.NodeStyle.{NodeStyle}
use Rattle.revdot.specs.declared.graphs.NodeStyle.TheVariants as node
use Rattle.revdot.specs.declared.graphs.LinkStyle.{LinkStyle}
use Rattle.revdot.specs.declared.graphs.LinkStyle.TheVariants as link
use Rattle.revdot.specs.declared.graphs.DrawnNode.{DrawnNode}
use Rattle.revdot.specs.declared.graphs.DrawnLink.{DrawnLink}
use Rattle.revdot.specs.declared.graphs.Label.{Label}
use Rattle.revdot.specs.declared.graphs.Label.TheVariants as label

-- the attributes of all nodes and links
unfoldable pub opening : List ℕ
opening = codes "digraph network {\n    graph [ nodesep = 0.4 ranksep = 0.4 fontname = Helvetica ]\n    node [ shape = circle fixedsize = true width = 0.55 fontname = Helvetica style = filled fillcolor = white ]\n    edge [ color = gray50 arrowsize = 0.8 ]\n"

-- the line for a direction, by the names of Graphviz: without one, it lays a graph out from top to bottom
abbrev pub direction_text : Direction → List ℕ
direction_text to.TopToBottom = []
direction_text to.LeftToRight = codes "    rankdir = LR\n"
direction_text to.BottomToTop = codes "    rankdir = BT\n"
direction_text to.RightToLeft = codes "    rankdir = RL\n"

-- the line below a graph
abbrev pub title_text : Label → List ℕ
title_text label.Plain = []
title_text (label.Turn t) = codes "    label = <turn "
    ++ (decimal t.turn ++ (codes ": node " ++ (decimal t.node ++ codes ">\n")))
title_text (label.LeftOut turns) = codes "    label = <turns without a graph: " ++ (decimal turns ++ codes ">\n")

-- the attributes of one node
abbrev pub node_style_text : NodeStyle → List ℕ
node_style_text node.Plain = []
node_style_text node.Destination = codes " shape = doublecircle"
node_style_text node.CutOff = codes " color = gray70 fontcolor = gray60"
node_style_text node.Turning = codes " fillcolor = gold"

-- begins a new line in a small font
unfoldable pub small : List ℕ
small = codes "<br/><font point-size='9'>"

-- the number of a node and, below it, its count
abbrev pub label_text : ℕ → ℕ → List ℕ
label_text x count = decimal x ++ (small ++ (decimal count ++ codes "</font>"))

-- a node
abbrev pub node_line : DrawnNode → List ℕ
node_line m = codes "    "
    ++ (decimal m.node ++
    (codes " [ label = <" ++ (label_text m.node m.count ++ (codes ">" ++ (node_style_text m.style ++ codes " ]\n")))))

-- the destination is laid out behind all other nodes, in the direction of the graph
abbrev pub lowest_line : ℕ → List ℕ
lowest_line d = codes "    { rank = sink " ++ (decimal d ++ codes " }\n")

-- the attributes of one link
abbrev pub link_style_text : LinkStyle → List ℕ
link_style_text link.Plain = []
link_style_text link.NextHop = codes " color = black penwidth = 2.5"
link_style_text link.CutOff = codes " color = gray80"
link_style_text link.Turning = codes " color = darkorange penwidth = 2"
link_style_text link.Way = codes " color = black penwidth = 0.6"
link_style_text link.WayToHop = codes " color = black penwidth = 0.6 arrowhead = empty"
link_style_text link.FirstWay = codes " color = black penwidth = 2.5"
link_style_text link.FirstWayToHop = codes " color = black penwidth = 2.5 arrowhead = empty"

-- an arrow that points back
abbrev pub back_text : Bool → List ℕ
back_text true = codes " dir = back"
back_text false = []

-- a link, laid out from its tail to its head
abbrev pub link_line : DrawnLink → List ℕ
link_line m =
    codes "    " ++ (decimal m.tail
    ++ (codes " -> " ++ (decimal m.head
    ++ (codes " [" ++ (back_text m.back ++ (link_style_text m.style ++ codes " ]\n"))))))

-- a graph in this direction, with this destination, these nodes and these links
abbrev pub graph_text : Direction → Label → ℕ → List DrawnNode → List DrawnLink → List ℕ
graph_text towards said d nodes links =
    opening ++ (direction_text towards ++ (title_text said
    ++ (flat_map node_line nodes ++ (lowest_line d ++ (flat_map link_line links ++ codes "}\n")))))

-- The turns of the last round, with a graph for each. This project's own.
use Rattle.std.specs.Prelude.{◌≡◌, ℕ, ◌+◌, ◌-◌, ◌<◌, ◌≤◌, ◌==◌, ◌⊎◌, if◌then◌else◌, not, List}
use Rattle.std.specs.Prelude.{[], ◌∷◌, ◌++◌, length, map, replicate, slice_index, sum}
use Rattle.std.specs.List.{range_with_len, zip}
use Rattle.fr_graph.specs.Links.{HaveSameLinks, IsNet}
use Rattle.fr_core.specs.History.{Moment, after_reply, count_at}
use Rattle.fr_core.specs.Legal.{CanTurn, NoneCanTurn}
use Rattle.fr_core.specs.declared.entry.Reply.TheVariants.{Turned}
use Rattle.fr_route.specs.States.{IsRound, State}
use Rattle.revdot.specs.Graphs.{graph_text}
use Rattle.revdot.specs.Settled.{IsGraphOf}
use Rattle.revdot.specs.declared.graphs.Direction.{Direction}
use Rattle.revdot.specs.declared.graphs.Label.{Label}
use Rattle.revdot.specs.declared.graphs.Label.TheVariants as label
use Rattle.revdot.specs.declared.graphs.NodeStyle.{NodeStyle}
use Rattle.revdot.specs.declared.graphs.NodeStyle.TheVariants as node
use Rattle.revdot.specs.declared.graphs.LinkStyle.TheVariants as link
use Rattle.revdot.specs.declared.graphs.DrawnNode.{DrawnNode}
use Rattle.revdot.specs.declared.graphs.DrawnLink.{DrawnLink}

-- the greatest number of turns that are drawn
abbrev pub most_turns : ℕ
most_turns = 1000

-- the direction of a settled link before the round: the same if its ends have turned equally often, otherwise reversed
abbrev pub first_link : List ℕ → ℕ × ℕ → ℕ × ℕ
first_link counts l = if slice_index counts l.0 == slice_index counts l.1 then l else (l.1, l.0)

abbrev pub moment : List (ℕ × ℕ) → List ℕ → Moment
moment links counts = record { links = links; counts = counts }

-- the moment before the first turn of the round that led to the state
abbrev pub beginning : State → Moment
beginning s = moment (map (first_link s.counts) s.links) (replicate s.nodes 0)

-- the moment after a turn of x, as in a history with the reply that x has turned
abbrev pub after_turn : Moment → ℕ → Moment
after_turn m x = after_reply m x (Turned (count_at m x + 1))

abbrev pub after_turns : Moment → List ℕ → Moment
after_turns m [] = m
after_turns m (x ∷ xs) = after_turns (after_turn m x) xs

-- the next node to turn: the one with the lowest number that can
pub record IsNext (n d : ℕ) (m : Moment) (x : ℕ) : Type 0 where
  pub can : CanTurn n d m x
  pub least : (y : ℕ) → y < x → ¬ CanTurn n d m y

abbrev pub AreTurns : ℕ → ℕ → Moment → List ℕ → Type 0
AreTurns n d m [] = Unit {0}
AreTurns n d m (x ∷ xs) = IsNext n d m x × AreTurns n d (after_turn m x) xs

-- these nodes turn one after the other, until no node can turn or the limit is reached
pub record AreAllTurns (most n d : ℕ) (m : Moment) (xs : List ℕ) : Type 0 where
  pub turns : AreTurns n d m xs
  pub few : length xs ≤ most
  pub all : (length xs ≡ most) ⊎ NoneCanTurn n d (after_turns m xs)

-- the style of node y at the turn of x
abbrev pub turn_style : ℕ → ℕ → ℕ → NodeStyle
turn_style d x y = if y == d then node.Destination else if y == x then node.Turning else node.Plain

-- the node y at the turn of x, with its count before it
abbrev pub turn_node : ℕ → List ℕ → ℕ → ℕ → DrawnNode
turn_node d counts x y = record { node = y; count = slice_index counts y; style = turn_style d x y }

-- a link at the turn of x: placed as the settled link, with its direction before the turn
abbrev pub turn_link : ℕ → (ℕ × ℕ) × (ℕ × ℕ) → DrawnLink
turn_link x p = record {
  tail = p.0.0;
  head = p.0.1;
  style = if p.1.1 == x then link.Turning else link.Plain;
  back = not (p.1.0 == p.0.0);
}

-- the graph of turn k, in which x turns
abbrev pub turn_text : Direction → State → Moment → ℕ → ℕ → List ℕ
turn_text towards s m k x =
    graph_text towards (label.Turn (record { turn = k; node = x })) s.dest
    (map (turn_node s.dest m.counts x) (range_with_len 0 s.nodes)) (map (turn_link x) (zip s.links m.links))

-- a graph for each of these turns, numbered from k
abbrev pub turns_text : Direction → State → Moment → ℕ → List ℕ → List ℕ
turns_text towards s m k [] = []
turns_text towards s m k (x ∷ xs) = turn_text towards s m k x ++ turns_text towards s (after_turn m x) (k + 1) xs

-- the replay begins with the first links of any round that led to the state
abbrev pub BeginsTheRound : State → Type 0
BeginsTheRound s = (first : List (ℕ × ℕ)) → IsNet s.nodes first → s.dest < s.nodes → IsRound s.nodes s.dest first s
    → HaveSameLinks (beginning s).links first

-- the text below the last graph, where so many turns have no graph
abbrev pub last_label : ℕ → Label
last_label turns = if turns == 0 then label.Plain else label.LeftOut turns

-- the graphs of the turns of the last round, and then the graph of the state, all in this direction
pub record IsStripOf (towards : Direction) (s : State) (out : List ℕ) : Type 0 where
  pub begins : BeginsTheRound s
  pub turns : List ℕ
  pub are_all : AreAllTurns most_turns s.nodes s.dest (beginning s) turns
  pub last : List ℕ
  pub settled : IsGraphOf towards (last_label (sum s.counts - most_turns)) s last
  pub text : out ≡ turns_text towards s (beginning s) 1 turns ++ last

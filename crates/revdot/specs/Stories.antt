-- The story of an input: the answer to each line, why a request was refused, and each round turn by turn, with what it
-- changed and the nodes that get new hops. This project's own.
use Rattle.std.specs.Prelude.{◌≡◌, ℕ, ◌+◌, ◌%◌, ◌==◌, nat_le, ◌⊎◌, ◌&&◌, Bool, true, false, List, [], ◌∷◌, ◌++◌}
use Rattle.std.specs.Prelude.{Option, Some, None, Result, Ok, Err, MatchBool, if◌then◌else◌, codes, decimal}
use Rattle.fr_graph.specs.Network.{Network}
use Rattle.fr_requests.specs.Requests.{PlainRequest, new_network, walk_from, ask, ask_node, order_pushes, push_ways, reading}
use Rattle.fr_requests.specs.declared.requests.LineFault.{LineFault}
use Rattle.fr_requests.specs.declared.requests.Question.{Question}
use Rattle.fr_requests.specs.declared.requests.Question.TheVariants.{Links, Counts, Hops, Ways}
use Rattle.fr_route.specs.Answers.{IsAccepted, IsAnswer, IsLineAnswer}
use Rattle.fr_route.specs.Blank.{is_blank}
use Rattle.fr_route.specs.NodeWays.{AreAllWays}
use Rattle.fr_route.specs.Json.{IsRefusal, PlainRefusal, refusal_json}
use Rattle.fr_route.specs.Pushing.{AreAsked}
use Rattle.fr_route.specs.Routes.{AreHops}
use Rattle.fr_route.specs.States.{State, net_at}
use Rattle.fr_route.specs.Texts.{spaced}
use Rattle.fr_route.specs.Telling.{IsLineTold}
use Rattle.fr_bytes.specs.Lines.{lines_of}
use Rattle.fr_tables.specs.declared.hop.Hop.{Hop}
use Rattle.revdot.specs.Asked.{asked_text}
use Rattle.revdot.specs.Comments.{comment_text, is_comment}
use Rattle.revdot.specs.Changes.{LinksFollow, changes_text, listed_line, pushes_line}
use Rattle.revdot.specs.Strips.{AreAllTurns, BeginsTheRound, beginning}

-- the greatest network whose rounds are told, and the greatest number of turns of a round that are
abbrev pub most_told_nodes : ℕ
most_told_nodes = 256

abbrev pub most_told_turns : ℕ
most_told_turns = 4096

-- after each of so many lines of the input the story has the whole state
abbrev pub lines_between_states : ℕ
lines_between_states = 256

abbrev pub is_told : State → Bool
is_told s = nat_le s.nodes most_told_nodes

abbrev pub net_text : ℕ → ℕ → List ℕ
net_text n d = codes "net " ++ (decimal n ++ (codes " " ++ (decimal d ++ codes "\n")))

-- the nodes that turned, one after the other, as a line
abbrev pub turns_line : List ℕ → List ℕ
turns_line nodes = codes "turns" ++ (spaced nodes ++ codes "\n")

-- the answer to a question, as a line
abbrev pub IsAnswerLine : Option State → Question → List ℕ → Type 0
IsAnswerLine s question out = (answer : List ℕ) × IsAnswer s (ask question) answer s × (out ≡ answer ++ codes "\n")

-- a whole state, as the session answers it
pub record AreSettledLines (s : Option State) (out : List ℕ) : Type 0 where
  pub links : List ℕ
  pub counts : List ℕ
  pub hops : List ℕ
  pub ways : List ℕ
  pub are_links : IsAnswerLine s Links links
  pub are_counts : IsAnswerLine s Counts counts
  pub are_hops : IsAnswerLine s Hops hops
  pub are_ways : IsAnswerLine s Ways ways
  pub text : out ≡ links ++ (counts ++ (hops ++ ways))

-- the nodes whose ways a round changed, as a line, with the state after it; `old` has the ways before it
abbrev pub AreListed : List (List ℕ) → State → List ℕ → Type 0
AreListed old s out = (new : List (List ℕ)) × AreAllWays s new × (out ≡ listed_line s.nodes old new)

-- the result of a round: what it changed in the network before it, which had these ways, or the whole state of a new
-- network
abbrev pub IsResult : Option Network → List (List ℕ) → State → List ℕ → Type 0
IsResult None old s out = AreSettledLines (Some s) out
IsResult (Some before) old s out = LinksFollow before.links s.links
    × (listed : List ℕ) × AreListed old s listed × (out ≡ changes_text before.links s.links s.counts ++ listed)

-- the story of a round: its first turns, all if they are few; its result; and the nodes that get new hops
pub record IsTurnByTurn (before : Option Network) (old : List (List ℕ)) (s : State) (rerouted out : List ℕ) : Type 0 where
  pub begins : BeginsTheRound s
  pub turns : List ℕ
  pub are_all : AreAllTurns most_told_turns s.nodes s.dest (beginning s) turns
  pub left : List ℕ
  pub is_result : IsResult before old s left
  pub hops : List Hop
  pub are_hops : AreHops s s.nodes hops
  pub text : out ≡ turns_line turns ++ (left ++ pushes_line hops rerouted)

-- the part after the line of nodes and destination
abbrev pub IsToldRound : Option Network → List (List ℕ) → State → List ℕ → List ℕ → Type 0
IsToldRound before old s rerouted out =
    MatchBool (is_told s) (IsTurnByTurn before old s rerouted out) (out ≡ codes "omitted\n")

-- the story of a round for the state after it, if the line began one
abbrev pub IsRoundStory : Bool → Option Network → List (List ℕ) → Option State → List ℕ → List ℕ → Type 0
IsRoundStory true before old (Some s) rerouted told =
    (out : List ℕ) × IsToldRound before old s rerouted out × (told ≡ net_text s.nodes s.dest ++ out)
IsRoundStory true before old None rerouted told = told ≡ []
IsRoundStory false before old s rerouted told = told ≡ []

-- a request that begins a round if it is accepted: a network or a change
abbrev pub makes_round : PlainRequest → Bool
makes_round (walk_from x) = false
makes_round (ask question) = false
makes_round (ask_node question x) = false
makes_round (order_pushes table wanted) = false
makes_round (push_ways table) = false
makes_round request = true

-- the network that a request changes if it is accepted, and if it is told; a new network changes none
abbrev pub net_before : Option State → PlainRequest → Option Network
net_before None request = None
net_before (Some s) (new_network n d links) = None
net_before (Some s) (walk_from x) = None
net_before (Some s) (ask question) = None
net_before (Some s) (ask_node question x) = None
net_before (Some s) (order_pushes table wanted) = None
net_before (Some s) (push_ways table) = None
net_before (Some s) request = if is_told s then Some (net_at s) else None

-- the ways of that network, and no table if there is none
abbrev pub AreWaysBefore : Option State → Option Network → List (List ℕ) → Type 0
AreWaysBefore None before old = old ≡ []
AreWaysBefore (Some s) None old = old ≡ []
AreWaysBefore (Some s) (Some before) old = AreAllWays s old

-- the answer in JSON to a request that is refused, as a line
abbrev pub refusal_line : List ℕ → List ℕ
refusal_line refusal = codes "refusal " ++ (refusal ++ codes "\n")

-- the request of the line with this number is refused, and this line names the fault and the nodes that show it
abbrev pub IsRefusalLine : Option State → ℕ → PlainRequest → List ℕ → Type 0
IsRefusalLine s number request out =
    (refusal : PlainRefusal) × IsRefusal s request refusal × (out ≡ refusal_line (refusal_json refusal number))

-- the part after an answer, for the state after it: why the request was refused, or the round that it began
abbrev pub IsSequel : Option State → ℕ → PlainRequest → Option State → List ℕ → List ℕ → Type 0
IsSequel s number request next rerouted told =
    IsRefusalLine s number request told
    ⊎ (((new : State) × IsAccepted s request new × (old : List (List ℕ)) × AreWaysBefore s (net_before s request) old
    × IsRoundStory (makes_round request) (net_before s request) old next rerouted told)
    ⊎ ((pushes : List (ℕ × Hop)) × AreAsked s request pushes × (told ≡ [])))

-- the same for a line that was read with this result
abbrev pub IsLineSequel : Option State → ℕ → Result PlainRequest LineFault → Option State → List ℕ → List ℕ → Type 0
IsLineSequel s number (Ok request) next rerouted told = IsSequel s number request next rerouted told
IsLineSequel s number (Err fault) next rerouted told = told ≡ []

-- the number of a line, and its answer
abbrev pub answer_text : ℕ → List ℕ → List ℕ
answer_text number answer = codes "line " ++ (decimal number ++ (codes "\n" ++ (answer ++ codes "\n")))

-- the story of a line that is not blank: its answer, what it asks, and what follows from it
pub record IsAnsweredBlock (s : Option State) (number : ℕ) (asked : Result PlainRequest LineFault) (block : List ℕ)
    (next : Option State) : Type 0 where
  pub answer : List ℕ
  pub is_answer : IsLineAnswer s asked answer next
  pub rerouted : List ℕ
  pub are_rerouted : IsLineTold s asked next [] rerouted
  pub told : List ℕ
  pub is_sequel : IsLineSequel s number asked next rerouted told
  pub text : block ≡ answer_text number answer ++ (asked_text asked ++ told)

-- the story of a line that is not a comment, and the state after it: nothing for a blank line
abbrev pub IsRequestBlock : Option State → ℕ → List ℕ → List ℕ → Option State → Type 0
IsRequestBlock s number line block next = MatchBool (is_blank line) ((block ≡ [])
    × (next ≡ s)) (IsAnsweredBlock s number (reading line) block next)

-- the story of a line, and the state after it: a comment has no answer and changes nothing
abbrev pub IsBlock : Option State → ℕ → List ℕ → List ℕ → Option State → Type 0
IsBlock s number line block next = MatchBool (is_comment line) ((block ≡ comment_text line)
    × (next ≡ s)) (IsRequestBlock s number line block next)

-- whether a whole state follows a line with this number
abbrev pub is_marked : ℕ → Option State → Bool
is_marked number (Some s) = (number % lines_between_states == 0) && is_told s
is_marked number None = false

-- the whole state after a line, if it follows this line
abbrev pub IsMark : ℕ → Option State → List ℕ → Type 0
IsMark number s out = MatchBool (is_marked number s)
    ((lines : List ℕ) × AreSettledLines s lines × (out ≡ codes "state\n" ++ lines)) (out ≡ [])

-- the story of a line, and the whole state if it follows this line
pub record IsStep (s : Option State) (number : ℕ) (line : List ℕ) (next : Option State) (out : List ℕ) : Type 0 where
  pub block : List ℕ
  pub is_block : IsBlock s number line block next
  pub mark : List ℕ
  pub is_mark : IsMark number next mark
  pub text : out ≡ block ++ mark

-- the story of lines, the first of which has this number
abbrev pub AreBlocks : Option State → ℕ → List (List ℕ) → List ℕ → Type 0
AreBlocks s number [] out = out ≡ []
AreBlocks s number (line ∷ rest) out =
    (step : List ℕ) × (next : Option State) × (more : List ℕ)
    × IsStep s number line next step × AreBlocks next (number + 1) rest more × (out ≡ step ++ more)

-- the story of an input
abbrev pub IsStory : List ℕ → List ℕ → Type 0
IsStory bytes out = AreBlocks None 1 (lines_of bytes) out

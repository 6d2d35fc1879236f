-- The answer to each request and to each line, from the state before it: the definition of docs/LINES.md. This
-- project's own.
use Rattle.std.specs.Prelude.{◌≡◌, ◌==◌, ℕ, ◌<◌, ◌≤◌, ◌⊎◌, List, [], ◌∷◌, ◌++◌, length}
use Rattle.std.specs.Prelude.{MatchBool, Option, Some, None, Result, Ok, Err}
use Rattle.fr_graph.specs.Batches.{IsBatchFault, IsEditFault}
use Rattle.fr_graph.specs.Faults.{IsFirstFault, IsFaultless, IsNetworkOf}
use Rattle.fr_graph.specs.Limits.{most_nodes}
use Rattle.fr_graph.specs.Network.{Network}
use Rattle.fr_requests.specs.Requests.{PlainRequest, new_network, cut_link, add_link, join_nodes}
use Rattle.fr_requests.specs.Requests.{make_edits, move_dest, walk_from, ask, ask_node, order_pushes, push_ways, reading}
use Rattle.fr_requests.specs.declared.requests.Question.TheVariants.{Links, Counts, Hops, Ways}
use Rattle.fr_requests.specs.declared.requests.NodeQuestion.TheVariants as node
use Rattle.fr_requests.specs.declared.requests.LineFault.{LineFault}
use Rattle.fr_requests.specs.declared.requests.LineFault.TheVariants.{NotJson, NotRequest, Memory as LineMemory}
use Rattle.fr_graph.specs.declared.edit.Edit.TheVariants as edit
use Rattle.fr_graph.specs.declared.fault.EditFault.{EditFault}
use Rattle.fr_graph.specs.declared.fault.NetFault.{NetFault}
use Rattle.fr_graph.specs.declared.fault.NetFault.TheVariants.{TooMany, Range, SelfLink, Twice, Cycle, NoLink, Memory}
use Rattle.fr_route.specs.Blank.{is_blank}
use Rattle.fr_route.specs.States.{State, IsRound, IsReport, IsCutOff, net_at}
use Rattle.fr_route.specs.NodeWays.{AreAllWays, AreNodeWays, IsNearestRoute}
use Rattle.fr_route.specs.Routes.{IsRoute, AreHops}
use Rattle.fr_route.specs.Changes.{CanTurnAfter, IsBatch, IsChanged, IsMoved, IsStill, MayStart}
use Rattle.fr_route.specs.Pushing.{AreAsked, IsPushesRefused}
use Rattle.fr_route.specs.Texts.{counts_text, links_text, hops_text, walk_text, no_walk_text, ways_text}
use Rattle.fr_route.specs.Texts.{node_ways_text, nearest_text, no_nearest_text, phases_text, pushes_text, report_text}
use Rattle.fr_route.specs.Texts.{refusal_text}
use Rattle.fr_route.specs.WayPushes.{AreWayPushesRefused, IsPhasesText}
use Rattle.fr_route.specs.declared.change.Change.TheVariants.{Cut, Add, Join, Destination}
use Rattle.fr_tables.specs.declared.hop.Hop.{Hop}

-- the number in an answer for a fault of links or of an edit. `Memory` is not a refusal and has no number
abbrev pub fault_number : NetFault → ℕ
fault_number TooMany = 9
fault_number (Range x) = 4
fault_number (SelfLink u) = 5
fault_number (Twice u v) = 6
fault_number (Cycle walk) = 7
fault_number NoLink = 8
fault_number Memory = 0

-- The request is refused in this state, with this number. A network is refused for the first fault of its links, or for
-- a destination that is not a node. Pushes are refused for their tables. Without a network, every other request is
-- refused. A change is refused for its fault. A new destination, or the start of a route, is refused if it is not a
-- node. Pushes of ways are refused for a table that is too long.
abbrev pub IsRefused : Option State → PlainRequest → ℕ → Type 0
IsRefused s (new_network n d links) number =
    ((fault : NetFault) × IsFirstFault n links fault × (number ≡ fault_number fault))
    ⊎ (IsFaultless n links × (n ≤ d) × (number ≡ 4))
IsRefused s (order_pushes table wanted) number = (nodes : List ℕ) × IsPushesRefused s table wanted number nodes
IsRefused None request number = number ≡ 3
IsRefused (Some s) (cut_link u v) number = (fault : NetFault) × IsEditFault (net_at s) (edit.Cut u v) fault
    × (number ≡ fault_number fault)
IsRefused (Some s) (add_link u v) number = (fault : NetFault) × IsEditFault (net_at s) (edit.Add u v) fault
    × (number ≡ fault_number fault)
IsRefused (Some s) (join_nodes u v) number = (fault : NetFault) × IsEditFault (net_at s) (edit.Join u v) fault
    × (number ≡ fault_number fault)
IsRefused (Some s) (make_edits edits) number = (refused : EditFault) × IsBatchFault (net_at s) edits refused
    × (number ≡ fault_number refused.fault)
IsRefused (Some s) (move_dest d) number = (s.nodes ≤ d) × (number ≡ 4)
IsRefused (Some s) (walk_from x) number = (s.nodes ≤ x) × (number ≡ 4)
IsRefused (Some s) (ask question) number = ⊥
IsRefused (Some s) (ask_node question x) number = (s.nodes ≤ x) × (number ≡ 4)
IsRefused (Some s) (push_ways table) number = (nodes : List ℕ) × AreWayPushesRefused s table number nodes

-- the request is accepted, and `new` is the state after it: a network or a change begins a round, and all else changes
-- nothing. Requests for pushes are defined by `AreAsked`, since they need no state
abbrev pub IsAccepted : Option State → PlainRequest → State → Type 0
IsAccepted s (new_network n d links) new = IsFaultless n links × (d < n) × IsRound n d links new
IsAccepted s (order_pushes table wanted) new = ⊥
IsAccepted None request new = ⊥
IsAccepted (Some s) (cut_link u v) new = IsChanged s (Cut u v) new
IsAccepted (Some s) (add_link u v) new = IsChanged s (Add u v) new
IsAccepted (Some s) (join_nodes u v) new = IsChanged s (Join u v) new
IsAccepted (Some s) (make_edits edits) new = IsBatch s edits new
IsAccepted (Some s) (move_dest d) new = IsMoved s d new
IsAccepted (Some s) (walk_from x) new = (x < s.nodes) × (new ≡ s)
IsAccepted (Some s) (ask question) new = new ≡ s
IsAccepted (Some s) (ask_node question x) new = (x < s.nodes) × (new ≡ s)
IsAccepted (Some s) (push_ways table) new = (length table ≤ most_nodes) × (length table ≤ s.nodes) × (new ≡ s)

-- the line that reports a round, from the state after it
abbrev pub IsReportLine : State → List ℕ → Type 0
IsReportLine s text = (turned : ℕ) × (cut : ℕ) × IsReport s turned cut × (text ≡ report_text turned cut)

-- the line with the hop of each node
abbrev pub IsHopsLine : State → List ℕ → Type 0
IsHopsLine s text = (hops : List Hop) × AreHops s s.nodes hops × (text ≡ hops_text hops)

-- the line with the route from x, or that there is none
abbrev pub IsWalkLine : State → ℕ → List ℕ → Type 0
IsWalkLine s x text =
    ((rest : List ℕ) × IsRoute s.links s.dest x rest × (text ≡ walk_text (x ∷ rest)))
    ⊎ (IsCutOff s.dest s.links x × (text ≡ no_walk_text x))

-- the line with the ways of each node
abbrev pub IsWaysLine : State → List ℕ → Type 0
IsWaysLine s text = (table : List (List ℕ)) × AreAllWays s table × (text ≡ ways_text s.dest table)

-- the line with the ways of x
abbrev pub IsNodeWaysLine : State → ℕ → List ℕ → Type 0
IsNodeWaysLine s x text = (list : List ℕ) × AreNodeWays s x list × (text ≡ node_ways_text (x == s.dest) list)

-- the line with a route of the fewest links from x, or that there is none
abbrev pub IsNearestLine : State → ℕ → List ℕ → Type 0
IsNearestLine s x text =
    ((rest : List ℕ) × IsNearestRoute s x rest × (text ≡ nearest_text (x ∷ rest)))
    ⊎ (IsCutOff s.dest s.links x × (text ≡ no_nearest_text x))

-- the answer to an accepted request, from the state after it
abbrev pub IsText : State → PlainRequest → List ℕ → Type 0
IsText s (new_network n d links) text = IsReportLine s text
IsText s (cut_link u v) text = IsReportLine s text
IsText s (add_link u v) text = IsReportLine s text
IsText s (join_nodes u v) text = IsReportLine s text
IsText s (make_edits edits) text = IsReportLine s text
IsText s (move_dest d) text = IsReportLine s text
IsText s (walk_from x) text = IsWalkLine s x text
IsText s (ask Links) text = text ≡ links_text s.links
IsText s (ask Counts) text = text ≡ counts_text s.counts
IsText s (ask Hops) text = IsHopsLine s text
IsText s (ask Ways) text = IsWaysLine s text
IsText s (ask_node node.Ways x) text = IsNodeWaysLine s x text
IsText s (ask_node node.Nearest x) text = IsNearestLine s x text
IsText s (push_ways table) text = IsPhasesText phases_text s table text
IsText s (order_pushes table wanted) text = ⊥

-- the answer to a request, and the state after it: refusals and pushes between tables do not change the state
abbrev pub IsAnswer : Option State → PlainRequest → List ℕ → Option State → Type 0
IsAnswer s request text next =
    ((number : ℕ) × IsRefused s request number × (text ≡ refusal_text number) × (next ≡ s))
    ⊎ (((new : State) × IsAccepted s request new × IsText new request text × (next ≡ Some new))
    ⊎ ((pushes : List (ℕ × Hop)) × AreAsked s request pushes × (text ≡ pushes_text pushes) × (next ≡ s)))

-- the answer to a line that was read with this result
abbrev pub IsLineAnswer : Option State → Result PlainRequest LineFault → List ℕ → Option State → Type 0
IsLineAnswer s (Ok request) text next = IsAnswer s request text next
IsLineAnswer s (Err NotJson) text next = (text ≡ refusal_text 1) × (next ≡ s)
IsLineAnswer s (Err NotRequest) text next = (text ≡ refusal_text 2) × (next ≡ s)
IsLineAnswer s (Err LineMemory) text next = ⊥

-- the answers to lines, each followed by byte 10, and the state after them. A blank line has no answer
abbrev pub AreAnswers : Option State → List (List ℕ) → List ℕ → Option State → Type 0
AreAnswers s [] out next = (out ≡ []) × (next ≡ s)
AreAnswers s (line ∷ rest) out next =
    MatchBool (is_blank line) (AreAnswers s rest out next)
    ((text : List ℕ) × (between : Option State) × (more : List ℕ)
    × IsLineAnswer s (reading line) text between × AreAnswers between rest more next
    × (out ≡ (text ++ 10 ∷ []) ++ more))

-- a new network may need a thread: it is accepted, and a node can turn
abbrev pub MayStartNew : ℕ → ℕ → List (ℕ × ℕ) → Type 0
MayStartNew n d links = (d < n) × ((net : Network) × (IsNetworkOf n links net × ¬ IsStill net d))

-- a request may need a thread: it is accepted, and a node can turn on the network that it makes
abbrev pub MayStartFor : Option State → PlainRequest → Type 0
MayStartFor s (new_network n d links) = MayStartNew n d links
MayStartFor s (order_pushes table wanted) = ⊥
MayStartFor None request = ⊥
MayStartFor (Some s) (cut_link u v) = MayStart s (Cut u v)
MayStartFor (Some s) (add_link u v) = MayStart s (Add u v)
MayStartFor (Some s) (join_nodes u v) = MayStart s (Join u v)
MayStartFor (Some s) (make_edits edits) = CanTurnAfter s edits s.dest
MayStartFor (Some s) (move_dest d) = MayStart s (Destination d)
MayStartFor (Some s) (walk_from x) = ⊥
MayStartFor (Some s) (ask question) = ⊥
MayStartFor (Some s) (ask_node question x) = ⊥
MayStartFor (Some s) (push_ways table) = ⊥

-- the same for a line that was read with this result
abbrev pub MayStartForLine : Option State → Result PlainRequest LineFault → Type 0
MayStartForLine s (Ok request) = MayStartFor s request
MayStartForLine s (Err fault) = ⊥

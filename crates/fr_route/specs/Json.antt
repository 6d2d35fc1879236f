-- The answers in JSON, to each request and to each line: the definition of docs/LINES.md. This project's own; JSON is
-- that of RFC 8259.
use Rattle.std.specs.Prelude.{◌≡◌, ℕ, ◌+◌, ◌≤◌, ◌==◌, ◌⊎◌, Bool, true, false, List, [], ◌∷◌, ◌++◌, Option}
use Rattle.std.specs.Prelude.{Some, None, Result, Ok, Err, codes, decimal, map, slice_get, if◌then◌else◌}
use Rattle.std.specs.List.{AllByRecursion}
use Rattle.fr_graph.specs.Batches.{IsBatchFault, IsEditFault}
use Rattle.fr_graph.specs.Evidence.{NamesFirst, NamesInBatch, NamesOfEdit, evidence}
use Rattle.fr_graph.specs.Faults.{IsFirstFault, IsFaultless}
use Rattle.fr_graph.specs.Network.{Network}
use Rattle.fr_graph.specs.declared.edit.Edit.{Edit}
use Rattle.fr_graph.specs.declared.edit.Edit.TheVariants as edit
use Rattle.fr_graph.specs.declared.fault.EditFault.{EditFault}
use Rattle.fr_graph.specs.declared.fault.NetFault.{NetFault}
use Rattle.fr_graph.specs.declared.fault.NetFault.TheVariants.{NoLink}
use Rattle.fr_requests.specs.Requests.{PlainRequest, new_network, cut_link, add_link}
use Rattle.fr_requests.specs.Requests.{join_nodes, make_edits, move_dest, walk_from, ask, ask_node, order_pushes}
use Rattle.fr_requests.specs.Requests.{push_ways}
use Rattle.fr_requests.specs.declared.requests.Question.TheVariants.{Links, Counts, Hops, Ways}
use Rattle.fr_requests.specs.declared.requests.NodeQuestion.TheVariants as node
use Rattle.fr_requests.specs.declared.requests.LineFault.{LineFault}
use Rattle.fr_requests.specs.declared.requests.LineFault.TheVariants.{NotJson, NotRequest, Memory as LineMemory}
use Rattle.fr_route.specs.Answers.{IsAccepted, fault_number}
use Rattle.fr_route.specs.Pushing.{AreAsked, IsPushesRefused}
use Rattle.fr_route.specs.Reroutes.{AreReplaced, AreReplacedWays, AreRerouted}
use Rattle.fr_route.specs.NodeWays.{AreAllWays, AreNodeWays, IsNearestRoute}
use Rattle.fr_route.specs.Routes.{AreHops, IsHop, IsRoute}
use Rattle.fr_route.specs.Separated.{comma_before, listed}
use Rattle.fr_route.specs.States.{State, IsCutOff, IsReport, net_at}
use Rattle.fr_route.specs.WayPushes.{AreWayPushesRefused, IsPhasesText}
use Rattle.fr_tables.specs.declared.hop.Hop.{Hop}
use Rattle.fr_tables.specs.declared.hop.Hop.TheVariants.{Here, To, CutOff}

-- Texts

abbrev pub link_json : ℕ × ℕ → List ℕ
link_json l = codes "[" ++ (decimal l.0 ++ (codes "," ++ (decimal l.1 ++ codes "]")))

abbrev pub links_json : List (ℕ × ℕ) → List ℕ
links_json links = codes "{\"links\":[" ++ (listed link_json links ++ codes "]}")

abbrev pub counts_json : List ℕ → List ℕ
counts_json counts = codes "{\"counts\":[" ++ (listed decimal counts ++ codes "]}")

abbrev pub hop_json : Hop → List ℕ
hop_json Here = codes "\"here\""
hop_json (To node) = decimal node
hop_json CutOff = codes "\"cut\""

abbrev pub hops_json : List Hop → List ℕ
hops_json hops = codes "{\"hops\":[" ++ (listed hop_json hops ++ codes "]}")

abbrev pub walk_json : List ℕ → List ℕ
walk_json nodes = codes "{\"walk\":[" ++ (listed decimal nodes ++ codes "]}")

abbrev pub no_walk_json : List ℕ
no_walk_json = codes "{\"walk\":null}"

-- the item for the ways of a node. `home` says whether it is the destination. Any other node without ways is cut off
abbrev pub ways_item : Bool → List ℕ → List ℕ
ways_item true list = codes "\"here\""
ways_item false [] = codes "\"cut\""
ways_item false (w ∷ ws) = codes "[" ++ (listed decimal (w ∷ ws) ++ codes "]")

-- the items of the nodes from x on; d is the destination. `first` says whether no item comes before these
abbrev pub ways_items : ℕ → ℕ → Bool → List (List ℕ) → List ℕ
ways_items d x first [] = []
ways_items d x first (row ∷ rows) = comma_before first ++ (ways_item (x == d) row ++ ways_items d (x + 1) false rows)

abbrev pub ways_json : ℕ → List (List ℕ) → List ℕ
ways_json d table = codes "{\"ways\":[" ++ (ways_items d 0 true table ++ codes "]}")

abbrev pub node_ways_json : Bool → List ℕ → List ℕ
node_ways_json home list = codes "{\"ways\":" ++ (ways_item home list ++ codes "}")

abbrev pub nearest_json : List ℕ → List ℕ
nearest_json nodes = codes "{\"nearest\":[" ++ (listed decimal nodes ++ codes "]}")

abbrev pub no_nearest_json : List ℕ
no_nearest_json = codes "{\"nearest\":null}"

-- a number whose hop has changed, with its new hop
abbrev pub change_json : ℕ × Hop → List ℕ
change_json change = codes "[" ++ (decimal change.0 ++ (codes "," ++ (hop_json change.1 ++ codes "]")))

abbrev pub pushes_json : List (ℕ × Hop) → List ℕ
pushes_json pushes = codes "{\"pushes\":[" ++ (listed change_json pushes ++ codes "]}")

-- a node with the list that it gets
abbrev pub list_json : ℕ × List ℕ → List ℕ
list_json push = codes "[" ++ (decimal push.0 ++ (codes ",[" ++ (listed decimal push.1 ++ codes "]]")))

-- the pushes of two phases, from the first push to the end of the object
abbrev pub lists_json : List (ℕ × List ℕ) → List (ℕ × List ℕ) → List ℕ
lists_json shrink grow = listed list_json shrink ++ (codes "],\"grow\":[" ++ (listed list_json grow ++ codes "]}"))

abbrev pub phases_json : List (ℕ × List ℕ) → List (ℕ × List ℕ) → List ℕ
phases_json shrink grow = codes "{\"shrink\":[" ++ lists_json shrink grow

abbrev pub round_json : ℕ → ℕ → List ℕ
round_json turned cut = codes "{\"turned\":" ++ (decimal turned ++ (codes ",\"cut_off\":" ++ decimal cut))

-- what follows the changed numbers in a report: nothing more
abbrev pub no_more_json : List ℕ
no_more_json = codes "]}"

-- or the pushes of two phases
abbrev pub more_json : List (ℕ × List ℕ) → List (ℕ × List ℕ) → List ℕ
more_json shrink grow = codes "],\"shrink\":[" ++ lists_json shrink grow

-- a report that ends so
abbrev pub report_json : ℕ → ℕ → List (ℕ × Hop) → List ℕ → List ℕ
report_json turned cut changed end = round_json turned cut
    ++ (codes ",\"changed\":[" ++ (listed change_json changed ++ end))

-- a refusal: its number, the nodes that show the fault, and the place of the refused edit in a batch
pub record PlainRefusal : Type 0 where
  pub number : ℕ
  pub nodes : List ℕ
  pub edit : Option ℕ

-- the name of the fault with this number
abbrev pub fault_name : ℕ → List ℕ
fault_name n =
    if n == 1 then codes "not JSON"
    else (if n == 2 then codes "not a request"
    else (if n == 3 then codes "no network"
    else (if n == 4 then codes "no such node"
    else (if n == 5 then codes "self link"
    else (if n == 6 then codes "linked twice"
    else (if n == 7 then codes "cycle"
    else (if n == 8 then codes "no such link"
    else codes "too many")))))))

abbrev pub refused_json : ℕ → List ℕ
refused_json number = codes "{\"refused\":" ++ (decimal number ++ (codes ",\"fault\":\"" ++ fault_name number))

abbrev pub place_json : Option ℕ → List ℕ
place_json None = []
place_json (Some at) = codes ",\"edit\":" ++ decimal at

abbrev pub shown_json : List ℕ → Option ℕ → List ℕ
shown_json nodes place = codes "\",\"nodes\":[" ++ (listed decimal nodes ++ (codes "]" ++ place_json place))

-- the refusal of the line with this number
abbrev pub refusal_json : PlainRefusal → ℕ → List ℕ
refusal_json refusal line =
    refused_json refusal.number
    ++ (shown_json refusal.nodes refusal.edit ++ (codes ",\"line\":" ++ (decimal line ++ codes "}")))

-- Refusals

-- a refusal that no nodes show
abbrev pub bare_refusal : ℕ → PlainRefusal
bare_refusal number = record { number = number; nodes = []; edit = None }

-- the refusal of a request that names x, which is not a node
abbrev pub no_node : ℕ → PlainRefusal
no_node x = record { number = 4; nodes = x ∷ []; edit = None }

-- the refusal for a fault. `named` are the nodes that no link joins
abbrev pub refusal_for : NetFault → List ℕ → Option ℕ → PlainRefusal
refusal_for NoLink named place = record { number = 8; nodes = named; edit = place }
refusal_for fault named place = record { number = fault_number fault; nodes = evidence fault; edit = place }

-- the two nodes that an edit names
abbrev pub ends : Edit → List ℕ
ends (edit.Cut u v) = u ∷ v ∷ []
ends (edit.Add u v) = u ∷ v ∷ []
ends (edit.Join u v) = u ∷ v ∷ []

-- the two nodes that the edit at this place names, if there is one
abbrev pub ends_in : Option Edit → List ℕ
ends_in None = []
ends_in (Some e) = ends e

-- the links of a new network have a fault, or its destination is not a node
abbrev pub IsNewRefusal : ℕ → ℕ → List (ℕ × ℕ) → PlainRefusal → Type 0
IsNewRefusal n d links refusal =
    ((fault : NetFault) × IsFirstFault n links fault × NamesFirst n links fault × (refusal ≡ refusal_for fault [] None))
    ⊎ (IsFaultless n links × (n ≤ d) × (refusal ≡ no_node d))

-- the edit is refused
abbrev pub IsEditRefusal : Network → Edit → PlainRefusal → Type 0
IsEditRefusal net e refusal = (fault : NetFault) × IsEditFault net e fault × NamesOfEdit net e fault
    × (refusal ≡ refusal_for fault (ends e) None)

-- one of the edits is refused, or there are too many
abbrev pub IsBatchRefusal : Network → List Edit → PlainRefusal → Type 0
IsBatchRefusal net edits refusal =
    (refused : EditFault) × IsBatchFault net edits refused × NamesInBatch net edits refused
    × (refusal ≡ refusal_for refused.fault (ends_in (slice_get edits refused.at)) (Some refused.at))

-- The request is refused in this state. It is so exactly if it is refused with the number by `IsRefused`.
abbrev pub IsRefusal : Option State → PlainRequest → PlainRefusal → Type 0
IsRefusal s (new_network n d links) refusal = IsNewRefusal n d links refusal
IsRefusal s (order_pushes table wanted) refusal = (number : ℕ) × (nodes : List ℕ)
    × IsPushesRefused s table wanted number nodes
    × (refusal ≡ record { number = number; nodes = nodes; edit = None })
IsRefusal None request refusal = refusal ≡ bare_refusal 3
IsRefusal (Some s) (cut_link u v) refusal = IsEditRefusal (net_at s) (edit.Cut u v) refusal
IsRefusal (Some s) (add_link u v) refusal = IsEditRefusal (net_at s) (edit.Add u v) refusal
IsRefusal (Some s) (join_nodes u v) refusal = IsEditRefusal (net_at s) (edit.Join u v) refusal
IsRefusal (Some s) (make_edits edits) refusal = IsBatchRefusal (net_at s) edits refusal
IsRefusal (Some s) (move_dest d) refusal = (s.nodes ≤ d) × (refusal ≡ no_node d)
IsRefusal (Some s) (walk_from x) refusal = (s.nodes ≤ x) × (refusal ≡ no_node x)
IsRefusal (Some s) (ask question) refusal = ⊥
IsRefusal (Some s) (ask_node question x) refusal = (s.nodes ≤ x) × (refusal ≡ no_node x)
IsRefusal (Some s) (push_ways table) refusal = (number : ℕ) × (nodes : List ℕ)
    × AreWayPushesRefused s table number nodes
    × (refusal ≡ record { number = number; nodes = nodes; edit = None })

-- Answers

-- these numbers, each with its hop in the state. A number that is not a node is cut off
pub record AreChanges (s : State) (numbers : List ℕ) (changed : List (ℕ × Hop)) : Type 0 where
  pub these : map (λ (change : ℕ × Hop). change.0) changed ≡ numbers
  pub hops : AllByRecursion (λ (change : ℕ × Hop). IsHop s change.0 change.1) changed

-- how a report ends after the changed numbers, from the states before and after the round: with nothing more
abbrev pub EndsHere : Option State → State → List ℕ → Type 0
EndsHere s new end = end ≡ no_more_json

-- or with what to push to routers that hold all their ways
abbrev pub EndsWithWays : Option State → State → List ℕ → Type 0
EndsWithWays s new end = (shrink : List (ℕ × List ℕ)) × (grow : List (ℕ × List ℕ))
    × AreReplacedWays s new shrink grow × (end ≡ more_json shrink grow)

-- the report of the round that made the state `new`. `Lists` says which numbers have changed, in push order, and `Ends`
-- how the report ends after them
abbrev pub IsJsonReport : (List ℕ → Type 0) → (List ℕ → Type 0) → State → List ℕ → Type 0
IsJsonReport Lists Ends new text =
    (turned : ℕ) × (cut : ℕ) × (numbers : List ℕ) × (changed : List (ℕ × Hop)) × (end : List ℕ)
    × IsReport new turned cut × Lists numbers × AreChanges new numbers changed × Ends end
    × (text ≡ report_json turned cut changed end)

-- the hop of each node
abbrev pub IsJsonHops : State → List ℕ → Type 0
IsJsonHops s text = (hops : List Hop) × AreHops s s.nodes hops × (text ≡ hops_json hops)

-- the route from x, or that there is none
abbrev pub IsJsonWalk : State → ℕ → List ℕ → Type 0
IsJsonWalk s x text =
    ((rest : List ℕ) × IsRoute s.links s.dest x rest × (text ≡ walk_json (x ∷ rest)))
    ⊎ (IsCutOff s.dest s.links x × (text ≡ no_walk_json))

-- the ways of each node
abbrev pub IsJsonWays : State → List ℕ → Type 0
IsJsonWays s text = (table : List (List ℕ)) × AreAllWays s table × (text ≡ ways_json s.dest table)

-- the ways of x
abbrev pub IsJsonNodeWays : State → ℕ → List ℕ → Type 0
IsJsonNodeWays s x text = (list : List ℕ) × AreNodeWays s x list × (text ≡ node_ways_json (x == s.dest) list)

-- a route of the fewest links from x, or that there is none
abbrev pub IsJsonNearest : State → ℕ → List ℕ → Type 0
IsJsonNearest s x text =
    ((rest : List ℕ) × IsNearestRoute s x rest × (text ≡ nearest_json (x ∷ rest)))
    ⊎ (IsCutOff s.dest s.links x × (text ≡ no_nearest_json))

-- which numbers have a new hop after an accepted request, in push order
abbrev pub AreChanged : Option State → State → List ℕ → Type 0
AreChanged None new numbers = ⊥
AreChanged (Some s) new numbers = AreRerouted s new numbers

module _ (Ends : Option State → State → List ℕ → Type 0) where
  -- the answer to an accepted request, from the states before and after it. `Ends` says how reports end
  abbrev pub IsJsonText : Option State → PlainRequest → State → List ℕ → Type 0
  IsJsonText s (new_network n d links) new text = IsJsonReport (AreReplaced s new) (Ends s new) new text
  IsJsonText s (cut_link u v) new text = IsJsonReport (AreChanged s new) (Ends s new) new text
  IsJsonText s (add_link u v) new text = IsJsonReport (AreChanged s new) (Ends s new) new text
  IsJsonText s (join_nodes u v) new text = IsJsonReport (AreChanged s new) (Ends s new) new text
  IsJsonText s (make_edits edits) new text = IsJsonReport (AreChanged s new) (Ends s new) new text
  IsJsonText s (move_dest d) new text = IsJsonReport (AreChanged s new) (Ends s new) new text
  IsJsonText s (walk_from x) new text = IsJsonWalk new x text
  IsJsonText s (ask Links) new text = text ≡ links_json new.links
  IsJsonText s (ask Counts) new text = text ≡ counts_json new.counts
  IsJsonText s (ask Hops) new text = IsJsonHops new text
  IsJsonText s (ask Ways) new text = IsJsonWays new text
  IsJsonText s (ask_node node.Ways x) new text = IsJsonNodeWays new x text
  IsJsonText s (ask_node node.Nearest x) new text = IsJsonNearest new x text
  IsJsonText s (push_ways table) new text = IsPhasesText phases_json new table text
  IsJsonText s (order_pushes table wanted) new text = ⊥

  -- the answer to a request of the line with this number, and the state after it: refusals and pushes between tables do
  -- not change the state
  abbrev pub IsJsonAnswer : ℕ → Option State → PlainRequest → List ℕ → Option State → Type 0
  IsJsonAnswer line s request text next =
      ((refusal : PlainRefusal) × IsRefusal s request refusal × (text ≡ refusal_json refusal line) × (next ≡ s))
      ⊎ (((new : State) × IsAccepted s request new × IsJsonText s request new text × (next ≡ Some new))
      ⊎ ((pushes : List (ℕ × Hop)) × AreAsked s request pushes × (text ≡ pushes_json pushes) × (next ≡ s)))

  -- the answer to the line with this number, which was read with this result
  abbrev pub IsJsonLineAnswer : ℕ → Option State → Result PlainRequest LineFault → List ℕ → Option State → Type 0
  IsJsonLineAnswer line s (Ok request) text next = IsJsonAnswer line s request text next
  IsJsonLineAnswer line s (Err NotJson) text next = (text ≡ refusal_json (bare_refusal 1) line) × (next ≡ s)
  IsJsonLineAnswer line s (Err NotRequest) text next = (text ≡ refusal_json (bare_refusal 2) line) × (next ≡ s)
  IsJsonLineAnswer line s (Err LineMemory) text next = ⊥

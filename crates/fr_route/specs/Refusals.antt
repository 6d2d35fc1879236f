-- The numbers of refusals, which are this project's own (docs/LINES.md). For proofs only: the requests for changes, and
-- the refusals for the faults of a router.
use Rattle.std.specs.Prelude.{◌≡◌, ◌≤◌, ℕ, List, Option}
use Rattle.fr_graph.specs.Faults.{IsFaultless, IsFirstFault}
use Rattle.fr_requests.specs.Requests.{PlainRequest, cut_link, add_link, join_nodes, make_edits, move_dest}
use Rattle.fr_route.specs.Answers.{MayStartNew}
use Rattle.fr_graph.specs.Evidence.{NamesFirst}
use Rattle.fr_route.specs.Json.{PlainRefusal, refusal_for}
use Rattle.fr_route.specs.declared.refusals.Refusal.{Refusal}
use Rattle.fr_route.specs.declared.change.Change.{Change}
use Rattle.fr_route.specs.declared.change.Change.TheVariants.{Cut, Add, Join, Batch, Destination}
use Rattle.fr_route.specs.declared.fault.RouteFault.{RouteFault}
use Rattle.fr_route.specs.declared.fault.RouteFault.TheVariants.{Net, Range, Start, Memory}
use Rattle.fr_route.specs.declared.refusals.Reason.{Reason}
use Rattle.fr_route.specs.declared.refusals.Reason.TheVariants.{NotJson, NotRequest, NoNetwork, NoNode}
use Rattle.fr_route.specs.declared.refusals.Reason.TheVariants.{SelfLink, Twice, Cycle, NoLink, TooMany}

-- the number of a refusal in an answer
abbrev pub number_of : Reason → ℕ
number_of NotJson = 1
number_of NotRequest = 2
number_of NoNetwork = 3
number_of NoNode = 4
number_of SelfLink = 5
number_of Twice = 6
number_of Cycle = 7
number_of NoLink = 8
number_of TooMany = 9

-- the request for a change
abbrev pub request_of_change : Change → PlainRequest
request_of_change (Cut u v) = cut_link u v
request_of_change (Add u v) = add_link u v
request_of_change (Join u v) = join_nodes u v
request_of_change (Batch edits) = make_edits edits.items
request_of_change (Destination d) = move_dest d

-- why a network is refused: its links have a first fault, or the destination is not a node; or a thread or memory is
-- missing
abbrev pub IsNewFault : ℕ → ℕ → List (ℕ × ℕ) → RouteFault → Type 0
IsNewFault n d links (Net fault) = IsFirstFault n links fault × NamesFirst n links fault
IsNewFault n d links Range = IsFaultless n links × (n ≤ d)
IsNewFault n d links Start = MayStartNew n d links
IsNewFault n d links Memory = Unit {0}

-- The refusal for a fault. `named` are the nodes that no link joins, or the one that is not a node. A missing thread or
-- missing memory is not a refusal.
abbrev pub IsRefusalOf : RouteFault → List ℕ → Option ℕ → PlainRefusal → Type 0
IsRefusalOf (Net fault) named place refusal = refusal ≡ refusal_for fault named place
IsRefusalOf Range named place refusal = refusal ≡ record { number = 4; nodes = named; edit = place }
IsRefusalOf Start named place refusal = ⊥
IsRefusalOf Memory named place refusal = ⊥

-- a refusal without where its nodes lie in memory
abbrev pub plain_refusal : Refusal → PlainRefusal
plain_refusal refusal = record { number = number_of refusal.reason; nodes = refusal.nodes.now; edit = refusal.edit }

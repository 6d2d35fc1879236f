-- The results of the calls that begin a round, and why they are refused. The requests are those of the lines. This
-- project's own.
use Rattle.std.specs.Prelude.{◌≡◌, ℕ, ◌<◌, ◌≤◌, ◌⊎◌, List, [], ◌∷◌, length, map, position, slice_get}
use Rattle.std.specs.Prelude.{Bool, false, true, Option, Some, None}
use Rattle.fr_graph.specs.Batches.{IsRefusedAt}
use Rattle.fr_graph.specs.Evidence.{NamesFirst, NamesInBatch}
use Rattle.fr_graph.specs.Faults.{IsFaultless, IsFirstFault}
use Rattle.fr_graph.specs.Limits.{most_edits}
use Rattle.fr_graph.specs.Network.{Network}
use Rattle.fr_requests.specs.Requests.{PlainRequest}
use Rattle.fr_graph.specs.declared.fault.NetFault.{NetFault}
use Rattle.fr_graph.specs.declared.fault.NetFault.TheVariants.{TooMany, Range, SelfLink, Twice, Cycle, NoLink, Memory}
use Rattle.fr_route.specs.Answers.{IsAccepted, fault_number}
use Rattle.fr_route.specs.States.{State, IsReport, net_at}
use Rattle.fr_route.specs.Telling.{TellsOf}
use Rattle.fr_readers.specs.Published.{LeadsBetween}
use Rattle.fr_readers.specs.Publishing.{PublishesTo, PublishesWaysTo}
use Rattle.revroute_c.specs.SessionStates.{Held, published_of}
use Rattle.revroute_c.specs.Records.{AreKnown, edit_of, is_unknown}
use Rattle.revroute_c.specs.Statuses.{REVROUTE_ANSWERED, REVROUTE_REFUSED}
use Rattle.revroute_c.specs.declared.records.LinkEdit.{LinkEdit}
use Rattle.revroute_c.specs.declared.records.Refusal.{Refusal}
use Rattle.revroute_c.specs.declared.records.Round.{Round}

-- the result of a call that may begin a round: its status, and the caller's round and refusal before and after it
pub record RoundOutcome : Type 0 where
  pub status : ℕ
  pub round_before : Round
  pub round_after : Round
  pub refusal_before : Refusal
  pub refusal_after : Refusal

abbrev pub round_outcome : ℕ → Round → Round → Refusal → Refusal → RoundOutcome
round_outcome status round round' refusal refusal' = record {
  status = status;
  round_before = round;
  round_after = round';
  refusal_before = refusal;
  refusal_after = refusal';
}

-- The request is accepted. The session state then has the state after it and the nodes that it reroutes, and `round` is
-- the report of its round.
pub record IsNewRound (request : PlainRequest) (old new : Held) (round : Round) : Type 0 where
  pub after : State
  pub accepted : IsAccepted old.session request after
  pub new_is : new.session ≡ Some after
  pub tells : TellsOf old.session request after old.rerouted new.rerouted
  -- they are pushed to the readers, and the ways to readers of ways
  pub published : PublishesTo old.table (published_of new)
  pub ways : PublishesWaysTo old.ways (published_of new)
  pub report : IsReport after round.turned round.cut_off

-- a call makes the request, with one round after it, or refuses it for a reason; the session state changes from `old`
-- to `new`
pub record BeginsRound
    (request : PlainRequest) (IsRefused : Refusal → Type 0) (old new : Held) (o : RoundOutcome) : Type 0 where
  pub answered : o.status ≡ REVROUTE_ANSWERED → IsNewRound request old new o.round_after
  pub refused : o.status ≡ REVROUTE_REFUSED → IsRefused o.refusal_after
  pub unchanged : ¬ (o.status ≡ REVROUTE_ANSWERED) → (new ≡ old) × (o.round_after ≡ o.round_before)
  pub unrefused : ¬ (o.status ≡ REVROUTE_REFUSED) → o.refusal_after ≡ o.refusal_before
  -- the bytes of a line that has begun are unchanged
  pub begun : new.begun ≡ old.begun

-- what a call does to the pushes that the session keeps: if the caller asks for them and the change is made, they are
-- those of this change, and otherwise they are unchanged
abbrev pub KeepsPushes : Bool → ℕ → Held → Held → Type 0
KeepsPushes with_ways status old new =
    (with_ways ≡ true → status ≡ REVROUTE_ANSWERED → LeadsBetween old.session new.session new.pushes)
    × (with_ways ≡ false → new.pushes ≡ old.pushes)

-- the first step along a cycle
abbrev pub first_step : List ℕ → ℕ × ℕ
first_step [] = (0, 0)
first_step (u ∷ []) = (0, 0)
first_step (u ∷ v ∷ vs) = (u, v)

-- the nodes that a fault of links names: the number that is not a node, the node of a link to itself, or the two nodes
-- of a link
abbrev pub nodes_named : NetFault → ℕ × ℕ
nodes_named TooMany = (0, 0)
nodes_named (Range x) = (x, x)
nodes_named (SelfLink x) = (x, x)
nodes_named (Twice u v) = (u, v)
nodes_named (Cycle walk) = first_step walk.items
nodes_named NoLink = (0, 0)
nodes_named Memory = (0, 0)

-- the nodes that a fault of an edit names: those of the edit if there is no link, or if it would close a cycle
abbrev pub nodes_of_edit : LinkEdit → NetFault → ℕ × ℕ
nodes_of_edit e (Cycle walk) = (e.u, e.v)
nodes_of_edit e NoLink = (e.u, e.v)
nodes_of_edit e fault = nodes_named fault

-- the refusal for a fault at this place, with these nodes
abbrev pub refusal_at : ℕ → NetFault → ℕ × ℕ → Refusal
refusal_at at fault nodes = record { number = fault_number fault; u = nodes.0; v = nodes.1; at = at }

-- why a network is refused: its links have this first fault, with these nodes as evidence, or the destination is not a
-- node
abbrev pub IsNewFault : ℕ → ℕ → List (ℕ × ℕ) → NetFault → Type 0
IsNewFault n d links fault =
    (IsFirstFault n links fault × NamesFirst n links fault)
    ⊎ (IsFaultless n links × (n ≤ d) × (fault ≡ Range d))

-- the refusal of a network
abbrev pub IsNewRefused : ℕ → ℕ → List (ℕ × ℕ) → Refusal → Type 0
IsNewRefused n d links r =
    (fault : NetFault) × IsNewFault n d links fault × (r ≡ refusal_at 0 fault (nodes_named fault))

-- the refusal of the first edit that cannot be made
pub record IsEditRefused (net : Network) (edits : List LinkEdit) (r : Refusal) : Type 0 where
  pub at : ℕ
  pub fault : NetFault
  pub edit : LinkEdit
  pub refused : IsRefusedAt net (map edit_of edits) at fault
  -- the fault names exactly the nodes that are its evidence
  pub names : NamesInBatch net (map edit_of edits) (record { at = at; fault = fault })
  pub edit_is : slice_get edits at ≡ Some edit
  pub is : r ≡ refusal_at at fault (nodes_of_edit edit fault)

-- the refusal of edits of known kinds: there are more than the limit, and the place is the first one past it, or one of
-- them cannot be made
abbrev pub AreRefused : Network → List LinkEdit → Refusal → Type 0
AreRefused net edits r =
    ((most_edits < length edits) × (r ≡ refusal_at most_edits TooMany (0, 0)))
    ⊎ ((length edits ≤ most_edits) × IsEditRefused net edits r)

-- the refusal of the first edit with an unknown kind
abbrev pub IsUnknownRefused : List LinkEdit → Refusal → Type 0
IsUnknownRefused edits r = (at : ℕ) × (position is_unknown edits ≡ Some at)
    × (r ≡ record { number = 2; u = 0; v = 0; at = at })

-- the refusal of a change: an edit has an unknown kind, or the network of the session refuses one
abbrev pub IsChangeRefused : Option State → List LinkEdit → Refusal → Type 0
IsChangeRefused None edits r = IsUnknownRefused edits r
IsChangeRefused (Some s) edits r = IsUnknownRefused edits r ⊎ (AreKnown edits × AreRefused (net_at s) edits r)

-- the refusal of a destination that is not a node
abbrev pub IsMoveRefused : Option State → ℕ → Refusal → Type 0
IsMoveRefused None d r = ⊥
IsMoveRefused (Some s) d r = (s.nodes ≤ d) × (r ≡ refusal_at 0 (Range d) (d, d))

-- The results of calls on nodes. This project's own.
use Rattle.std.specs.Prelude.{Bool, IsTrue, List, None, Some, [], false, length, map, not, true, ℕ}
use Rattle.std.specs.Prelude.{◌++◌, ◌<◌, ◌≤◌, ◌==◌, ◌∷◌, ◌↔◌, ◌≡◌, ◌≢◌, ◌⊎◌, if◌then◌else◌}
use Rattle.std.specs.List.{list_any}
use Rattle.fr_node.specs.declared.message.Message.{Message}
use Rattle.fr_node.specs.declared.message.TheConstants.{CUT_OFF, MESSAGE_LENGTH}
use Rattle.fr_node.specs.declared.node.Node.{Node}
use Rattle.fr_node.specs.declared.node.TheConstants.{START_HEIGHTS}
use Rattle.fr_node.specs.declared.policy.Policy.{Policy}
use Rattle.fr_node.specs.declared.policy.Rise.TheVariants.{Full, Top}
use Rattle.fr_node.specs.declared.way.Way.{Way}
use Rattle.fr_node.specs.Bytes.{bytes_of}
use Rattle.fr_node.specs.Distances.{AreWays, IsDistance}
use Rattle.fr_node.specs.Events.{IsAfterEvent, IsNews, IsStarted, KnowsLaterStart, SaysMessage, gates_of}
use Rattle.fr_node.specs.Histories.{IsHistory}
use Rattle.fr_node.specs.Links.{Hears, IsKnown, IsTaken, SetsCost, SetsUp, after_tick, is_lost, link_to, unknown}
use Rattle.fr_node.specs.Nodes.{Steps, router}
use Rattle.fr_node.specs.Policies.{Acts}
use Rattle.fr_node.specs.Routers.{IsOpen, IsWay}
use Rattle.revroute_c.specs.declared.nodes.NodePolicy.{NodePolicy}
use Rattle.revroute_c.specs.NodeStates.{HeldNode}
use Rattle.revroute_c.specs.Replies.{IsWritten, Outcome}
use Rattle.revroute_c.specs.Statuses.{REVROUTE_ANSWERED, REVROUTE_LATER_START, REVROUTE_LINK_DOWN, REVROUTE_NO_MEMORY}
use Rattle.revroute_c.specs.Statuses.{REVROUTE_NO_MESSAGE, REVROUTE_NO_ROUTE, REVROUTE_OUTDATED, REVROUTE_REFUSED}
use Rattle.revroute_c.specs.Statuses.{REVROUTE_TOO_SHORT, REVROUTE_UNWRITTEN}

-- a call on a node: `Does` relates the node before and after it, and `none` holds if the handle is null
abbrev pub InNode : (Node → Node → Type 0) → Type 0 → HeldNode → HeldNode → Type 0
InNode Does none None None = none
InNode Does none None (Some j) = ⊥
InNode Does none (Some k) None = ⊥
InNode Does none (Some k) (Some j) = Does k j

-- a question about a node, which changes nothing
abbrev pub OfNode : (Node → Type 0) → Type 0 → HeldNode → Type 0
OfNode Is none None = none
OfNode Is none (Some k) = Is k

-- the kind of rise is not one of the two: 0 is `Full`, and 1 is `Top`
abbrev pub IsNoRise : NodePolicy → Type 0
IsNoRise p = 1 < p.rise

-- the policy that the struct of C names
abbrev pub policy_of : NodePolicy → Policy
policy_of p = record {
  rise = if p.rise == 0 then Full else Top p.ceiling;
  lower = not (p.lower == 0);
  wait = not (p.wait == 0);
}

-- the policy has an unknown kind of rise, or no router starts at this height
abbrev pub IsNoStart : ℕ → NodePolicy → Type 0
IsNoStart height p = IsNoRise p ⊎ (START_HEIGHTS ≤ height)

-- the handle holds a router that starts with this policy
pub record IsOpened (me boot height : ℕ) (policy : NodePolicy) (k : Node) : Type 0 where
  pub started : IsStarted me boot height k
  pub gateway : k.gateway ≡ false
  pub acts_by : k.policy ≡ policy_of policy

-- the handle holds a gateway that starts
pub record IsOpenedGateway (me boot : ℕ) (k : Node) : Type 0 where
  pub started : IsStarted me boot 0 k
  pub gateway : k.gateway ≡ true

-- all but the links is unchanged
abbrev pub KeepsAllButLinks : Node → Node → Type 0
KeepsAllButLinks k j = j ≡ record k { links = j.links }

-- the node is unchanged
pub record IsSame (k j : Node) : Type 0 where
  pub same : KeepsAllButLinks k j
  pub links : j.links.items ≡ k.links.items

-- a neighbour is made known, or the status says why not
pub record KnowsNeighbour (neighbour cost status : ℕ) (k j : Node) : Type 0 where
  pub refused : ((neighbour ≡ k.own.me) ⊎ (cost ≡ 0)) ↔ (status ≡ REVROUTE_REFUSED)
  pub known : IsKnown k.links.items neighbour → IsSame k j
  pub new : status ≡ REVROUTE_ANSWERED → ¬ IsKnown k.links.items neighbour
      → j.links.items ≡ k.links.items ++ record unknown { neighbour = neighbour; cost = cost } ∷ []
  pub same : KeepsAllButLinks k j
  pub unchanged : status ≢ REVROUTE_ANSWERED → IsSame k j
  pub step : Steps [] k j
  pub statuses : (status ≡ REVROUTE_ANSWERED) ⊎ (status ≡ REVROUTE_NO_MEMORY) ⊎ (status ≡ REVROUTE_REFUSED)

-- the link to a neighbour comes up or goes down
pub record TurnsLink (neighbour : ℕ) (up : Bool) (status : ℕ) (k j : Node) : Type 0 where
  pub set : SetsUp neighbour up k.links.items j.links.items
  pub after : IsAfterEvent [] k j
  pub statuses : status ≡ REVROUTE_ANSWERED

-- the link to a neighbour has another cost. The cost 0 is refused, and changes nothing
pub record SetsCostTo (neighbour cost status : ℕ) (k j : Node) : Type 0 where
  pub refused : (status ≡ REVROUTE_REFUSED) ↔ (cost ≡ 0)
  pub set : status ≡ REVROUTE_ANSWERED → SetsCost neighbour cost k.links.items j.links.items
  pub after : status ≡ REVROUTE_ANSWERED → IsAfterEvent [] k j
  pub kept : status ≡ REVROUTE_REFUSED → j ≡ k
  pub statuses : (status ≡ REVROUTE_ANSWERED) ⊎ (status ≡ REVROUTE_REFUSED)

-- a tick passes on all links. 1: for one of them it ends that the link counts as up, which is an event. 0: no event
pub record TicksOnce (patience flag : ℕ) (k j : Node) : Type 0 where
  pub links : j.links.items ≡ map (after_tick patience) k.links.items
  pub lost : (flag ≡ 1) ↔ IsTrue (list_any (is_lost patience) k.links.items)
  pub after : flag ≡ 1 → IsAfterEvent [] k j
  pub kept : flag ≡ 0 → KeepsAllButLinks k j
  pub flags : (flag ≡ 0) ⊎ (flag ≡ 1)

-- the policy acts once more. 1: that has changed something, and is an event. 0: nothing has changed
pub record ActsAgain (flag : ℕ) (k j : Node) : Type 0 where
  pub policy : Acts k j.own
  pub links : j.links ≡ k.links
  pub changed : (flag ≡ 1) ↔ (j.own ≢ k.own)
  pub after : flag ≡ 1 → IsAfterEvent [] k j
  pub kept : flag ≡ 0 → j ≡ k
  pub flags : (flag ≡ 0) ⊎ (flag ≡ 1)

-- the message m is heard, or its sender knows a later start of the router, and nothing changes. A message that is not
-- taken changes nothing either
pub record HearsMessage (m : Message) (status : ℕ) (k j : Node) : Type 0 where
  pub heard : status ≡ REVROUTE_ANSWERED → Hears k.own m k.links.items j.links.items × ¬ KnowsLaterStart k m
  pub after : status ≡ REVROUTE_ANSWERED → IsTaken k.own m k.links.items → IsAfterEvent (m ∷ []) k j
  pub ignored : ¬ IsTaken k.own m k.links.items → j ≡ k
  pub later : status ≡ REVROUTE_LATER_START → KnowsLaterStart k m × (j ≡ k)
  pub statuses : (status ≡ REVROUTE_ANSWERED) ⊎ (status ≡ REVROUTE_LATER_START)

-- the message with these bytes is heard, as above. Bytes that are not a message change nothing
pub record HearsBytes (bytes : List ℕ) (status : ℕ) (k j : Node) : Type 0 where
  pub message : status ≢ REVROUTE_NO_MESSAGE → (m : Message) × (bytes_of m ≡ bytes) × HearsMessage m status k j
  pub noise : status ≡ REVROUTE_NO_MESSAGE → ((m : Message) → bytes_of m ≢ bytes) × (j ≡ k)

-- the caller says that the ways and gates with this number are written. An event may have come after them
pub record ConfirmsWritten (state status : ℕ) (k j : Node) : Type 0 where
  pub written : status ≡ REVROUTE_ANSWERED → (state ≡ k.events) × (j ≡ record k { is_written = true })
  pub outdated : status ≡ REVROUTE_OUTDATED → (state ≢ k.events) × (j ≡ k)
  pub statuses : (status ≡ REVROUTE_ANSWERED) ⊎ (status ≡ REVROUTE_OUTDATED)

-- the message is said, and its bytes are at the front of the place. Its stamp is the last one
abbrev pub IsSaid : ℕ → Node → Node → Outcome ℕ → Type 0
IsSaid neighbour k j o = (m : Message) × SaysMessage neighbour k j m × IsWritten (bytes_of m) o.before o.after
    × (j.stamp ≡ m.stamp)

-- a message for the neighbour, or the status says why there is none
pub record SaysBytesTo (neighbour : ℕ) (o : Outcome ℕ) (k j : Node) : Type 0 where
  pub said : o.status ≡ REVROUTE_ANSWERED → IsSaid neighbour k j o × IsTrue (link_to k.links.items neighbour).carrier
  pub same : j ≡ record k { links = j.links; stamp = j.stamp }
  pub step : Steps [] k j
  -- before the ways and gates are written, nothing is said
  pub unwritten : (o.status ≡ REVROUTE_UNWRITTEN) ↔ (k.is_written ≡ false)
  pub too_short : (o.status ≡ REVROUTE_TOO_SHORT) ↔ ((k.is_written ≡ true) × (length o.before < MESSAGE_LENGTH))
  pub down : o.status ≡ REVROUTE_LINK_DOWN → ¬ IsTrue (link_to k.links.items neighbour).carrier
  pub unchanged : o.status ≢ REVROUTE_ANSWERED → IsSame k j × (o.after ≡ o.before)
  pub size : (o.status ≡ REVROUTE_ANSWERED) ⊎ (o.status ≡ REVROUTE_TOO_SHORT) → o.size ≡ MESSAGE_LENGTH
  pub none : (o.status ≡ REVROUTE_UNWRITTEN) ⊎ (o.status ≡ REVROUTE_LINK_DOWN) → o.size ≡ 0
  pub status : (o.status ≡ REVROUTE_ANSWERED) ⊎ (o.status ≡ REVROUTE_TOO_SHORT) ⊎ (o.status ≡ REVROUTE_UNWRITTEN)
      ⊎ (o.status ≡ REVROUTE_LINK_DOWN)

-- 1 if the flag is set, and 0 otherwise
abbrev pub number_of_flag : Bool → ℕ
number_of_flag true = 1
number_of_flag false = 0

-- whether there is news for the neighbour, once the ways and gates are written. 1: yes
pub record TellsNews (neighbour status old new : ℕ) (k : Node) : Type 0 where
  pub news : status ≡ REVROUTE_ANSWERED → (news : Bool) × IsNews neighbour k news × (new ≡ number_of_flag news)
  pub unwritten : (status ≡ REVROUTE_UNWRITTEN) ↔ (k.is_written ≡ false)
  pub unchanged : status ≢ REVROUTE_ANSWERED → new ≡ old
  pub statuses : (status ≡ REVROUTE_ANSWERED) ⊎ (status ≡ REVROUTE_UNWRITTEN)

-- the neighbours of these ways, in their order
abbrev pub neighbours_of : List Way → List ℕ
neighbours_of ws = map (λ w. w.neighbour) ws

-- the neighbours to which the node may send packets, nearest first
abbrev pub AreNeighbours : Node → List ℕ → Type 0
AreNeighbours n list = (ws : List Way) × AreWays n ws × (list ≡ neighbours_of ws)

abbrev pub AreWaysOf : HeldNode → List ℕ → Type 0
AreWaysOf None list = ⊥
AreWaysOf (Some k) list = AreNeighbours k list

-- the neighbours that are let in
abbrev pub AreGatesOf : HeldNode → List ℕ → Type 0
AreGatesOf None list = ⊥
AreGatesOf (Some k) list = list ≡ gates_of k

-- the number of the ways and gates. A null handle has none
abbrev pub IsStateOf : HeldNode → ℕ → ℕ → Type 0
IsStateOf None old new = new ≡ old
IsStateOf (Some k) old new = new ≡ k.events

-- the distance, if the node has one
pub record TellsNodeDistance (status old new : ℕ) (k : Node) : Type 0 where
  pub near : status ≡ REVROUTE_ANSWERED → IsDistance k new × (new ≢ CUT_OFF)
  pub far : status ≡ REVROUTE_NO_ROUTE → IsDistance k CUT_OFF × (new ≡ old)
  pub statuses : (status ≡ REVROUTE_ANSWERED) ⊎ (status ≡ REVROUTE_NO_ROUTE)

-- if packets from a neighbour are let in, its gate may be open by the law, whatever the node had announced
abbrev pub IsSafeGate : ℕ → ℕ → Node → Type 0
IsSafeGate neighbour flag k = flag ≡ 1 → (h : ℕ → ℕ) → IsHistory k.own h → IsOpen (router k h) neighbour

-- if packets may be sent to a neighbour, it is a way by the law
abbrev pub IsSafeWay : ℕ → ℕ → Node → Type 0
IsSafeWay neighbour flag k = flag ≡ 1 → (h : ℕ → ℕ) → IsWay (router k h) k.own.me neighbour

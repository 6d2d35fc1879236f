-- What a node is at its start, after an event, and when it says a message. The definitions are this project's own.
use Rattle.std.specs.Prelude.{Bool, IfSome, IsTrue, IsSome, List, MatchOption, Option, Some, [], false, filter, map, min, true, ℕ}
use Rattle.std.specs.Prelude.{◌%◌, ◌&&◌, ◌+◌, ◌-◌, ◌<◌, ◌^◌, ◌||◌, ◌↔◌, ◌≡◌, ◌≢◌}
use Rattle.fr_node.specs.declared.link.Link.{Link}
use Rattle.fr_node.specs.declared.message.Message.{Message}
use Rattle.fr_node.specs.declared.node.Node.{Node}
use Rattle.fr_node.specs.Histories.{IsHistory}
use Rattle.fr_node.specs.Links.{IsKnown, Says, has_answered, link_to}
use Rattle.fr_node.specs.Nodes.{IsMessageTo, Steps, router}
use Rattle.fr_node.specs.Policies.{Acts}
use Rattle.fr_node.specs.Routers.{IsSaidBy, Restarts, Router}

-- a node that starts, at this height. By the law it is a restart, whatever it was before. Its table is empty
pub record IsStarted (me boot height : ℕ) (n : Node) : Type 0 where
  pub who : (n.own.me ≡ me) × (n.own.boot ≡ boot)
  pub used : n.own.used ≡ height
  pub links : n.links.items ≡ []
  pub announced : IsHistory n.own (λ _. height)
  pub restart : (r : Router) → r.boot < boot → Restarts r (router n (λ _. height))
  pub written : n.is_written ≡ true

-- after an event the height may have changed by the policy. The ways and gates have another number, and are not written
pub record IsAfterEvent (pool : List Message) (old new : Node) : Type 0 where
  pub same : (new.gateway ≡ old.gateway) × (new.policy ≡ old.policy)
  pub policy : Acts (record old { links = new.links }) new.own
  pub step : Steps pool old new
  pub events : new.events ≡ (old.events + 1) % 2 ^ 64
  pub unwritten : new.is_written ≡ false

-- the message is for the node, and its sender, a known neighbour, knows a later start of the node
pub record KnowsLaterStart (n : Node) (m : Message) : Type 0 where
  pub to : m.to ≡ n.own.me
  pub from : IsKnown n.links.items m.from
  pub later : n.own.boot < m.echo

-- the message without its stamp
abbrev pub unstamped : Message → Message
unstamped m = record m { stamp = 0 }

-- the message m has been said to w. It is what the node says, with the next stamp, and true whatever it had announced
pub record SaysMessage (w : ℕ) (old new : Node) (m : Message) : Type 0 where
  pub content : IsMessageTo old w m
  pub stamp : m.stamp ≡ min (old.stamp + 1) (2 ^ 64 - 1)
  pub said : Says w (unstamped m) old.links.items new.links.items
  pub safe : (h : ℕ → ℕ) → IsHistory old.own h → IsSaidBy (router old h) m

-- a message has been said to w, if the link to it has a carrier. Nothing else changes
pub record SaysTo (w : ℕ) (old new : Node) (said : Option Message) : Type 0 where
  pub carrier : IsSome said ↔ IsTrue (link_to old.links.items w).carrier
  pub message : IfSome said (SaysMessage w old new)
  pub none : MatchOption said (new ≡ old) (λ m. new ≡ record old { links = new.links; stamp = m.stamp })
  pub step : Steps [] old new

-- whether the message for w differs from the last one that was said to it, by more than its stamp. If the link has no
-- carrier, there is no news
pub record IsNews (w : ℕ) (n : Node) (news : Bool) : Type 0 where
  pub down : ¬ IsTrue (link_to n.links.items w).carrier → ¬ IsTrue news
  pub up : IsTrue (link_to n.links.items w).carrier
      → (m : Message) × IsMessageTo n w m × (IsTrue news ↔ ((link_to n.links.items w).said ≢ Some (unstamped m)))

-- packets that come over the link are let in: it counts as up, and the node is a gateway, or the neighbour has
-- acknowledged enough
abbrev pub is_gate : Node → Link → Bool
is_gate n l = l.up && (n.gateway || has_answered n.own l)

-- the neighbours that are let in, in the order in which they were made known
abbrev pub gates_of : Node → List ℕ
gates_of n = map (λ l. l.neighbour) (filter (is_gate n) n.links.items)

-- Routers without a controller as full reversal. A router that finds no lower neighbour takes a height above all
-- neighbours, as in E. Gafni and D. Bertsekas, "Distributed Algorithms for Generating Loop-Free Routes in Networks with
-- Frequently Changing Topology" (1981). There each node knows the heights of its neighbours; here a router acts on what
-- it has heard, perhaps long ago. The laws are this project's own: in a network that stays as it is, the announcements
-- are a run of full reversal nevertheless.
use Rattle.std.specs.Prelude.{◌≡◌, ◌≢◌, ℕ, ◌-◌, ◌*◌, ◌<◌, ◌≤◌, ◌⊎◌, ◌↔◌, ◌==◌, if◌then◌else◌, IsTrue, List, [], ◌++◌}
use Rattle.std.specs.Prelude.{◌∷◌, Bool, Contains, Option}
use Rattle.std.specs.Prelude.{false, length, map, replicate, slice_index, sum, true}
use Rattle.std.specs.Global.{Global}
use Rattle.std.specs.List.{list_any, slice_index_or}
use Rattle.fr_graph.specs.Links.{HasPath, Joins, Points}
use Rattle.fr_core.specs.History.{links_after, moment_of, turn_count_of}
use Rattle.fr_core.specs.Legal.{IsRun}
use Rattle.fr_core.specs.Settled.{AreSettled}
use Rattle.fr_core.specs.Work.{IsConnectedNet}
use Rattle.fr_core.specs.declared.entry.Entry.{Entry}
use Rattle.fr_core.specs.declared.entry.Reply.TheVariants.{Turned}
use Rattle.fr_node.specs.Arrivals.{IsLinkedTo, IsQuiet}
use Rattle.fr_node.specs.Events.{IsAfterEvent, SaysTo}
use Rattle.fr_node.specs.Histories.{IsHistory}
use Rattle.fr_node.specs.Links.{Hears, IsKnown, IsTaken, Says, SetsUp, after_tick, is_lost, link_to, place_of, unknown}
use Rattle.fr_node.specs.Nodes.{IsMessageTo, Steps}
use Rattle.fr_node.specs.Policies.{Acts}
use Rattle.fr_node.specs.Routers.{IsBelow}
use Rattle.fr_node.specs.declared.link.Link.{Link}
use Rattle.fr_node.specs.declared.message.Message.{Message}
use Rattle.fr_node.specs.declared.node.Node.{Node}
use Rattle.fr_node.specs.declared.policy.Rise.TheVariants.{Full}

-- Networks of nodes

-- the node of each router, and the messages that may still arrive; in the literature a configuration
pub record Configuration : Type 0 where
  pub node : ℕ → Node
  pub pool : List Message

-- the last height that router x has announced
abbrev pub height : (ℕ → Node) → ℕ → ℕ
height node x = (node x).own.announced

-- router w is lower than x: heights are compared with the numbers of their routers
abbrev pub IsLower : (ℕ → Node) → ℕ → ℕ → Type 0
IsLower node w x = IsBelow (height node w) w (height node x) x

-- the links of routers 0 to n - 1: those that are up, each from its higher to its lower end
pub record AreLinks (n : ℕ) (node : ℕ → Node) (links : List (ℕ × ℕ)) : Type 0 where
  pub up : (x w : ℕ) → x < n → IsLinkedTo (node x) w ↔ Joins links x w
  pub down : (x w : ℕ) → Points links x w → IsLower node w x

-- no neighbour is listed twice: each link is the first one to its neighbour
abbrev pub AreListedOnce : List Link → Type 0
AreListedOnce ls = (i : ℕ) → i < length ls → place_of ls (slice_index_or ls i unknown).neighbour ≡ i

-- the node is router x, and acts by full reversal unless it is the one gateway d, which uses the height that it has
-- announced
pub record IsRouter (d x : ℕ) (node : Node) : Type 0 where
  pub me : node.own.me ≡ x
  pub once : AreListedOnce node.links.items
  pub announced : (h : ℕ → ℕ) × IsHistory node.own h
  pub gateway : IsTrue node.gateway ↔ (x ≡ d)
  pub used : x ≡ d → node.own.used ≡ node.own.announced
  pub full : x ≢ d → (node.policy.rise ≡ Full) × (node.policy.lower ≡ false)

-- router x may hear that w has height h: it is the last height that w announced, or one by which x is no sink
abbrev pub MayHear : (ℕ → Node) → ℕ → ℕ → ℕ → Type 0
MayHear node x w h = (h ≡ height node w) ⊎ IsBelow h w (height node x) x

-- the node would take what the message says of its sender: the message is of no earlier start of the sender than the
-- one that the node knows, and for the present start of the node, and the node has heard of no later announcement
pub record IsNews (node : Node) (m : Message) : Type 0 where
  pub start : (link_to node.links.items m.from).peer ≤ m.boot
  pub echo : m.echo ≡ node.own.boot
  pub later : (link_to node.links.items m.from).peer ≡ m.boot → (link_to node.links.items m.from).heard ≤ m.number

-- the configuration is one of routers 0 to n - 1 with these links and the gateway d, and no router has heard, or may
-- still hear, a height that misleads it. Before anything is said and heard, the last two fields ask for nothing
pub record IsNetwork (n d : ℕ) (links : List (ℕ × ℕ)) (s : Configuration) : Type 0 where
  pub router : (x : ℕ) → x < n → IsRouter d x (s.node x)
  pub linked : AreLinks n s.node links
  pub heard : (x : ℕ) (l : Link) → x < n → Contains (s.node x).links.items l → l.up ≡ true → 0 < l.heard
      → MayHear s.node x l.neighbour l.seen
  pub said : (m : Message) → Contains s.pool m → m.to < n → IsLinkedTo (s.node m.to) m.from
      → IsNews (s.node m.to) m → MayHear s.node m.to m.from m.height

-- What happens in a network that stays as it is

-- one call of a node that hears these messages, or none. No link goes up or down, and the node does not restart. It
-- acts by its policy, or nothing changes that it knows of itself
pub record IsCall (messages : List Message) (old new : Node) : Type 0 where
  pub same : (new.gateway ≡ old.gateway) × (new.policy ≡ old.policy)
  pub once : AreListedOnce old.links.items → AreListedOnce new.links.items
  pub up : (w : ℕ) → (link_to new.links.items w).up ≡ (link_to old.links.items w).up
  pub step : Steps messages old new
  pub acts : Acts (record old { links = new.links }) new.own ⊎ (new.own ≡ old.own)

-- router x makes a call, in which it hears messages of the pool. They may stay in the pool, and so be heard again. Any
-- messages of the pool may be lost, and any router may say what it has to say
pub record IsStep (x : ℕ) (s t : Configuration) : Type 0 where
  pub messages : List Message
  pub sent : (m : Message) → Contains messages m → Contains s.pool m
  pub call : IsCall messages (s.node x) (t.node x)
  pub others : (y : ℕ) → y ≢ x → t.node y ≡ s.node y
  pub said : (m : Message) → Contains t.pool m → Contains s.pool m ⊎ IsMessageTo (s.node m.from) m.to m

-- steps, one after the other: the router of each one, and the configuration after it
abbrev pub AreSteps : ℕ → Configuration → List (ℕ × Configuration) → Type 0
AreSteps n s [] = Unit {0}
AreSteps n s (p ∷ ps) = (p.0 < n) × IsStep p.0 s p.1 × AreSteps n p.1 ps

abbrev pub last : Configuration → List (ℕ × Configuration) → Configuration
last s [] = s
last s (p ∷ ps) = last p.1 ps

-- how often router x announces a height from one configuration to a later one
abbrev pub times : Configuration → Configuration → ℕ → ℕ
times s t x = (t.node x).own.number - (s.node x).own.number

-- the announcements in these steps, in order, each as a turn of its router. `s` is the configuration at the first step
-- and `begin` the one from which the announcements of a router are counted
abbrev pub announcements : Configuration → Configuration → List (ℕ × Configuration) → List Entry
announcements begin s [] = []
announcements begin s (p ∷ ps) =
    if (p.1.node p.0).own.number == (s.node p.0).own.number then announcements begin p.1 ps
    else record { worker = p.0; node = p.0; reply = Turned (times begin p.1 p.0) } ∷ announcements begin p.1 ps

-- The laws

-- The announcements are a run of full reversal, whatever messages are lost, delayed, repeated and overtaken, if no
-- link goes up or down, no router restarts, each router is connected to the one gateway, and none lowers its height.
-- At the start no router holds, or can still hear, an outdated height that misleads it, as before routers have heard
-- anything.
abbrev pub AnnouncementsAreARun : Type 0
AnnouncementsAreARun = (n d : ℕ) (first : List (ℕ × ℕ)) (s : Configuration) (ps : List (ℕ × Configuration))
    → IsConnectedNet n d first → IsNetwork n d first s → AreSteps n s ps
    → IsRun n d (moment_of first (replicate n 0)) (announcements s s ps)

-- The links after this run are those from higher to lower routers at the end, and all that `IsNetwork` says still
-- holds.
abbrev pub HeightsFollowTheRun : Type 0
HeightsFollowTheRun = (n d : ℕ) (first : List (ℕ × ℕ)) (s : Configuration) (ps : List (ℕ × Configuration))
    → IsConnectedNet n d first → IsNetwork n d first s → AreSteps n s ps
    → IsNetwork n d (links_after first (announcements s s ps)) (last s ps)

-- The turns of a router in this run are its announcements.
abbrev pub TurnsAreAnnouncements : Type 0
TurnsAreAnnouncements = (n d : ℕ) (first : List (ℕ × ℕ)) (s : Configuration) (ps : List (ℕ × Configuration)) (x : ℕ)
    → IsConnectedNet n d first → IsNetwork n d first s → AreSteps n s ps → x < n
    → turn_count_of x (announcements s s ps) ≡ times s (last s ps) x

-- A router announces at most as many heights as its settled count says, and none if it has a path to the gateway.
abbrev pub EachAnnouncesFew : Type 0
EachAnnouncesFew = (n d : ℕ) (first : List (ℕ × ℕ)) (settled : List ℕ) (s : Configuration)
    (ps : List (ℕ × Configuration)) (x : ℕ) → IsConnectedNet n d first → AreSettled n d first settled
    → IsNetwork n d first s → AreSteps n s ps → x < n
    → (times s (last s ps) x ≤ slice_index settled x) × (HasPath first x d → times s (last s ps) x ≡ 0)

-- All routers together announce at most as many heights as the sum of the settled counts, and so at most n * (n - 1)
-- / 2.
abbrev pub AllAnnounceFew : Type 0
AllAnnounceFew = (n d : ℕ) (first : List (ℕ × ℕ)) (settled : List ℕ) (s : Configuration)
    (ps : List (ℕ × Configuration)) → IsConnectedNet n d first → AreSettled n d first settled
    → IsNetwork n d first s → AreSteps n s ps
    → (length (announcements s s ps) ≤ sum settled) × (2 * length (announcements s s ps) ≤ n * (n - 1))

-- Once all messages have arrived and no router raises its height, each router has announced as many heights as its
-- settled count says.
abbrev pub QuietRoutersAreSettled : Type 0
QuietRoutersAreSettled = (n d : ℕ) (first : List (ℕ × ℕ)) (settled : List ℕ) (s : Configuration)
    (ps : List (ℕ × Configuration)) (x : ℕ) → IsConnectedNet n d first → AreSettled n d first settled
    → IsNetwork n d first s → AreSteps n s ps → IsQuiet n (last s ps).node → x < n
    → times s (last s ps) x ≡ slice_index settled x

-- These premises can be met: by two routers that have said nothing, with numbers of starts greater than 0. One of
-- them announces a height. Then each has acknowledged the other's last announcement, and nothing more happens.
abbrev pub SomeRouterAnnounces : Type 0
SomeRouterAnnounces = (alloc : Global) → (n d : ℕ) × (first : List (ℕ × ℕ)) × (s : Configuration)
    × (ps : List (ℕ × Configuration)) × IsConnectedNet n d first × IsNetwork n d first s × AreSteps n s ps
    × (s.pool ≡ []) × ((x : ℕ) → 0 < (s.node x).own.boot) × (length (announcements s s ps) ≡ 1)
    × IsQuiet n (last s ps).node

-- The running code: by what each call of a node ensures, it is a call of these laws while no link goes up or down

-- the link to w counts as up exactly if the caller has said that it is up
abbrev pub IsAsSaid : Node → ℕ → Type 0
IsAsSaid n w = (link_to n.links.items w).up ≡ (link_to n.links.items w).carrier

-- node n has become k by a call that loses no link: one that keeps all links, `say`, `know`, a `tick` that ends for no
-- link that it counts as up, `hear`, `link_up` or `link_down`
abbrev pub IsCallWithoutLoss : Node → Node → Type 0
IsCallWithoutLoss n k = (k.links.items ≡ n.links.items)
    ⊎ ((v : ℕ) × (m : Message) × Says v m n.links.items k.links.items)
    ⊎ ((v cost : ℕ) × (¬ IsKnown n.links.items v)
    × (k.links.items ≡ n.links.items ++ record unknown { neighbour = v; cost = cost } ∷ []))
    ⊎ ((patience : ℕ) × (k.links.items ≡ map (after_tick patience) n.links.items)
    × (list_any (is_lost patience) n.links.items ≡ false))
    ⊎ ((m : Message) × Hears n.own m n.links.items k.links.items)
    ⊎ ((v : ℕ) × (up : Bool) × SetsUp v up n.links.items k.links.items)

-- Each link is so until a tick loses one, whatever is called. A node that starts has no links.
abbrev pub LinksStayAsSaid : Type 0
LinksStayAsSaid = (n k : Node) (w : ℕ) → IsCallWithoutLoss n k → IsAsSaid n w → IsAsSaid k w

-- `hear` is such a call over a link that counts as up exactly if the caller has said that it is up. If the node does
-- not take the message, nothing changes.
abbrev pub HearingIsACall : Type 0
HearingIsACall = (m : Message) (old new : Node) → IsAsSaid old m.from
    → Hears old.own m old.links.items new.links.items
    → (IsTaken old.own m old.links.items → IsAfterEvent (m ∷ []) old new)
    → (¬ IsTaken old.own m old.links.items → new ≡ old) → IsCall (m ∷ []) old new

-- `tick` is such a call if it ends for no link that it counts as up.
abbrev pub TickingIsACall : Type 0
TickingIsACall = (patience : ℕ) (old new : Node) → new.links.items ≡ map (after_tick patience) old.links.items
    → list_any (is_lost patience) old.links.items ≡ false → new ≡ record old { links = new.links }
    → IsCall [] old new

-- `act` is such a call, whether it changes something or nothing.
abbrev pub ActingIsACall : Type 0
ActingIsACall = (changed : Bool) (old new : Node) → new.links ≡ old.links
    → (IsTrue changed → IsAfterEvent [] old new) → (¬ IsTrue changed → new ≡ old) → IsCall [] old new

-- `link_up` is such a call for a link that is up already, and `link_down` for one that is down. Both are for a router
-- that is not known.
abbrev pub RepeatingIsACall : Type 0
RepeatingIsACall = (w : ℕ) (up : Bool) (old new : Node)
    → (IsKnown old.links.items w → up ≡ (link_to old.links.items w).up)
    → SetsUp w up old.links.items new.links.items → IsAfterEvent [] old new → IsCall [] old new

-- `written` is such a call, which changes only whether the table is written.
abbrev pub WritingIsACall : Type 0
WritingIsACall = (old new : Node) → new ≡ record old { is_written = true } → IsCall [] old new

-- `say` is such a call, whether it says a message or nothing.
abbrev pub SayingIsACall : Type 0
SayingIsACall = (w : ℕ) (said : Option Message) (old new : Node) → SaysTo w old new said → IsCall [] old new

-- `know` is such a call, whether it makes a neighbour known or not.
abbrev pub KnowingIsACall : Type 0
KnowingIsACall = (w cost : ℕ) (old new : Node)
    → (new.links.items ≡ old.links.items) ⊎ ((¬ IsKnown old.links.items w)
    × (new.links.items ≡ old.links.items ++ record unknown { neighbour = w; cost = cost } ∷ []))
    → new ≡ record old { links = new.links } → Steps [] old new → IsCall [] old new

-- Daemons, each of which calls the node of one router and writes its forwarding table. A call is here what its contract
-- ensures. The definitions are this project's own.
use Rattle.std.specs.Prelude.{List, [], map, ◌++◌, ◌∷◌, ◌<◌, ◌≡◌, ◌⊎◌, true, ℕ}
use Rattle.std.specs.List.{Contains}
use Rattle.fr_node.specs.declared.message.Message.{Message}
use Rattle.fr_node.specs.declared.node.Node.{Node}
use Rattle.fr_node.specs.Histories.{IsHistory}
use Rattle.fr_node.specs.Links.{Says, after_tick, unknown}
use Rattle.fr_node.specs.Nodes.{IsMessageTo, Steps, lets_in, sends_to}
use Rattle.fr_node.specs.Tables.{Forwarder, HasAnotherState, HasNoTableLoop, IsPlaneRun, IsSilent, Plane, Writes}
use Rattle.fr_node.specs.Tables.{last_plane}

-- a node that starts knows no neighbours, and can have announced something
pub record IsFresh (n : Node) : Type 0 where
  pub links : n.links.items ≡ []
  pub announced : (h : ℕ → ℕ) × IsHistory n.own h

-- an event: `link_up`, `link_down` or `set_cost`, a `tick` or an `act` that changes something, or `hear` of a message
-- that was sent
pub record HasEvent (pool : List Message) (d e : Forwarder Node) : Type 0 where
  pub messages : List Message
  pub sent : (m : Message) → Contains messages m → Contains pool m
  pub step : Steps messages d.state e.state
  pub table : HasAnotherState d e

-- the daemon of router y starts anew, with a greater number of its start. It finds the table as it is
pub record StartsAnew (y : ℕ) (d e : Forwarder Node) : Type 0 where
  pub me : e.state.own.me ≡ y
  pub boot : d.state.own.boot < e.state.own.boot
  pub fresh : IsFresh e.state
  pub table : HasAnotherState d e

-- the links of a node after `say`, `know` or `tick`, or unchanged
abbrev pub KeepsLinks : Node → Node → Type 0
KeepsLinks n k = (k.links.items ≡ n.links.items)
    ⊎ ((w : ℕ) × (m : Message) × Says w m n.links.items k.links.items)
    ⊎ ((w cost : ℕ) × (k.links.items ≡ n.links.items ++ record unknown { neighbour = w; cost = cost } ∷ []))
    ⊎ ((patience : ℕ) × (k.links.items ≡ map (after_tick patience) n.links.items))

-- `say`, `know` or `written`, a `tick` that is no event, or a call that changes nothing: they change no ways and no
-- gates
pub record IsCalled (d e : Forwarder Node) : Type 0 where
  pub links : KeepsLinks d.state e.state
  pub node : e.state ≡ record d.state {
    links = e.state.links;
    is_written = e.state.is_written;
    stamp = e.state.stamp;
  }
  pub table : e ≡ record d { state = e.state; since = e.state ∷ d.since }

-- what the daemon of router y may do at one step. It writes by what `sends_to` and `lets_in` say
abbrev pub Does : List Message → ℕ → Forwarder Node → Forwarder Node → Type 0
Does pool y d e = HasEvent pool d e ⊎ StartsAnew y d e ⊎ IsCalled d e
    ⊎ Writes (λ n w. sends_to n w ≡ true) (λ n w. lets_in n w ≡ true) d e

-- one step: each daemon does something, and each new message is what `say` returned to a daemon whose table was
-- confirmed. The network may lose messages, delay, repeat and reorder them
pub record IsDaemonStep (s t : Plane Node) : Type 0 where
  pub does : (y : ℕ) → Does s.pool y (s.forwarder y) (t.forwarder y)
  pub kept : (m : Message) → Contains s.pool m → Contains t.pool m
  pub new : (m : Message) → Contains t.pool m → Contains s.pool m
      ⊎ (((s.forwarder m.from).confirmed ≡ true) × IsMessageTo (s.forwarder m.from).state m.to m)

-- nothing has been said, all tables are empty, and all nodes start, each with the number of its router
pub record IsDaemonStart (s : Plane Node) : Type 0 where
  pub silent : IsSilent s
  pub me : (y : ℕ) → (s.forwarder y).state.own.me ≡ y
  pub fresh : (y : ℕ) → IsFresh (s.forwarder y).state

-- The same holds of daemons whose routers are nodes. Each of their steps is by the contract of a call, or a step of
-- writing by `sends_to` and `lets_in`.
abbrev pub DaemonsHaveNoLoop : Type 0
DaemonsHaveNoLoop = (s : Plane Node) (ts : List (Plane Node)) → IsDaemonStart s → IsPlaneRun IsDaemonStep s ts
    → HasNoTableLoop (last_plane s ts)

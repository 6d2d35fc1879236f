-- Forwarding tables of routers. A table is not the state of its router: while messages arrive, it is written late, in
-- part and in steps, and a process that starts finds the table of an earlier one. Packets meet only the tables. The
-- definitions are this project's own.
use Rattle.std.specs.Prelude.{Bool, List, [], ◌∷◌, ◌<◌, ◌≡◌, ◌⊎◌, false, true, ℕ}
use Rattle.std.specs.List.{Contains}
use Rattle.fr_node.specs.declared.message.Message.{Message}
use Rattle.fr_node.specs.Routers.{GoesOn, IsOpen, IsSaidBy, IsWay, Restarts, Router, end_of}

-- a router, whose states are of type S, and its table: the neighbours to which the table sends packets, the neighbours
-- whose packets it lets in, whether it is confirmed, and the states of the router since it was last confirmed
pub record Forwarder (S : Type 0) : Type 0 where
  pub state : S
  pub ways : ℕ → Bool
  pub gates : ℕ → Bool
  pub confirmed : Bool
  pub since : List S

-- The rule of writing. `way s w` says that in state s packets may be sent to w, and `gate s w` that they may be let in
-- from w

-- each way of the table is a way in state s
abbrev pub HasWaysOf : {S : Type 0} → (S → ℕ → Type 0) → Forwarder S → S → Type 0
HasWaysOf way f s = (w : ℕ) → f.ways w ≡ true → way s w

-- each open gate of the table may be open in state s
abbrev pub HasGatesOf : {S : Type 0} → (S → ℕ → Type 0) → Forwarder S → S → Type 0
HasGatesOf gate f s = (w : ℕ) → f.gates w ≡ true → gate s w

-- gates are closed and ways are taken away, any of them or none
pub record Removes {S : Type 0} (f g : Forwarder S) : Type 0 where
  pub ways : (w : ℕ) → g.ways w ≡ true → f.ways w ≡ true
  pub gates : (w : ℕ) → g.gates w ≡ true → f.gates w ≡ true
  pub rest : g ≡ record f { ways = g.ways; gates = g.gates }

-- ways are changed towards a target, which is a state that the router has had since the table was confirmed. Before
-- that, each gate that is not one of the target is closed
pub record ChangesWays {S : Type 0} (way gate : S → ℕ → Type 0) (f g : Forwarder S) : Type 0 where
  pub target : S
  pub read : Contains f.since target
  pub closed : HasGatesOf gate f target
  pub ways : (w : ℕ) → g.ways w ≡ true → (f.ways w ≡ true) ⊎ way target w
  pub rest : g ≡ record f { ways = g.ways }

-- gates of a target are opened. Before that, each way that is not one of the target is taken away
pub record OpensGates {S : Type 0} (way gate : S → ℕ → Type 0) (f g : Forwarder S) : Type 0 where
  pub target : S
  pub read : Contains f.since target
  pub changed : HasWaysOf way f target
  pub gates : (w : ℕ) → g.gates w ≡ true → (f.gates w ≡ true) ⊎ gate target w
  pub rest : g ≡ record f { gates = g.gates }

-- the table is confirmed: its ways and its open gates are those of the present state. Some may be missing
pub record Confirms {S : Type 0} (way gate : S → ℕ → Type 0) (f g : Forwarder S) : Type 0 where
  pub ways : HasWaysOf way f f.state
  pub gates : HasGatesOf gate f f.state
  pub rest : g ≡ record f { confirmed = true; since = f.state ∷ [] }

abbrev pub Writes : {S : Type 0} → (way gate : S → ℕ → Type 0) → Forwarder S → Forwarder S → Type 0
Writes way gate f g = Removes f g ⊎ ChangesWays way gate f g ⊎ OpensGates way gate f g ⊎ Confirms way gate f g

-- the router has another state. The table stays as it is, so it is no longer confirmed
abbrev pub HasAnotherState : {S : Type 0} → Forwarder S → Forwarder S → Type 0
HasAnotherState f g = g ≡ record f { state = g.state; confirmed = false; since = g.state ∷ f.since }

-- Tables without loops

-- packets of x go to w by these tables: that of x sends them there, and that of w lets them in
pub record IsMet (ways gates : ℕ → ℕ → Bool) (x w : ℕ) : Type 0 where
  pub way : ways x w ≡ true
  pub gate : gates w x ≡ true

-- a walk of a packet through the tables
abbrev pub IsTableWalk : (ways gates : ℕ → ℕ → Bool) → ℕ → List ℕ → Type 0
IsTableWalk ways gates u [] = Unit {0}
IsTableWalk ways gates u (v ∷ vs) = IsMet ways gates u v × IsTableWalk ways gates v vs

-- no walk of one step or more comes back to where it began
abbrev pub HaveNoLoop : (ways gates : ℕ → ℕ → Bool) → Type 0
HaveNoLoop ways gates = (u v : ℕ) (vs : List ℕ) → IsTableWalk ways gates u (v ∷ vs) → ¬ (end_of v vs ≡ u)

-- Networks of routers with tables

-- a forwarder for each number, and the messages that were sent
pub record Plane (S : Type 0) : Type 0 where
  pub forwarder : ℕ → Forwarder S
  pub pool : List Message

-- the state of router y goes on by messages of the pool, or y restarts
pub record Changes (pool : List Message) (y : ℕ) (f g : Forwarder Router) : Type 0 where
  pub router : GoesOn pool y f.state g.state ⊎ Restarts f.state g.state
  pub table : HasAnotherState f g

-- what forwarder y may do at one step
abbrev pub Moves : List Message → ℕ → Forwarder Router → Forwarder Router → Type 0
Moves pool y f g = Changes pool y f g ⊎ Writes (λ r. IsWay r y) IsOpen f g

-- one step: each forwarder moves, and new messages are true of their routers. A router says nothing while its table is
-- not confirmed
pub record IsPlaneStep (s t : Plane Router) : Type 0 where
  pub moves : (y : ℕ) → Moves s.pool y (s.forwarder y) (t.forwarder y)
  pub kept : (m : Message) → Contains s.pool m → Contains t.pool m
  pub new : (m : Message) → Contains t.pool m → Contains s.pool m
      ⊎ (((s.forwarder m.from).confirmed ≡ true) × IsSaidBy (s.forwarder m.from).state m)

-- nothing has been said, and all tables are empty
pub record IsSilent {S : Type 0} (s : Plane S) : Type 0 where
  pub pool : s.pool ≡ []
  pub ways : (y w : ℕ) → (s.forwarder y).ways w ≡ false
  pub gates : (y w : ℕ) → (s.forwarder y).gates w ≡ false
  pub since : (y : ℕ) → (s.forwarder y).since ≡ (s.forwarder y).state ∷ []

-- besides, nobody knows anything of others
pub record IsPlaneStart (s : Plane Router) : Type 0 where
  pub silent : IsSilent s
  pub peer : (y w : ℕ) → (s.forwarder y).state.peer w ≡ 0
  pub heard : (y w : ℕ) → (s.forwarder y).state.heard w ≡ 0
  pub acked : (y w : ℕ) → (s.forwarder y).state.acked w ≡ 0

-- the planes in the list follow one another, by steps
abbrev pub IsPlaneRun : {S : Type 0} → (Plane S → Plane S → Type 0) → Plane S → List (Plane S) → Type 0
IsPlaneRun step s [] = Unit {0}
IsPlaneRun step s (t ∷ ts) = step s t × IsPlaneRun step t ts

abbrev pub last_plane : {S : Type 0} → Plane S → List (Plane S) → Plane S
last_plane s [] = s
last_plane s (t ∷ ts) = last_plane t ts

-- the tables of the plane have no loop
abbrev pub HasNoTableLoop : {S : Type 0} → Plane S → Type 0
HasNoTableLoop s = HaveNoLoop (λ y. (s.forwarder y).ways) (λ y. (s.forwarder y).gates)

-- The laws

-- At the end of every run, and so at every moment, the tables have no loop. Packets meet the tables alone. Any number
-- of events, also restarts, may come before a table is written and between the steps of writing. A step may take away
-- any ways and close any gates. It may add ways of a state that the router had since the table was confirmed, once
-- gates that are not open in this state are closed. It may open gates of such a state, once ways that are not of this
-- state are taken away. A table is confirmed if its ways and open gates are those of the present state; some may be
-- missing. After an event the router says nothing until its table is confirmed. A router that restarts finds the
-- table as it was, and writes it by the same rule.
abbrev pub TablesHaveNoLoop : Type 0
TablesHaveNoLoop = (s : Plane Router) (ts : List (Plane Router)) → IsPlaneStart s → IsPlaneRun IsPlaneStep s ts
    → HasNoTableLoop (last_plane s ts)

-- In some run packets get through to a router that is not a gateway.
abbrev pub SomeTablesLetThrough : Type 0
SomeTablesLetThrough = (s : Plane Router) × (ts : List (Plane Router)) × IsPlaneStart s × IsPlaneRun IsPlaneStep s ts
    × ((y : ℕ) → 0 < (s.forwarder y).state.boot)
    × (((last_plane s ts).forwarder 0).state.gateway ≡ false)
    × (((last_plane s ts).forwarder 1).ways 0 ≡ true) × (((last_plane s ts).forwarder 0).gates 1 ≡ true)

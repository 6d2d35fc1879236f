-- Networks of routers that announce heights to their neighbours, and everything that can happen in them. A message that
-- was sent stays in the pool of messages for ever. At each step a router may read any messages of the pool, or none. So
-- messages may be lost, delayed, repeated and overtaken. The definitions are this project's own.
use Rattle.std.specs.Prelude.{Bool, IsTrue, ℕ, List, [], ◌∷◌, ◌≡◌, ◌<◌, ◌≤◌, ◌⊎◌}
use Rattle.std.specs.List.{Contains}
use Rattle.fr_node.specs.declared.message.Message.{Message}

-- one router: the number of its start, whether it is a gateway, the height that it uses, the number of its last
-- announcement, and which height it announced under which number. Of each other router it has the greatest start that
-- it knows, the greatest number that it has heard (0: none) with the height that came with it, and the number that the
-- other one has acknowledged (0: none)
pub record Router : Type 0 where
  pub boot : ℕ
  pub gateway : Bool
  pub height : ℕ
  pub number : ℕ
  pub announced : ℕ → ℕ
  pub peer : ℕ → ℕ
  pub heard : ℕ → ℕ
  pub seen : ℕ → ℕ
  pub acked : ℕ → ℕ

-- a router for each number, and the messages that were sent
pub record Net : Type 0 where
  pub router : ℕ → Router
  pub pool : List Message

-- heights are compared with the numbers of their routers
abbrev pub IsBelow : ℕ → ℕ → ℕ → ℕ → Type 0
IsBelow h w k x = (h < k) ⊎ ((h ≡ k) × (w < x))

-- router x, in this state, sends packets to w: the last height that it has heard of w is below its own
pub record IsWay (r : Router) (x w : ℕ) : Type 0 where
  pub forwards : ¬ IsTrue r.gateway
  pub known : 0 < r.heard w
  pub below : IsBelow (r.seen w) w r.height x

-- no height that the router announced since the one that x acknowledged is less than the height that it uses
pub record LetsIn (r : Router) (x : ℕ) : Type 0 where
  pub acked : 0 < r.acked x
  pub high : (n : ℕ) → r.acked x ≤ n → n ≤ r.number → r.height ≤ r.announced n

-- the router's gate for packets that come from x is open. A gateway sends on nothing, so its gates are always open
abbrev pub IsOpen : Router → ℕ → Type 0
IsOpen r x = IsTrue r.gateway ⊎ LetsIn r x

-- packets of x go to w
pub record IsUsed (s : Net) (x w : ℕ) : Type 0 where
  pub way : IsWay (s.router x) x w
  pub gate : IsOpen (s.router w) x

-- a message of the pool from w to y
pub record IsFrom (pool : List Message) (y w : ℕ) (m : Message) : Type 0 where
  pub said : Contains pool m
  pub from : m.from ≡ w
  pub to : m.to ≡ y

-- router y keeps the start of w that it knows, or takes a greater one from a message
abbrev pub TakesStart : List Message → ℕ → Router → Router → ℕ → Type 0
TakesStart pool y r t w = (r.peer w ≤ t.peer w)
    × ((t.peer w ≡ r.peer w) ⊎ ((m : Message) × IsFrom pool y w m × (t.peer w ≡ m.boot)))

-- y keeps what it has heard of w, if it keeps the start of w; or forgets it, if it takes a greater start; or takes it
-- from a message of that start, for its own present start, with a number that is not less than what it has heard of
-- that start
abbrev pub TakesHeight : List Message → ℕ → Router → Router → ℕ → Type 0
TakesHeight pool y r t w = ((t.peer w ≡ r.peer w) × (t.heard w ≡ r.heard w) × (t.seen w ≡ r.seen w))
    ⊎ ((r.peer w < t.peer w) × (t.heard w ≡ 0))
    ⊎ ((m : Message) × IsFrom pool y w m × (m.echo ≡ r.boot) × (t.peer w ≡ m.boot) × (t.heard w ≡ m.number)
    × (t.seen w ≡ m.height) × (t.peer w ≡ r.peer w → r.heard w ≤ m.number))

-- y keeps what w has acknowledged, if it keeps the start of w; or forgets it; or takes it from a message of that start,
-- for its own present start
abbrev pub TakesAnswer : List Message → ℕ → Router → Router → ℕ → Type 0
TakesAnswer pool y r t w = ((t.peer w ≡ r.peer w) × (t.acked w ≡ r.acked w))
    ⊎ (t.acked w ≡ 0)
    ⊎ ((m : Message) × IsFrom pool y w m × (m.echo ≡ r.boot) × (t.peer w ≡ m.boot) × (t.acked w ≡ m.heard))

-- router y goes on with its start, by messages of the pool. What it announced stays. The height that it uses may become
-- any, and it may become a gateway or cease to be one
pub record GoesOn (pool : List Message) (y : ℕ) (r t : Router) : Type 0 where
  pub boot : t.boot ≡ r.boot
  pub number : r.number ≤ t.number
  pub announced : (n : ℕ) → n ≤ r.number → t.announced n ≡ r.announced n
  pub start : (w : ℕ) → TakesStart pool y r t w
  pub height : (w : ℕ) → TakesHeight pool y r t w
  pub answer : (w : ℕ) → TakesAnswer pool y r t w

-- a router restarts: it has a greater start, any height, and has forgotten all else
pub record Restarts (r t : Router) : Type 0 where
  pub boot : r.boot < t.boot
  pub peer : (w : ℕ) → t.peer w ≡ 0
  pub heard : (w : ℕ) → t.heard w ≡ 0
  pub acked : (w : ℕ) → t.acked w ≡ 0

-- the message says what its router knows, and a height with the number under which the router announced it. As the
-- start of the neighbour it says the one that it knows, or an earlier one, by which the neighbour learns nothing
pub record IsSaidBy (r : Router) (m : Message) : Type 0 where
  pub boot : m.boot ≡ r.boot
  pub echo : m.echo ≤ r.peer m.to
  pub number : m.number ≤ r.number
  pub height : m.height ≡ r.announced m.number
  pub heard : m.heard ≡ r.heard m.to

-- one step: each router goes on or restarts, and new messages are true of their routers
pub record IsStep (s t : Net) : Type 0 where
  pub routers : (y : ℕ) → GoesOn s.pool y (s.router y) (t.router y) ⊎ Restarts (s.router y) (t.router y)
  pub kept : (m : Message) → Contains s.pool m → Contains t.pool m
  pub new : (m : Message) → Contains t.pool m → Contains s.pool m ⊎ IsSaidBy (s.router m.from) m

-- nothing has been said, and nobody knows anything of others
pub record IsStart (s : Net) : Type 0 where
  pub silent : s.pool ≡ []
  pub peer : (y w : ℕ) → (s.router y).peer w ≡ 0
  pub heard : (y w : ℕ) → (s.router y).heard w ≡ 0
  pub acked : (y w : ℕ) → (s.router y).acked w ≡ 0

-- the networks in the list follow one another, by steps
abbrev pub IsRun : Net → List Net → Type 0
IsRun s [] = Unit {0}
IsRun s (t ∷ ts) = IsStep s t × IsRun t ts

abbrev pub last : Net → List Net → Net
last s [] = s
last s (t ∷ ts) = last t ts

-- a walk along used links, and where it ends
abbrev pub IsWalk : Net → ℕ → List ℕ → Type 0
IsWalk s u [] = Unit {0}
IsWalk s u (v ∷ vs) = IsUsed s u v × IsWalk s v vs

abbrev pub end_of : ℕ → List ℕ → ℕ
end_of u [] = u
end_of u (v ∷ vs) = end_of v vs

-- no walk of one step or more comes back to where it began
abbrev pub HasNoLoop : Net → Type 0
HasNoLoop s = (u v : ℕ) (vs : List ℕ) → IsWalk s u (v ∷ vs) → ¬ (end_of v vs ≡ u)

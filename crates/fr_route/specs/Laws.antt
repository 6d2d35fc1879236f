-- The laws of routes and of answers. Each one is a clause of a function of src/laws.rt. This project's own. For rounds
-- see Gafni and Bertsekas (1981), and Busch and Tirthapura (2005) on the number of turns.
use Rattle.std.specs.Prelude.{◌≡◌, ℕ, ◌<◌, ◌↔◌, ◌++◌, List, ◌∷◌, Some, Contains, Option, Result, nat_eq}
use Rattle.std.specs.List.{IsDistinct}
use Rattle.fr_graph.specs.Links.{IsAcyclic, IsNet, IsPath, end_of}
use Rattle.fr_requests.specs.Requests.{PlainRequest}
use Rattle.fr_requests.specs.declared.requests.LineFault.{LineFault}
use Rattle.fr_core.specs.Walks.{IsConnected}
use Rattle.fr_route.specs.States.{State, IsAfterRound, IsRound, IsReport}
use Rattle.fr_route.specs.Reroutes.{ArePushes, AreReplaced, AreRerouted, IsRerouted}
use Rattle.fr_route.specs.Routes.{AreHops, IsRoute, IsHop}
use Rattle.fr_route.specs.Answers.{IsAnswer, IsLineAnswer}
use Rattle.fr_route.specs.Forms.{IsAnswerIn}
use Rattle.fr_route.specs.declared.form.Form.{Form}
use Rattle.fr_tables.specs.Pushes.{IsPushed}
use Rattle.fr_tables.specs.Tables.{Arrives, IsInRange, IsLoopFree}
use Rattle.fr_tables.specs.declared.hop.Hop.{Hop}

-- Rounds

-- The first links determine the state after a round.
abbrev pub RoundIsUnique : Type 0
RoundIsUnique = (n d : ℕ) (first : List (ℕ × ℕ)) (some other : State) → IsRound n d first some
    → IsRound n d first other → some ≡ other

-- The links after a round contain no cycle.
abbrev pub RoundLeavesNoLoop : Type 0
RoundLeavesNoLoop = (n d : ℕ) (first : List (ℕ × ℕ)) (s : State) → IsNet n first → d < n → IsRound n d first s
    → IsAcyclic s.links

-- The same nodes are connected to the destination before and after a round.
abbrev pub RoundKeepsJoined : Type 0
RoundKeepsJoined = (n d : ℕ) (first : List (ℕ × ℕ)) (s : State) (x : ℕ) → IsNet n first → d < n → IsRound n d first s
    → IsConnected first d x ↔ IsConnected s.links d x

-- A state has only one report.
abbrev pub ReportIsUnique : Type 0
ReportIsUnique = (s : State) (t u k l : ℕ) → IsReport s t k → IsReport s u l → (t ≡ u) × (k ≡ l)

-- Routes

-- After a round, a node has a route exactly if it is connected to the destination.
abbrev pub RoutesLeadHome : Type 0
RoutesLeadHome = (n d : ℕ) (first : List (ℕ × ℕ)) (s : State) (x : ℕ) → IsNet n first → d < n → IsRound n d first s
    → IsConnected s.links d x ↔ ((rest : List ℕ) × IsRoute s.links d x rest)

-- No node has two routes.
abbrev pub RouteIsUnique : Type 0
RouteIsUnique = (links : List (ℕ × ℕ)) (d x : ℕ) (some other : List ℕ) → IsRoute links d x some
    → IsRoute links d x other → some ≡ other

-- A route is a path along the links that ends at the destination and visits no node twice.
abbrev pub RouteIsSimple : Type 0
RouteIsSimple = (links : List (ℕ × ℕ)) (d x : ℕ) (rest : List ℕ) → IsAcyclic links → IsRoute links d x rest
    → IsPath links x rest × (end_of x rest ≡ d) × IsDistinct nat_eq (x ∷ rest)

-- No node has two hops.
abbrev pub HopIsUnique : Type 0
HopIsUnique = (s : State) (x : ℕ) (some other : Hop) → IsHop s x some → IsHop s x other → some ≡ other

-- Pushes

-- The hops after a round have no loop, and all name nodes.
abbrev pub HopsHaveNoLoop : Type 0
HopsHaveNoLoop = (s : State) (hops : List Hop) → IsAfterRound s → AreHops s s.nodes hops
    → IsLoopFree hops × IsInRange hops

-- A change lists exactly the nodes whose hop differs.
abbrev pub ReroutedAreTold : Type 0
ReroutedAreTold = (old new : State) (nodes : List ℕ) (x : ℕ) → old.nodes ≡ new.nodes → AreRerouted old new nodes
    → Contains nodes x ↔ ((x < new.nodes) × IsRerouted old new x)

-- x has a route in this state
abbrev pub HasRoute : State → ℕ → Type 0
HasRoute s x = (rest : List ℕ) × IsRoute s.links s.dest x rest

-- While the rerouted nodes of a change are pushed, a node that has a route before and after the change has one at
-- each moment.
abbrev pub ChangeKeepsRoutes : Type 0
ChangeKeepsRoutes = (old new : State) (done left : List ℕ) (r : AreRerouted old new (done ++ left)) (table : List Hop)
    (x : ℕ) → IsAfterRound old → IsAfterRound new → IsPushed r.before r.after done table
    → HasRoute old x → HasRoute new x → Arrives table x

-- The same holds while a new network replaces an old one.
abbrev pub ReplacingKeepsRoutes : Type 0
ReplacingKeepsRoutes = (old new : State) (done left : List ℕ) (r : AreReplaced (Some old) new (done ++ left))
    (table : List Hop) (x : ℕ) → IsAfterRound old → IsAfterRound new → IsPushed r.before r.after done table
    → HasRoute old x → HasRoute new x → Arrives table x

-- The same holds while any table gets the hops of a state.
abbrev pub PushesKeepRoutes : Type 0
PushesKeepRoutes = (s : State) (old : List Hop) (done left : List ℕ) (r : ArePushes s old (done ++ left))
    (table : List Hop) (x : ℕ) → IsAfterRound s → IsPushed old r.hops done table
    → Arrives old x → HasRoute s x → Arrives table x

-- Answers

-- The state and the request determine the text of the answer and the state after it.
abbrev pub AnswerIsUnique : Type 0
AnswerIsUnique = (s : Option State) (request : PlainRequest) (t u : List ℕ) (p q : Option State)
    → IsAnswer s request t p → IsAnswer s request u q → (t ≡ u) × (p ≡ q)

-- The same holds for a line.
abbrev pub LineAnswerIsUnique : Type 0
LineAnswerIsUnique = (s : Option State) (line : Result PlainRequest LineFault) (t u : List ℕ) (p q : Option State)
    → IsLineAnswer s line t p → IsLineAnswer s line u q → (t ≡ u) × (p ≡ q)

-- In either form, the state, the number of a line and the line determine the answer and the state after it.
abbrev pub AnswerInIsUnique : Type 0
AnswerInIsUnique = (form : Form) (number : ℕ) (s : Option State) (line : Result PlainRequest LineFault)
    (t u : List ℕ) (p q : Option State)
    → IsAnswerIn form number s line t p → IsAnswerIn form number s line u q → (t ≡ u) × (p ≡ q)

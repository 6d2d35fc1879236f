-- How often a router announces the same height beside its neighbours: only as often as it goes below that height, or
-- hears an announcement that is low enough for it. Any test may say whether height h of a neighbour w is low enough for
-- height e of the router. The definitions and laws are this project's own.
use Rattle.std.specs.Prelude.{Bool, IsTrue, List, [], ◌∷◌, if◌then◌else◌, not, true, ℕ, ◌+◌, ◌<◌, ◌≡◌, ◌≤◌, ◌⊎◌, ◌==◌}
use Rattle.std.specs.Prelude.{◌&&◌, false, nat_le, nat_lt}
use Rattle.std.specs.List.{Contains, list_any}
use Rattle.fr_node.specs.declared.link.Link.{Link}
use Rattle.fr_node.specs.declared.message.Message.{Message}
use Rattle.fr_node.specs.declared.node.Node.{Node}
use Rattle.fr_node.specs.declared.policy.Rise.{Rise}
use Rattle.fr_node.specs.declared.policy.Rise.TheVariants.{Full, Top}
use Rattle.fr_node.specs.Histories.{IsHistory}
use Rattle.fr_node.specs.Links.{IsKnown, link_to}
use Rattle.fr_node.specs.Nodes.{Steps, router}
use Rattle.fr_node.specs.Paths.{is_below}
use Rattle.fr_node.specs.Policies.{Acts}
use Rattle.fr_node.specs.Repeats.{AreCalls, last_node}
use Rattle.fr_node.specs.Routers.{GoesOn, IsRun, IsStart, Net, Router, last}

-- by what a router, in this state, has heard of w, the height of w is low enough for height e
abbrev pub knows_low : ((e w h : ℕ) → Bool) → (e w : ℕ) → Router → Bool
knows_low low e w r = nat_lt 0 (r.heard w) && low e w (r.seen w)

-- the router has announced a greater height, and none of these neighbours was known to be low enough for its last one
pub record RisesBeside (low : (e w h : ℕ) → Bool) (ws : List ℕ) (r t : Router) : Type 0 where
  pub number : t.number ≡ r.number + 1
  pub greater : r.announced r.number < t.announced t.number
  pub none_low : (w : ℕ) → Contains ws w → knows_low low (r.announced r.number) w t ≡ false

-- the router has announced a lower height, and one of these neighbours is known to be low enough for it
pub record FallsBeside (low : (e w h : ℕ) → Bool) (ws : List ℕ) (r t : Router) : Type 0 where
  pub number : t.number ≡ r.number + 1
  pub lower : t.announced t.number < r.announced r.number
  pub one_low : (w : ℕ) × Contains ws w × (knows_low low (t.announced t.number) w t ≡ true)

-- the router has announced nothing, or such a height
abbrev pub ActsBeside : ((e w h : ℕ) → Bool) → List ℕ → Router → Router → Type 0
ActsBeside low ws r t = (t.number ≡ r.number) ⊎ RisesBeside low ws r t ⊎ FallsBeside low ws r t

-- in these networks, which follow one another, router x does not restart, and acts so
abbrev pub KeepsActing : ((e w h : ℕ) → Bool) → ℕ → List ℕ → Net → List Net → Type 0
KeepsActing low x ws s [] = Unit {0}
KeepsActing low x ws s (t ∷ ts) = ((t.router x).boot ≡ (s.router x).boot)
    × ActsBeside low ws (s.router x) (t.router x) × KeepsActing low x ws t ts

-- the router has announced height e, or one below it
abbrev pub announces : ℕ → Router → Router → Bool
announces e r t = not (t.number == r.number) && t.announced t.number == e

abbrev pub announces_below : ℕ → Router → Router → Bool
announces_below e r t = not (t.number == r.number) && nat_lt (t.announced t.number) e

-- the router has heard a new announcement of one of these neighbours, which is low enough for height e
abbrev pub hears_low : ((e w h : ℕ) → Bool) → ℕ → List ℕ → Router → Router → Bool
hears_low low e ws r t = list_any
    (λ w. not (t.peer w == r.peer w && t.heard w == r.heard w) && knows_low low e w t) ws

-- in how many steps this is so of router x
abbrev pub steps_with : (Router → Router → Bool) → ℕ → Net → List Net → ℕ
steps_with p x s [] = 0
steps_with p x s (t ∷ ts) = (if p (s.router x) (t.router x) then 1 else 0) + steps_with p x t ts

-- A router announces a height at most once, and again for each time that it announces a lower one or hears a new
-- announcement that is low enough for this height. It rises only if no neighbour is known to be low enough for its
-- height, and falls to a height only if one is known to be low enough for that. Any test may say what is low enough.
abbrev pub SameHeightIsBounded : Type 0
SameHeightIsBounded = (s : Net) (past future : List Net) (x e : ℕ) (low : (e w h : ℕ) → Bool) (ws : List ℕ)
    → IsStart s → IsRun s past → IsRun (last s past) future → KeepsActing low x ws (last s past) future
    → steps_with (announces e) x (last s past) future
    ≤ 1 + steps_with (announces_below e) x (last s past) future
    + steps_with (hears_low low e ws) x (last s past) future

-- In some run a height comes back because the router has heard a lower one.
abbrev pub SomeHeightComesBack : Type 0
SomeHeightComesBack = (s : Net) × (past future : List Net) × (x e : ℕ) × (ws : List ℕ) × IsStart s × IsRun s past
    × IsRun (last s past) future × KeepsActing (is_below x) x ws (last s past) future
    × (steps_with (announces e) x (last s past) future ≡ 2)
    × (steps_with (announces_below e) x (last s past) future ≡ 0)
    × (steps_with (hears_low (is_below x) e ws) x (last s past) future ≡ 1)

-- the links of the node that are up lead to these neighbours, each listed once
pub record AreUp (n : Node) (ws : List ℕ) : Type 0 where
  pub up : (w : ℕ) → Contains ws w → (link_to n.links.items w).up ≡ true
  pub listed : (l : Link) → Contains n.links.items l → l.up ≡ true → Contains ws l.neighbour
      × (link_to n.links.items l.neighbour ≡ l)

-- the neighbour offers a route of a cost of at most e: its height and the cost of the link to it are together below the
-- ceiling, and at most e
abbrev pub is_within : (ceiling : ℕ) (cost : ℕ → ℕ) → (e w h : ℕ) → Bool
is_within ceiling cost e w h = nat_lt (h + cost w) ceiling && nat_le (h + cost w) e

-- the test of router x by its policy, if these are the costs of its links: by full reversal whether a neighbour is below
-- it, and otherwise whether a neighbour offers its height
abbrev pub test_of : Rise → (x : ℕ) (cost : ℕ → ℕ) → (e w h : ℕ) → Bool
test_of Full x cost = is_below x
test_of (Top ceiling) x cost = is_within ceiling cost

-- A known neighbour stays known, and no call changes the cost of the link to it but `set_cost` for this neighbour.
abbrev pub CostsStay : Type 0
CostsStay = (has_other_cost : ℕ → Bool) (n : Node) (ks : List Node) (w : ℕ) → AreCalls has_other_cost n ks
    → IsKnown n.links.items w → IsKnown (last_node n ks).links.items w
    × (¬ IsTrue (has_other_cost w) → (link_to (last_node n ks).links.items w).cost ≡ (link_to n.links.items w).cost)

-- Each call of a node is a step of this law. With `Rise::Full` the test is whether a neighbour is lower, with
-- `Rise::Top` whether it offers the height.
abbrev pub CallsActBeside : Type 0
CallsActBeside = (messages : List Message) (old new : Node) (ws : List ℕ) (cost : ℕ → ℕ) → AreUp new ws
    → ((w : ℕ) → Contains ws w → (link_to new.links.items w).cost ≡ cost w) → Steps messages old new
    → Acts (record old { links = new.links }) new.own ⊎ (new.own ≡ old.own)
    → (h : ℕ → ℕ) → IsHistory old.own h
    → (k : ℕ → ℕ) × IsHistory new.own k × GoesOn messages old.own.me (router old h) (router new k)
    × ActsBeside (test_of old.policy.rise old.own.me cost) ws (router old h) (router new k)

-- How many heights routers announce that are connected to a gateway by a path of links that stay up, whatever else happens
-- in the network: other links go up and down, other routers restart, and messages are lost, delayed, repeated and
-- overtaken. Nothing is supposed of what was heard before. The definitions and laws are this project's own.
use Rattle.std.specs.Prelude.{Bool, IsTrue, List, [], ◌∷◌, if◌then◌else◌, false, true, ℕ, ◌+◌, ◌-◌, ◌<◌, ◌≡◌, ◌≤◌}
use Rattle.std.specs.Prelude.{◌⊎◌, ◌==◌, ◌&&◌, ◌||◌, length, nat_lt, not}
use Rattle.std.specs.List.{count_by}
use Rattle.fr_node.specs.declared.message.Message.{Message}
use Rattle.fr_node.specs.declared.node.Node.{Node}
use Rattle.fr_node.specs.declared.policy.Rise.TheVariants.{Full}
use Rattle.fr_node.specs.Histories.{IsHistory}
use Rattle.fr_node.specs.Links.{link_to}
use Rattle.fr_node.specs.Nodes.{Steps, router}
use Rattle.fr_node.specs.Policies.{Acts}
use Rattle.fr_node.specs.Routers.{GoesOn, IsBelow, IsRun, IsStart, Net, Router, last}

-- height h of router w is below router x at height e
abbrev pub is_below : (x e w h : ℕ) → Bool
is_below x e w h = nat_lt h e || (h == e && nat_lt w x)

-- by what router x, in this state, has heard of w, w is below x at height e
abbrev pub is_low : (e x w : ℕ) → Router → Bool
is_low e x w r = nat_lt 0 (r.heard w) && is_below x e w (r.seen w)

-- router x, in this state, has heard w, by which w is not lower. So x may announce a height before it hears more of w
abbrev pub may_rise : (x w : ℕ) → Router → Bool
may_rise x w r = nat_lt 0 (r.heard w) && not (is_low (r.announced r.number) x w r)

-- router x has announced one height: it had heard w, by which w was not lower, and is above what it had heard
pub record Rises (x w : ℕ) (r t : Router) : Type 0 where
  pub number : t.number ≡ r.number + 1
  pub heard : 0 < t.heard w
  pub not_lower : ¬ IsBelow (t.seen w) w (r.announced r.number) x
  pub above : t.seen w < t.announced t.number

-- router x has not restarted, and has announced nothing, or one height by full reversal beside its neighbour w
pub record Stays (x w : ℕ) (r t : Router) : Type 0 where
  pub boot : t.boot ≡ r.boot
  pub rises : (t.number ≡ r.number) ⊎ Rises x w r t

-- in these networks, which follow one another, router x acts by full reversal beside w, and w does not restart. Of all
-- other routers and links nothing is supposed
abbrev pub KeepsLink : ℕ → ℕ → Net → List Net → Type 0
KeepsLink x w s [] = Unit {0}
KeepsLink x w s (t ∷ ts) = Stays x w (s.router x) (t.router x) × ((t.router w).boot ≡ (s.router w).boot)
    × KeepsLink x w t ts

-- how often router x announces a height from one network to a later one
abbrev pub times : Net → Net → ℕ → ℕ
times s t x = (t.router x).number - (s.router x).number

-- the message is from w to x, of an earlier start of w than this one, and x would take it: it is of a later start than
-- the one that x knows, or of that one and later than what x has heard
abbrev pub is_earlier_news : ℕ → ℕ → ℕ → Router → Message → Bool
is_earlier_news start x w r m = m.from == w && (m.to == x && (nat_lt m.boot start
    && (nat_lt (r.peer w) m.boot || (r.peer w == m.boot && nat_lt (r.heard w) m.number))))

-- what router x has not heard of w: of `number` announcements of this start of w those beyond what it has heard, and
-- messages of earlier starts
abbrev pub unheard_of : (start number : ℕ) (pool : List Message) (x w : ℕ) → Router → ℕ
unheard_of start number pool x w r = count_by (is_earlier_news start x w r) pool
    + (if r.peer w == start then number - r.heard w else number)

-- what x has not heard of w
abbrev pub unheard : Net → ℕ → ℕ → ℕ
unheard s x w = unheard_of (s.router w).boot (s.router w).number s.pool x w (s.router x)

-- what x may still have to announce because of w: one height if it may rise by what it has heard, and one for each
-- announcement that it has not heard
abbrev pub due : Net → ℕ → ℕ → ℕ
due s x w = (if may_rise x w (s.router x) then 1 else 0) + unheard s x w

-- a path of such links, from router x to one that announces nothing, as a gateway
abbrev pub KeepsPath : ℕ → List ℕ → Net → List Net → Type 0
KeepsPath x [] s ts = times s (last s ts) x ≡ 0
KeepsPath x (w ∷ ws) s ts = KeepsLink x w s ts × KeepsPath w ws s ts

-- what is due on the path
abbrev pub due_on : Net → ℕ → List ℕ → ℕ
due_on s x [] = 0
due_on s x (w ∷ ws) = due s x w + due_on s w ws

-- what has not been heard on the path
abbrev pub unheard_on : Net → ℕ → List ℕ → ℕ
unheard_on s x [] = 0
unheard_on s x (w ∷ ws) = unheard s x w + unheard_on s w ws

-- each router of the path has heard all announcements of the next one, by which the next one is lower
abbrev pub IsDown : Net → ℕ → List ℕ → Type 0
IsDown s x [] = Unit {0}
IsDown s x (w ∷ ws) = (may_rise x w (s.router x) ≡ false) × (unheard s x w ≡ 0) × IsDown s w ws

-- The laws. `past` is anything that can happen from a start on, and `future` what happens then

-- Beside a link that stays up, a router announces at most what is due because of its neighbour, and one height for
-- each that the neighbour announces.
abbrev pub LinkBoundsAnnouncements : Type 0
LinkBoundsAnnouncements = (s : Net) (past future : List Net) (x w : ℕ) → IsStart s → IsRun s past
    → IsRun (last s past) future → KeepsLink x w (last s past) future
    → times (last s past) (last (last s past) future) x
    ≤ due (last s past) x w + times (last s past) (last (last s past) future) w

-- What a router has not heard are announcements of the neighbour's present start, if it knows this start.
abbrev pub UnheardAreAnnouncements : Type 0
UnheardAreAnnouncements = (s : Net) (x w : ℕ) → (s.router x).peer w ≡ (s.router w).boot
    → unheard s x w ≡ (s.router w).number - (s.router x).heard w

-- While a path to a gateway stays up and none of its routers restarts, a router of it announces at most one height for
-- each link of the path, and one for each announcement that a router of the path has not heard of the next one. The
-- routers of the path use `Rise::Full` without `lower`. Other links may go up and down, other routers restart, and messages be lost, delayed,
-- repeated and reordered. Before that anything may have happened, and no router has to have forgotten what is
-- outdated.
abbrev pub PathBoundsAnnouncements : Type 0
PathBoundsAnnouncements = (s : Net) (past future : List Net) (x : ℕ) (ws : List ℕ) → IsStart s → IsRun s past
    → IsRun (last s past) future → KeepsPath x ws (last s past) future
    → (times (last s past) (last (last s past) future) x ≤ due_on (last s past) x ws)
    × (times (last s past) (last (last s past) future) x ≤ length ws + unheard_on (last s past) x ws)

-- If each router of the path has heard the next one and is above it, none of them announces anything any more,
-- whatever happens elsewhere.
abbrev pub DownPathIsQuiet : Type 0
DownPathIsQuiet = (s : Net) (past future : List Net) (x : ℕ) (ws : List ℕ) → IsStart s → IsRun s past
    → IsRun (last s past) future → KeepsPath x ws (last s past) future → IsDown (last s past) x ws
    → times (last s past) (last (last s past) future) x ≡ 0

-- In some run two heights are due, and a router announces both.
abbrev pub BoundIsReached : Type 0
BoundIsReached = (s : Net) × (past future : List Net) × (x w : ℕ) × IsStart s × IsRun s past
    × IsRun (last s past) future × KeepsPath x (w ∷ []) (last s past) future
    × (times (last s past) (last (last s past) future) x ≡ 2) × (due_on (last s past) x (w ∷ []) ≡ 2)
    × IsDown (last (last s past) future) x (w ∷ [])

-- The running code

-- the node is a gateway, or acts by full reversal without `lower`
abbrev pub IsFull : Node → Type 0
IsFull n = IsTrue n.gateway ⊎ ((n.policy.rise ≡ Full) × (n.policy.lower ≡ false))

-- Each call of a node is a step of this law beside each link that is up, by its contract.
abbrev pub CallsKeepLinks : Type 0
CallsKeepLinks = (messages : List Message) (old new : Node) → IsFull old → Steps messages old new
    → Acts (record old { links = new.links }) new.own ⊎ (new.own ≡ old.own)
    → (h : ℕ → ℕ) → IsHistory old.own h
    → (k : ℕ → ℕ) × IsHistory new.own k × GoesOn messages old.own.me (router old h) (router new k)
    × ((w : ℕ) → (link_to new.links.items w).up ≡ true → Stays old.own.me w (router old h) (router new k))
    × (IsTrue old.gateway → new.own.number ≡ old.own.number)

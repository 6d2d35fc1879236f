-- How many heights routers announce beside links that stay up if they may also lower their heights. The definitions and
-- laws are this project's own.
use Rattle.std.specs.Prelude.{Bool, IsTrue, List, [], ◌∷◌, if◌then◌else◌, true, ℕ, ◌+◌, ◌*◌, ◌<◌, ◌≡◌, ◌≤◌, ◌⊎◌}
use Rattle.std.specs.Prelude.{nat_lt}
use Rattle.fr_node.specs.declared.message.Message.{Message}
use Rattle.fr_node.specs.declared.node.Node.{Node}
use Rattle.fr_node.specs.declared.policy.Rise.TheVariants.{Full}
use Rattle.fr_node.specs.Histories.{IsHistory}
use Rattle.fr_node.specs.Links.{link_to}
use Rattle.fr_node.specs.Nodes.{Steps, router}
use Rattle.fr_node.specs.Paths.{Stays, due, due_on, times}
use Rattle.fr_node.specs.Policies.{Acts}
use Rattle.fr_node.specs.Routers.{GoesOn, IsRun, IsStart, Net, Router, last}

-- a router has not restarted, and has announced one lower height
pub record Falls (r t : Router) : Type 0 where
  pub boot : t.boot ≡ r.boot
  pub number : t.number ≡ r.number + 1
  pub lower : t.announced t.number < r.announced r.number

-- in these networks, which follow one another, router x acts by full reversal beside w or falls, and w does not restart
abbrev pub KeepsLinkOrFalls : ℕ → ℕ → Net → List Net → Type 0
KeepsLinkOrFalls x w s [] = Unit {0}
KeepsLinkOrFalls x w s (t ∷ ts) = (Stays x w (s.router x) (t.router x) ⊎ Falls (s.router x) (t.router x))
    × ((t.router w).boot ≡ (s.router w).boot) × KeepsLinkOrFalls x w t ts

abbrev pub is_fall : Router → Router → Bool
is_fall r t = nat_lt (t.announced t.number) (r.announced r.number)

-- how often router x falls
abbrev pub falls : ℕ → Net → List Net → ℕ
falls x s [] = 0
falls x s (t ∷ ts) = (if is_fall (s.router x) (t.router x) then 1 else 0) + falls x t ts

-- a path of such links, from router x to one that announces nothing, as a gateway
abbrev pub KeepsPathOrFalls : ℕ → List ℕ → Net → List Net → Type 0
KeepsPathOrFalls x [] s ts = times s (last s ts) x ≡ 0
KeepsPathOrFalls x (w ∷ ws) s ts = KeepsLinkOrFalls x w s ts × KeepsPathOrFalls w ws s ts

-- how often routers of the path fall
abbrev pub falls_on : ℕ → List ℕ → Net → List Net → ℕ
falls_on x [] s ts = 0
falls_on x (w ∷ ws) s ts = falls x s ts + falls_on w ws s ts

-- Beside one link, each fall of the router adds at most two announcements to the bound of `paths_law`.
abbrev pub LinkBoundsWithFalls : Type 0
LinkBoundsWithFalls = (s : Net) (past future : List Net) (x w : ℕ) → IsStart s → IsRun s past
    → IsRun (last s past) future → KeepsLinkOrFalls x w (last s past) future
    → times (last s past) (last (last s past) future) x
    ≤ due (last s past) x w + times (last s past) (last (last s past) future) w + 2 * falls x (last s past) future

-- Each fall on the path adds at most two announcements to the bound of `paths_law`.
abbrev pub PathBoundsWithFalls : Type 0
PathBoundsWithFalls = (s : Net) (past future : List Net) (x : ℕ) (ws : List ℕ) → IsStart s → IsRun s past
    → IsRun (last s past) future → KeepsPathOrFalls x ws (last s past) future
    → times (last s past) (last (last s past) future) x
    ≤ due_on (last s past) x ws + 2 * falls_on x ws (last s past) future

-- In some run a router falls twice and announces four heights, where nothing else is due.
abbrev pub SomeRouterFalls : Type 0
SomeRouterFalls = (s : Net) × (past future : List Net) × (x w : ℕ) × IsStart s × IsRun s past
    × IsRun (last s past) future × KeepsPathOrFalls x (w ∷ []) (last s past) future
    × (times (last s past) (last (last s past) future) x ≡ 4) × (due_on (last s past) x (w ∷ []) ≡ 0)
    × (falls_on x (w ∷ []) (last s past) future ≡ 2)

-- Each call of a node with `Rise::Full` is a step of this law.
abbrev pub CallsKeepLinksOrFall : Type 0
CallsKeepLinksOrFall = (messages : List Message) (old new : Node) → IsTrue old.gateway ⊎ (old.policy.rise ≡ Full)
    → Steps messages old new → Acts (record old { links = new.links }) new.own ⊎ (new.own ≡ old.own)
    → (h : ℕ → ℕ) → IsHistory old.own h
    → (k : ℕ → ℕ) × IsHistory new.own k × GoesOn messages old.own.me (router old h) (router new k)
    × ((w : ℕ) → (link_to new.links.items w).up ≡ true
    → Stays old.own.me w (router old h) (router new k) ⊎ Falls (router old h) (router new k))

-- How many heights routers announce together that stay below a ceiling, or at one height above, while links stay as
-- they are. Messages may be lost, delayed, repeated and overtaken, and nothing is supposed of what was heard before.
-- The definitions and laws are this project's own.
use Rattle.std.specs.Prelude.{Bool, IsTrue, List, [], ◌∷◌, eqb, true, zero, suc, ℕ, ◌+◌, ◌*◌, ◌^◌, ◌<◌, ◌≡◌}
use Rattle.std.specs.Prelude.{◌≤◌, ◌⊎◌}
use Rattle.std.specs.List.{Contains, IsDistinct}
use Rattle.fr_node.specs.declared.node.Node.{Node}
use Rattle.fr_node.specs.declared.message.TheConstants.{CUT_OFF}
use Rattle.fr_node.specs.declared.policy.Rise.{Rise}
use Rattle.fr_node.specs.declared.policy.Rise.TheVariants.{Top}
use Rattle.fr_node.specs.Heights.{KeepsActing, test_of}
use Rattle.fr_node.specs.Histories.{IsHistory}
use Rattle.fr_node.specs.Paths.{is_below, times, unheard}
use Rattle.fr_node.specs.Policies.{Acts}
use Rattle.fr_node.specs.Routers.{IsBelow, IsRun, IsStart, Net, last}

-- by this test, only what is below router x at its height is low enough for that height
abbrev pub LeadsDown : ℕ → ((e w h : ℕ) → Bool) → Type 0
LeadsDown x low = (e w h : ℕ) → low e w h ≡ true → IsBelow h w e x

-- The tests of all policies are such, if each link costs at least 1.
abbrev pub TestsLeadDown : Type 0
TestsLeadDown = (rise : Rise) (x : ℕ) (cost : ℕ → ℕ) → ((w : ℕ) → 1 ≤ cost w) → LeadsDown x (test_of rise x cost)

-- in these networks, which follow one another, the last height that router x has announced is below the ceiling, or is
-- top
abbrev pub StaysBelow : (ceiling top x : ℕ) → List Net → Type 0
StaysBelow ceiling top x [] = Unit {0}
StaysBelow ceiling top x (t ∷ ts) = (((t.router x).announced (t.router x).number < ceiling)
    ⊎ ((t.router x).announced (t.router x).number ≡ top)) × StaysBelow ceiling top x ts

-- what router x has not heard of these neighbours
abbrev pub unheard_beside : Net → ℕ → List ℕ → ℕ
unheard_beside s x [] = 0
unheard_beside s x (w ∷ ws) = unheard s x w + unheard_beside s x ws

-- router x acts by this test beside these other routers, each of them listed once, and stays below the ceiling or at
-- top. At first there are at most `most` announcements of them that it has not heard
pub record KeepsBelow (ceiling top routers most x : ℕ) (low : (e w h : ℕ) → Bool) (ws : List ℕ) (s : Net)
    (ts : List Net) : Type 0 where
  pub down : LeadsDown x low
  pub neighbours : (w : ℕ) → Contains ws w → w < routers
  pub once : IsDistinct eqb (x ∷ ws)
  pub links : KeepsActing low x ws s ts
  pub below : StaysBelow ceiling top x ts
  pub unheard : unheard_beside s x ws ≤ most

-- how often the routers below this number together announce a height
abbrev pub times_of_all : Net → Net → ℕ → ℕ
times_of_all s t zero = 0
times_of_all s t (suc n) = times s t n + times_of_all s t n

-- Routers whose heights are below H, or equal to one height from H on, announce together at most (1 + u) * 2^((H + 1)
-- * n) heights, however long they run and whatever happens to messages, with a gateway or without. There are n
-- routers, and at first each has at most u announcements of its neighbours still to hear. No link goes up or down and
-- no router restarts. Each router acts as in `heights_law`, by a test of its own, by which only heights below its own
-- are low enough.
abbrev pub AnnouncementsEnd : Type 0
AnnouncementsEnd = (s : Net) (past future : List Net) (ceiling top routers most : ℕ) (low : (x e w h : ℕ) → Bool)
    (beside : ℕ → List ℕ) → IsStart s → IsRun s past → IsRun (last s past) future → ceiling ≤ top
    → ((x : ℕ) → x < routers → KeepsBelow ceiling top routers most x (low x) (beside x) (last s past) future)
    → times_of_all (last s past) (last (last s past) future) routers ≤ (1 + most) * 2 ^ ((ceiling + 1) * routers)

-- In some run one of three routers announces four heights.
abbrev pub SomeRoutersAnnounce : Type 0
SomeRoutersAnnounce = (s : Net) × (past future : List Net) × (ceiling routers most : ℕ) × (beside : ℕ → List ℕ)
    × IsStart s × IsRun s past × IsRun (last s past) future
    × ((x : ℕ) → x < routers → KeepsBelow ceiling ceiling routers most x (is_below x) (beside x) (last s past) future)
    × (times_of_all (last s past) (last (last s past) future) routers ≡ 4)

-- A call of a gateway, or of a node with `Rise::Top` and this ceiling, announces no height but those below the
-- ceiling and the top.
abbrev pub CallsStayBelow : Type 0
CallsStayBelow = (ceiling : ℕ) (old new : Node) → IsTrue old.gateway ⊎ (old.policy.rise ≡ Top ceiling)
    → Acts (record old { links = new.links }) new.own ⊎ (new.own ≡ old.own)
    → (h k : ℕ → ℕ) → IsHistory old.own h → IsHistory new.own k
    → (h old.own.number < ceiling) ⊎ (h old.own.number ≡ CUT_OFF)
    → (k new.own.number < ceiling) ⊎ (k new.own.number ≡ CUT_OFF)

-- What a checker of histories finds: the first entry that is not legal, with the first test that it fails. This
-- project's own.
use Rattle.std.specs.Prelude.{◌≡◌, ℕ, ◌+◌, ◌<◌, ◌≤◌, ◌⊎◌, List, ◌∷◌, ◌++◌, length, replicate}
use Rattle.fr_graph.specs.Links.{Points}
use Rattle.fr_graph.specs.Turn.{IsSink}
use Rattle.fr_core.specs.History.{Moment, count_at, after_all, moment_of}
use Rattle.fr_core.specs.Legal.{CanTurn, IsRun}
use Rattle.fr_core.specs.declared.check.fault.CheckFault.{CheckFault}
use Rattle.fr_core.specs.declared.check.fault.CheckFault.TheVariants.{Range, BadAt, Memory}
use Rattle.fr_core.specs.declared.check.fault.Why.{Why}
use Rattle.fr_core.specs.declared.check.fault.Why.TheVariants.{NoNode, Destination, Capped, NotSink}
use Rattle.fr_core.specs.declared.check.fault.Why.TheVariants.{WrongCount, NotHeld, NotMoved, NotCut}
use Rattle.fr_core.specs.declared.entry.Entry.{Entry}
use Rattle.fr_core.specs.declared.entry.Reply.{Reply}
use Rattle.fr_core.specs.declared.entry.Reply.TheVariants.{Turned, Held, Moved, Cut, Sink}

-- a turn of x to the count k fails this test, and none before it. The other tests are not for turns
abbrev pub FailsTurn : ℕ → ℕ → Moment → ℕ → ℕ → Why → Type 0
FailsTurn n d m x k Destination = x ≡ d
FailsTurn n d m x k Capped = ¬ (x ≡ d) × (n ≤ count_at m x)
FailsTurn n d m x k NotSink = ¬ (x ≡ d) × (count_at m x < n) × ¬ IsSink m.links x
FailsTurn n d m x k WrongCount = CanTurn n d m x × ¬ (k ≡ count_at m x + 1)
FailsTurn n d m x k NoNode = ⊥
FailsTurn n d m x k NotHeld = ⊥
FailsTurn n d m x k NotMoved = ⊥
FailsTurn n d m x k NotCut = ⊥

-- the reply on node x fails this test, and none before it. Each other kind of reply has one test
abbrev pub FailsReply : ℕ → ℕ → Moment → ℕ → Reply → Why → Type 0
FailsReply n d m x (Turned k) why = FailsTurn n d m x k why
FailsReply n d m x (Held by) why = (why ≡ NotHeld) × ¬ Points m.links x by
FailsReply n d m x (Moved had k) why = (why ≡ NotMoved) × ¬ ((k ≡ count_at m x) × (had < k))
FailsReply n d m x Cut why = (why ≡ NotCut) × ¬ (count_at m x ≡ n)
FailsReply n d m x Sink why = (why ≡ NotSink) × ¬ IsSink m.links x

-- the entry fails this test, and none before it: its node is out of range, or its reply fails
abbrev pub Fails : ℕ → ℕ → Moment → Entry → Why → Type 0
Fails n d m e why = ((why ≡ NoNode) × (n ≤ e.node)) ⊎ ((e.node < n) × FailsReply n d m e.node e.reply why)

-- the entry at this place is the first one that is not legal after those before it
pub record IsBadAt (n d : ℕ) (m : Moment) (entries : List Entry) (index : ℕ) (why : Why) : Type 0 where
  pub front : List Entry
  pub bad : Entry
  pub back : List Entry
  pub parted : entries ≡ front ++ bad ∷ back
  pub place : length front ≡ index
  pub run : IsRun n d m front
  pub fails : Fails n d (after_all m front) bad why

-- why a history is refused: d is not a node; or it is a node, and the entry is the first one that is not legal in the
-- history from the counts 0. `Memory` is not a fault of entries
abbrev pub IsCheckFault : ℕ → ℕ → List (ℕ × ℕ) → List Entry → CheckFault → Type 0
IsCheckFault n d first entries Range = n ≤ d
IsCheckFault n d first entries (BadAt index why) = (d < n)
    × IsBadAt n d (moment_of first (replicate n 0)) entries index why
IsCheckFault n d first entries Memory = ⊥

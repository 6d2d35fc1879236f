-- When a network is quiet. Full reversal ends when no node can turn (E. Gafni and D. Bertsekas, "Distributed Algorithms
-- for Generating Loop-Free Routes in Networks with Frequently Changing Topology", 1981), but a caller sees only
-- replies. These laws, which are this project's own, say exactly which replies show the end: since the last turn of any
-- worker, every linked node except the destination was held or cut. Then the counts are settled, and no node turns any
-- more. Conversely, if the counts are settled, such replies are possible.
use Rattle.std.specs.Prelude.{◌≡◌, ℕ, ◌<◌, List, ◌++◌, Contains}
use Rattle.atomic_table.specs.Table.{State}
use Rattle.fr_graph.specs.Counts.{AreLawful}
use Rattle.fr_graph.specs.Links.{IsNet, Joins}
use Rattle.fr_core.specs.History.{after_all, moment_of, turn_count}
use Rattle.fr_core.specs.Legal.{IsRun}
use Rattle.fr_core.specs.Settled.{AreSettled}
use Rattle.fr_core.specs.declared.entry.Entry.{Entry}
use Rattle.fr_core.specs.declared.entry.Reply.{Reply}
use Rattle.fr_core.specs.declared.entry.Reply.TheVariants.{Turned, Held, Moved, Cut, Sink}
use Rattle.fr_round.specs.Histories.{StartsWith}
use Rattle.fr_round.specs.Laws.{StandsBehind, workers_of}
use Rattle.fr_round.specs.Rule.{KeepsRule}
use Rattle.fr_round.specs.declared.view.Setup.{Setup}
use Rattle.fr_round.specs.declared.view.View.{View}

-- a reply that shows that the node cannot turn: a neighbour holds it, or its count is the cap
abbrev pub IsBlocked : Reply → Type 0
IsBlocked (Turned k) = ⊥
IsBlocked (Held by) = Unit {0}
IsBlocked (Moved had k) = ⊥
IsBlocked Cut = Unit {0}
IsBlocked Sink = ⊥

-- one of the entries shows that x cannot turn
pub record ShowsBlocked (entries : List Entry) (x : ℕ) : Type 0 where
  pub entry : Entry
  pub among : Contains entries entry
  pub node : entry.node ≡ x
  pub blocked : IsBlocked entry.reply

-- quiet entries: none is a turn, and each linked node except the destination is shown to be blocked. Any workers may
-- have made them, in any order, and they may contain other replies that turn nothing
pub record IsQuiet (d : ℕ) (first : List (ℕ × ℕ)) (entries : List Entry) : Type 0 where
  pub no_turn : turn_count entries ≡ 0
  pub blocked : (x : ℕ) → ¬ (x ≡ d) → ((w : ℕ) × Joins first x w) → ShowsBlocked entries x

-- Runs

-- Replies are *quiet* if, since the last turn, every node with a link, except the destination, was held or cut. If a
-- run from lawful counts ends with quiet replies, the counts at its end are the settled ones.
abbrev pub QuietIsSettled : Type 0
QuietIsSettled = (n d : ℕ) (first : List (ℕ × ℕ)) (counts : List ℕ) (h quiet : List Entry) → IsNet n first → d < n
    → AreLawful n d first counts → IsRun n d (moment_of first counts) (h ++ quiet) → IsQuiet d first quiet
    → AreSettled n d first (after_all (moment_of first counts) (h ++ quiet)).counts

-- The network stays quiet: no entry after quiet entries is a turn, and the counts stay the settled ones.
abbrev pub QuietIsForGood : Type 0
QuietIsForGood = (n d : ℕ) (first : List (ℕ × ℕ)) (counts : List ℕ) (h quiet more : List Entry) → IsNet n first → d < n
    → AreLawful n d first counts → IsRun n d (moment_of first counts) ((h ++ quiet) ++ more) → IsQuiet d first quiet
    → (turn_count more ≡ 0) × AreSettled n d first (after_all (moment_of first counts) ((h ++ quiet) ++ more)).counts

-- Conversely, a run that ends at settled counts can be continued by quiet entries, so being quiet requires no more
-- than settled counts.
abbrev pub SettledCanBeQuiet : Type 0
SettledCanBeQuiet = (n d : ℕ) (first : List (ℕ × ℕ)) (counts : List ℕ) (h : List Entry) → IsNet n first → d < n
    → AreLawful n d first counts → IsRun n d (moment_of first counts) h
    → AreSettled n d first (after_all (moment_of first counts) h).counts
    → (quiet : List Entry) × IsQuiet d first quiet × IsRun n d (moment_of first counts) (h ++ quiet)

-- Rounds

-- In each state that the rule of a round allows: if a history that explains the state contains quiet entries, at its
-- end or earlier, the words are the settled counts.
abbrev pub QuietRoundIsSettled : Type 0
QuietRoundIsSettled = (b : Setup) (s : State (Unit {0}) View) (history h quiet : List Entry) → b.dest < b.nodes
    → KeepsRule b s → StandsBehind b s history → StartsWith history (h ++ quiet) → IsQuiet b.dest b.links quiet
    → AreSettled b.nodes b.dest b.links s.words

-- So one worker is enough: if what it knows ends with quiet entries, the words are the settled counts, whatever the
-- other workers have done since.
abbrev pub WorkerKnowsQuiet : Type 0
WorkerKnowsQuiet = (b : Setup) (s : State (Unit {0}) View) (number : ℕ) (h quiet : List Entry) → b.dest < b.nodes
    → KeepsRule b s → Contains (workers_of s.views) (number, h ++ quiet) → IsQuiet b.dest b.links quiet
    → AreSettled b.nodes b.dest b.links s.words

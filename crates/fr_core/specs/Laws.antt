-- The laws of full reversal with counts (E. Gafni and D. Bertsekas, 1981; J. Welch and J. Walter, "Link Reversal
-- Algorithms", 2011). Each one is a clause of a function of src/laws.rt.
use Rattle.std.specs.Prelude.{◌≡◌, ℕ, ◌<◌, ◌≤◌, ◌+◌, ◌-◌, ◌*◌, ◌⊎◌, ◌↔◌, List}
use Rattle.std.specs.Prelude.{◌++◌, length, replicate, slice_index, slice_set, sum}
use Rattle.std.specs.List.Sorted.{IsPermutation}
use Rattle.std.specs.Option.{option_map}
use Rattle.fr_graph.specs.Links.{Points, Joins, IsAcyclic, IsNet, IsAlone, HasPath, HaveSameLinks}
use Rattle.fr_graph.specs.Turn.{IsSink, turn}
use Rattle.fr_graph.specs.Counts.{link_at, links_at, AreLawful}
use Rattle.fr_graph.specs.declared.first.First.{First}
use Rattle.fr_core.specs.Bounds.{MeetsBounds}
use Rattle.fr_core.specs.Finish.{IsFinish}
use Rattle.fr_core.specs.History.{Moment, moment_of, after_all, links_after, count_after, turn_count, turn_count_of}
use Rattle.fr_core.specs.Legal.{CanTurn, NoneCanTurn, IsRun}
use Rattle.fr_core.specs.Walks.{HasUndirectedWalk, IsConnected}
use Rattle.fr_core.specs.Senses.{first_link, link_by, sense_of}
use Rattle.fr_core.specs.Settled.{AreSettled}
use Rattle.fr_core.specs.Machine.{start, entries_of, state_after}
use Rattle.fr_core.specs.Played.{HasPart}
use Rattle.fr_core.specs.Runs.{IsRunTo}
use Rattle.fr_core.specs.Checks.{IsBadAt}
use Rattle.fr_core.specs.Targets.{AreAllAccepted}
use Rattle.fr_core.specs.declared.entry.Entry.{Entry}
use Rattle.fr_core.specs.declared.check.fault.Why.{Why}
use Rattle.fr_core.specs.declared.targets.Target.{Target}

-- Links and counts

-- The links that counts give contain no cycle.
abbrev pub NoLoopStands : Type 0
NoLoopStands = (first : List (ℕ × ℕ)) (counts : List ℕ) → IsAcyclic first → IsAcyclic (links_at first counts)

-- A link that counts give is a first link whose ends have equal counts, or the reverse of a first link whose head has
-- one more.
abbrev pub LinksComeFromFirst : Type 0
LinksComeFromFirst = (first : List (ℕ × ℕ)) (counts : List ℕ) (u v : ℕ) → Points (links_at first counts) u v
    ↔ ((Points first u v × (slice_index counts v ≡ slice_index counts u))
    ⊎ (Points first v u × (slice_index counts u ≡ slice_index counts v + 1)))

-- The sense of a link, computed from the counts of its ends, is the direction that the counts give it.
abbrev pub SenseShowsTheLink : Type 0
SenseShowsTheLink = (counts : List ℕ) (x w : ℕ) (way : First)
    → link_at counts (first_link x w way)
    ≡ option_map (link_by x w) (sense_of way (slice_index counts x) (slice_index counts w))

-- The links that lawful counts give are a network.
abbrev pub LawfulGivesANet : Type 0
LawfulGivesANet = (n d : ℕ) (first : List (ℕ × ℕ)) (counts : List ℕ) → IsNet n first → AreLawful n d first counts
    → IsNet n (links_at first counts)

-- The links that lawful counts give are those of a network.
abbrev pub ZerosGiveFirst : Type 0
ZerosGiveFirst = (n d : ℕ) (first : List (ℕ × ℕ))
    → (links_at first (replicate n 0) ≡ first) × AreLawful n d first (replicate n 0)

-- The links in another order are the same network, with the same lawful and settled counts, connected nodes and
-- sinks.
abbrev pub OrderDoesNotMatter : Type 0
OrderDoesNotMatter = (n d : ℕ) (first other : List (ℕ × ℕ)) (counts : List ℕ) → IsPermutation first other
    → (IsNet n first → IsNet n other) × (AreLawful n d first counts → AreLawful n d other counts)
    × (AreSettled n d first counts → AreSettled n d other counts)
    × HaveSameLinks (links_at first counts) (links_at other counts)
    × ((x : ℕ) → IsConnected first d x → IsConnected other d x) × ((x : ℕ) → IsSink first x → IsSink other x)

-- Turns and runs

-- A turn changes the links exactly as its count does, and the counts stay lawful.
abbrev pub TurnIsACount : Type 0
TurnIsACount = (n d : ℕ) (first : List (ℕ × ℕ)) (counts : List ℕ) (x : ℕ) → IsNet n first
    → AreLawful n d first counts → CanTurn n d (moment_of first counts) x
    → (turn x (links_at first counts) ≡ links_at first (slice_set counts x (slice_index counts x + 1)))
    × AreLawful n d first (slice_set counts x (slice_index counts x + 1))

-- After a run from lawful counts, the counts are lawful and give the links.
abbrev pub RunKeepsLawful : Type 0
RunKeepsLawful = (n d : ℕ) (first : List (ℕ × ℕ)) (counts : List ℕ) (h : List Entry) → IsNet n first
    → AreLawful n d first counts → IsRun n d (moment_of first counts) h
    → ((after_all (moment_of first counts) h).links ≡ links_at first (after_all (moment_of first counts) h).counts)
    × AreLawful n d first (after_all (moment_of first counts) h).counts

-- The moment after a run has the links and the counts after its entries.
abbrev pub MomentIsAfter : Type 0
MomentIsAfter = (n d : ℕ) (first : List (ℕ × ℕ)) (counts : List ℕ) (h : List Entry) → length counts ≡ n
    → IsRun n d (moment_of first counts) h
    → ((after_all (moment_of first counts) h).links ≡ links_after (links_at first counts) h)
    × ((x : ℕ) → slice_index (after_all (moment_of first counts) h).counts x ≡ count_after counts h x)

-- The links never contain a cycle: at the end of each run from a network, the links are those that the counts give,
-- and contain no cycle.
abbrev pub NoLoopEverStands : Type 0
NoLoopEverStands = (n d : ℕ) (first : List (ℕ × ℕ)) (h : List Entry) → IsNet n first
    → IsRun n d (moment_of first (replicate n 0)) h
    → (links_after first h ≡ links_at first (after_all (moment_of first (replicate n 0)) h).counts)
    × IsAcyclic (links_after first h)

-- Each turn of a run adds one to the sum of the counts, which is at most n * n.
abbrev pub RunAddsUp : Type 0
RunAddsUp = (n d : ℕ) (first : List (ℕ × ℕ)) (counts : List ℕ) (h : List Entry) → IsNet n first
    → AreLawful n d first counts → IsRun n d (moment_of first counts) h
    → (sum (after_all (moment_of first counts) h).counts ≡ sum counts + turn_count h)
    × (sum counts + turn_count h ≤ n * n)

-- From lawful counts, a run of only turns leads to all lawful counts that are nowhere less. So from the counts 0 it
-- leads to all lawful counts.
abbrev pub LawfulIsReached : Type 0
LawfulIsReached = (n d : ℕ) (first : List (ℕ × ℕ)) (before counts : List ℕ) → IsNet n first
    → AreLawful n d first before → AreLawful n d first counts → ((x : ℕ) → slice_index before x ≤ slice_index counts x)
    → (h : List Entry) × IsRun n d (moment_of first before) h × (turn_count h ≡ length h)
    × (after_all (moment_of first before) h ≡ moment_of first counts)

-- Sinks

-- A node is a sink exactly if it has a link and the count of each neighbour meets its bound.
abbrev pub SinkByCounts : Type 0
SinkByCounts = (n d : ℕ) (first : List (ℕ × ℕ)) (counts : List ℕ) (x : ℕ) → AreLawful n d first counts
    → IsSink (links_at first counts) x ↔ MeetsBounds first counts x

-- Settled counts

-- No lawful count is greater than an away number.
abbrev pub LawfulIsAtMostAway : Type 0
LawfulIsAtMostAway = (n d : ℕ) (first : List (ℕ × ℕ)) (counts : List ℕ) (x away : ℕ) → AreLawful n d first counts
    → HasUndirectedWalk first d x away → slice_index counts x ≤ away

-- If no node can turn, lawful counts are settled.
abbrev pub NoTurnLeftIsSettled : Type 0
NoTurnLeftIsSettled = (n d : ℕ) (first : List (ℕ × ℕ)) (counts : List ℕ) → IsNet n first → d < n
    → AreLawful n d first counts → NoneCanTurn n d (moment_of first counts) → AreSettled n d first counts

-- The settled counts are lawful, and no node can turn at them.
abbrev pub SettledLeavesNoTurn : Type 0
SettledLeavesNoTurn = (n d : ℕ) (first : List (ℕ × ℕ)) (counts : List ℕ) → IsNet n first → d < n
    → AreSettled n d first counts → AreLawful n d first counts × NoneCanTurn n d (moment_of first counts)

-- There is only one list of settled counts.
abbrev pub SettledIsUnique : Type 0
SettledIsUnique = (n d : ℕ) (first : List (ℕ × ℕ)) (some other : List ℕ) → AreSettled n d first some
    → AreSettled n d first other → some ≡ other

-- No lawful count is greater than the settled one.
abbrev pub LawfulIsAtMostSettled : Type 0
LawfulIsAtMostSettled = (n d : ℕ) (first : List (ℕ × ℕ)) (counts settled : List ℕ) (x : ℕ)
    → AreLawful n d first counts → AreSettled n d first settled → x < n → slice_index counts x ≤ slice_index settled x

-- A node with links has the settled count 0 exactly if a path along the links leads from it to the destination.
abbrev pub ZeroIsAPath : Type 0
ZeroIsAPath = (n d : ℕ) (first : List (ℕ × ℕ)) (counts : List ℕ) (x : ℕ) → AreSettled n d first counts → x < n
    → ¬ IsAlone first x → (slice_index counts x ≡ 0) ↔ HasPath first x d

-- A node with links has the settled count n exactly if it is not connected to the destination.
abbrev pub CapIsNotJoined : Type 0
CapIsNotJoined = (n d : ℕ) (first : List (ℕ × ℕ)) (counts : List ℕ) (x : ℕ) → IsNet n first → d < n
    → AreSettled n d first counts → x < n → ¬ IsAlone first x → (slice_index counts x ≡ n) ↔ (¬ IsConnected first d x)

-- The settled count of a node that is connected to the destination is less than n.
abbrev pub JoinedIsBelowCap : Type 0
JoinedIsBelowCap = (n d : ℕ) (first : List (ℕ × ℕ)) (counts : List ℕ) (x : ℕ) → IsNet n first → d < n
    → AreSettled n d first counts → IsConnected first d x → slice_index counts x < n

-- The settled count of a node shows whether it is connected to the destination.
abbrev pub JoinedByCounts : Type 0
JoinedByCounts = (n d : ℕ) (first : List (ℕ × ℕ)) (counts : List ℕ) (x : ℕ) → IsNet n first → d < n
    → AreSettled n d first counts
    → IsConnected first d x ↔ ((x ≡ d) ⊎ (((w : ℕ) × Joins first x w) × (slice_index counts x < n)))

-- Every schedule ends at the same counts

-- Each network has settled counts.
abbrev pub EachNetSettles : Type 0
EachNetSettles = (n d : ℕ) (first : List (ℕ × ℕ)) → IsNet n first → d < n
    → (counts : List ℕ) × AreSettled n d first counts

-- Each run can be continued by turns until no node can turn, and the counts are then the settled ones.
abbrev pub EachRunSettles : Type 0
EachRunSettles = (n d : ℕ) (first : List (ℕ × ℕ)) (counts : List ℕ) (h : List Entry) → IsNet n first → d < n
    → AreLawful n d first counts → IsRun n d (moment_of first counts) h
    → (more : List Entry) × IsRun n d (moment_of first counts) (h ++ more) × (turn_count more ≡ length more)
    × NoneCanTurn n d (after_all (moment_of first counts) (h ++ more))
    × AreSettled n d first (after_all (moment_of first counts) (h ++ more)).counts

-- All runs from lawful counts after which no node can turn end at the same moment.
abbrev pub RunsEndAlike : Type 0
RunsEndAlike = (n d : ℕ) (first : List (ℕ × ℕ)) (b c : List ℕ) (some other : List Entry) → IsNet n first → d < n
    → AreLawful n d first b → AreLawful n d first c
    → IsRun n d (moment_of first b) some → IsRun n d (moment_of first c) other
    → NoneCanTurn n d (after_all (moment_of first b) some) → NoneCanTurn n d (after_all (moment_of first c) other)
    → after_all (moment_of first b) some ≡ after_all (moment_of first c) other

-- From lawful counts, a run of only turns leads to the settled ones, and the number of its turns is the difference of
-- the sums.
abbrev pub RunLeadsToSettled : Type 0
RunLeadsToSettled = (n d : ℕ) (first : List (ℕ × ℕ)) (counts settled : List ℕ) → IsNet n first → d < n
    → AreLawful n d first counts → AreSettled n d first settled
    → (sum counts ≤ sum settled) × IsFinish n d first counts settled (sum settled - sum counts)

-- A run makes at most as many turns of a node as its settled count, and none if the node has a path to the
-- destination.
abbrev pub TurnsAreBounded : Type 0
TurnsAreBounded = (n d : ℕ) (first : List (ℕ × ℕ)) (counts settled : List ℕ) (h : List Entry) (x : ℕ) → IsNet n first
    → d < n → AreLawful n d first counts → AreSettled n d first settled
    → IsRun n d (moment_of first counts) h → x < n
    → (slice_index counts x + turn_count_of x h ≤ slice_index settled x) × (HasPath first x d → turn_count_of x h ≡ 0)

-- What one worker's loads of counts show

-- A neighbour whose count misses its bound holds x, if the bound is for a count that x has or had.
abbrev pub MissedBoundHolds : Type 0
MissedBoundHolds = (n d : ℕ) (first : List (ℕ × ℕ)) (counts : List ℕ) (x w had : ℕ) → AreLawful n d first counts
    → had ≤ slice_index counts x
    → (Points first x w × (slice_index counts w < had + 1)) ⊎ (Points first w x × (slice_index counts w < had))
    → Points (links_at first counts) x w

-- If counts that were loaded earlier met their bounds, x is a sink, provided that it has kept its count.
abbrev pub SeenBoundsSink : Type 0
SeenBoundsSink = (n d : ℕ) (first : List (ℕ × ℕ)) (counts : List ℕ) (x : ℕ) (seen : ℕ → ℕ)
    → AreLawful n d first counts → ((w : ℕ) → seen w ≤ slice_index counts w)
    → (w : ℕ) × Joins first x w → ((w : ℕ) → Points first x w → slice_index counts x + 1 ≤ seen w)
    → ((w : ℕ) → Points first w x → slice_index counts x ≤ seen w) → IsSink (links_at first counts) x

-- The machine

-- Under every schedule, the entries that the machine decides are a run from the first links to its counts.
abbrev pub MachineRuns : Type 0
MachineRuns = (n d : ℕ) (first : List (ℕ × ℕ)) (targets : List (List Target)) (schedule : List ℕ) → IsNet n first
    → AreAllAccepted n d first targets
    → IsRunTo n d first (entries_of n first (start n targets) schedule)
    (state_after n first (start n targets) schedule).counts

-- Each worker's part of them is its replies in order, an answer to each target that it has used up.
abbrev pub PartsAreReplies : Type 0
PartsAreReplies = (n : ℕ) (first : List (ℕ × ℕ)) (targets : List (List Target)) (schedule : List ℕ) (k : ℕ)
    → HasPart n first targets schedule (entries_of n first (start n targets) schedule) k

-- Checking

-- A history with a bad entry is not a run.
abbrev pub BadIsNoRun : Type 0
BadIsNoRun = (n d : ℕ) (m : Moment) (entries : List Entry) (index : ℕ) (why : Why) → IsBadAt n d m entries index why
    → ¬ IsRun n d m entries

-- Each history is a run, or has a first bad entry.
abbrev pub RunOrBad : Type 0
RunOrBad = (n d : ℕ) (m : Moment) (entries : List Entry)
    → IsRun n d m entries ⊎ ((index : ℕ) × (why : Why) × IsBadAt n d m entries index why)

-- No history has two first bad entries, and no entry is bad for two reasons.
abbrev pub OneIsBad : Type 0
OneIsBad = (n d : ℕ) (m : Moment) (entries : List Entry) (i j : ℕ) (why other : Why) → IsBadAt n d m entries i why
    → IsBadAt n d m entries j other → (i ≡ j) × (why ≡ other)

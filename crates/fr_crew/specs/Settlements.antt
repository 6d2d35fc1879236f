-- What it means to settle a network. This project's own; a settled network is destination-oriented in the sense of
-- Gafni and Bertsekas (1981) in the part that contains the destination.
use Rattle.std.specs.Prelude.{◌≡◌, ℕ, ◌<◌, ◌≤◌, ◌+◌, List, Option, IfSome, length, map, replicate, sum, sum_by}
use Rattle.std.specs.Borrow.{Bor}
use Rattle.std.specs.List.{All, AllByRecursion as Each, Contains}
use Rattle.fr_graph.specs.Network.{Network, net_of}
use Rattle.fr_graph.specs.Counts.{links_at}
use Rattle.fr_graph.specs.Turn.{IsSink}
use Rattle.fr_core.specs.Finish.{IsFinish}
use Rattle.fr_core.specs.History.{part, turn_count}
use Rattle.fr_core.specs.Runs.{IsRunTo}
use Rattle.fr_core.specs.Settled.{AreSettled}
use Rattle.fr_core.specs.Work.{IsWithinWork}
use Rattle.fr_core.specs.declared.entry.Entry.{Entry}
use Rattle.fr_round.specs.Histories.{AreApart}
use Rattle.fr_crew.specs.Gates.{EachBefore}
use Rattle.fr_crew.specs.declared.plan.Plan.{Plan}
use Rattle.fr_crew.specs.declared.settlement.CrewWork.{CrewWork}
use Rattle.fr_crew.specs.declared.settlement.Settled.{Settled}

-- the network with these first links is settled: the destination is a node
pub record IsSettlement (n d : ℕ) (first : List (ℕ × ℕ)) (s : Settled) : Type 0 where
  pub destination : d < n
  -- the counts are the settled ones
  pub counts : AreSettled n d first s.counts.items
  -- the links are those that the counts give
  pub links : s.net ≡ net_of n (links_at first s.counts.items)
  -- the turns of the workers and of the finisher add up to the counts
  pub turns : s.by_workers + s.by_finisher ≡ sum s.counts.items
  -- and no more than the bound for these first links
  pub most : IsWithinWork n d first (sum s.counts.items)

-- each of the workers 0 to k - 1 has one pair, which begins with its number
pub record AreNumbered (k : ℕ) (turned : List (ℕ × ℕ)) : Type 0 where
  pub one_each : length turned ≡ k
  pub apart : AreApart (map (λ (p : ℕ × ℕ). p.0) turned)
  pub in_range : Each (λ (p : ℕ × ℕ). p.0 < k) turned

-- the calls of one worker in a history: no more than its budget, and numbered from 1, each has passed the gate
pub record AreCallsWithin (budget : ℕ) (passed : ℕ → ℕ → Type 0) (history : List Entry) (number : ℕ) : Type 0 where
  pub few : length (part number history) ≤ budget
  pub each_passed : EachBefore (length (part number history) + 1) (passed number)

-- the workers of a plan have turned nodes, each node as often as its count says: there is a history of calls by these
-- workers,
pub record AreByWorkers (n d : ℕ) (first : List (ℕ × ℕ)) (plan : Plan) (passed : ℕ → ℕ → Type 0) (counts : List ℕ)
    (turned : List (ℕ × ℕ)) : Type 0 where
  pub history : List Entry
  pub of_workers : Each (λ (e : Entry). e.worker < plan.workers) history
  -- which is a run of full reversal by one thread from the first links to the counts,
  pub run : IsRunTo n d first history counts
  -- each worker has one pair,
  pub numbered : AreNumbered plan.workers turned
  -- has made at most as many calls as its budget, each within the gate,
  pub calls : Each (λ (p : ℕ × ℕ). AreCallsWithin plan.budget passed history p.0) turned
  -- and its pair says how many of its own calls in the history are turns,
  pub own : Each (λ (p : ℕ × ℕ). p.1 ≡ turn_count (part p.0 history)) turned
  -- and together these are the counts
  pub total : sum_by (λ (p : ℕ × ℕ). p.1) turned ≡ sum counts

-- the workers of a plan and the finisher have settled the network: the workers have turned nodes up to some counts,
pub record IsCrewWork (n d : ℕ) (first : List (ℕ × ℕ)) (plan : Plan) (passed : ℕ → ℕ → Type 0) (work : CrewWork)
    : Type 0 where
  pub workers : AreByWorkers n d first plan passed work.left.items work.turned.items
  -- with as many turns as these counts add up to,
  pub by_workers : work.settled.by_workers ≡ sum work.left.items
  -- and the finisher has gone on from these counts to the settled ones
  pub finisher : IsFinish n d first work.left.items work.settled.counts.items work.settled.by_finisher

-- the settled counts of a network: the destination is a node
pub record IsCounted (n d : ℕ) (first : List (ℕ × ℕ)) (counts : List ℕ) : Type 0 where
  pub destination : d < n
  -- each count is the settled one
  pub settled : AreSettled n d first counts
  -- there are no more turns than the bound for these first links
  pub most : IsWithinWork n d first (sum counts)

-- the list has only nodes of the network, and includes each sink except d
pub record HoldsSinks (net : Network) (d : ℕ) (from : List ℕ) : Type 0 where
  pub nodes : All (λ (x : ℕ). x < net.nodes) from
  pub sinks : (x : ℕ) → IsSink net.links x → ¬ (x ≡ d) → Contains from x

-- what a settlement begins with: a table in which no node has turned, and, if nodes are given, only nodes that include
-- each sink except d
pub record CanBegin (net : Network) (d : ℕ) (from : Option (Bor (List ℕ))) (turns : List ℕ) : Type 0 where
  pub from_sinks : IfSome from (λ from. HoldsSinks net d from.now)
  pub none : turns ≡ replicate net.nodes 0

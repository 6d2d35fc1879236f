-- Logs that are one run: a history of all threads of which each log is one thread's part (M. Herlihy and J. Wing,
-- "Linearizability", ACM Transactions on Programming Languages and Systems, 1990, call that part a subhistory).
use Rattle.std.specs.Prelude.{◌≡◌, ℕ, ◌<◌, List, length, Some, slice_get}
use Rattle.std.specs.List.{AllByRecursion as Each}
use Rattle.fr_core.specs.History.{part, turn_count}
use Rattle.fr_core.specs.Runs.{IsRunTo}
use Rattle.fr_core.specs.Targets.{lists_of}
use Rattle.fr_core.specs.declared.entry.Entry.{Entry}
use Rattle.fr_core.specs.declared.targets.Target.{Target}
use Rattle.fr_round.specs.declared.view.Setup.{Setup}
use Rattle.fr_logs.specs.declared.closing.Logged.{Logged}
use Rattle.fr_logs.specs.Recording.{AnswersPlan}

-- the logs of workers 0, 1 and so on are one run: there is a history
pub record AreOneRun (n d : ℕ) (first : List (ℕ × ℕ)) (counts : List ℕ) (logs : List (List Entry)) : Type 0 where
  pub history : List Entry
  -- that is a run of full reversal by one thread from the first links to these counts,
  pub run : IsRunTo n d first history counts
  -- log k is what worker k did in it, in order,
  pub parts : (k : ℕ) (log : List Entry) → slice_get logs k ≡ Some log → log ≡ part k history
  -- and each of its entries is of one of the workers
  pub whole : Each (λ (e : Entry). e.worker < length logs) history

-- plans were followed in a round of this setup, each by a worker of its own:
pub record IsRunOfPlans (b : Setup) (plans : List (List Target)) (logged : Logged) : Type 0 where
  -- there is a log for each plan,
  pub logs : length logged.logs.items ≡ length plans
  -- together they are one run,
  pub one_run : AreOneRun b.nodes b.dest b.links logged.closed.counts.items (lists_of logged.logs.items)
  -- each answers its plan,
  pub answers : (k : ℕ) (plan : List Target) (log : List Entry) → slice_get plans k ≡ Some plan
      → slice_get (lists_of logged.logs.items) k ≡ Some log → AnswersPlan b plan log
  -- and its turns are counted
  pub turned : (k : ℕ) (log : List Entry) → slice_get (lists_of logged.logs.items) k ≡ Some log
      → slice_get logged.closed.turned.items k ≡ Some (k, turn_count log)

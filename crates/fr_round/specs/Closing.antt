-- The result of closing a round. This project's own.
use Rattle.std.specs.Prelude.{◌≡◌, ℕ, ◌<◌, List, length, map, sum, sum_by}
use Rattle.std.specs.List.{AllByRecursion as Each}
use Rattle.atomic_table.specs.Table.{State}
use Rattle.fr_core.specs.History.{part, turn_count}
use Rattle.fr_core.specs.Runs.{IsRunTo}
use Rattle.fr_core.specs.declared.entry.Entry.{Entry}
use Rattle.fr_round.specs.declared.view.View.{View}
use Rattle.fr_round.specs.Histories.{StartsWith, AreApart}
use Rattle.fr_round.specs.Knowledge.{Knowledge, OpenRound}
use Rattle.fr_round.specs.Rule.{KeepsRule}

-- a worker's number with the history that it knows, and with how often its own calls turned a node
abbrev pub number_and_known : Knowledge → ℕ × List Entry
number_and_known k = (k.number, k.known)

abbrev pub number_and_turns : Knowledge → ℕ × ℕ
number_and_turns k = (k.number, turn_count (part k.number k.known))

-- a worker that was given back knows a prefix of the history, in which its own calls are those that it made
pub record IsPartOf (history : List Entry) (k : Knowledge) : Type 0 where
  pub begins : StartsWith history k.known
  pub own : part k.number history ≡ part k.number k.known

-- a round ends: there is one history
pub record Closes (r : OpenRound) (workers : List Knowledge) (counts : List ℕ) (turned : List (ℕ × ℕ)) : Type 0 where
  pub history : List Entry
  -- it is a run of full reversal on one thread, from the first links to the counts at the end, whose links contain no
  -- cycle
  pub run : IsRunTo r.setup.nodes r.setup.dest r.setup.links history counts
  -- each of its entries is of a worker with which the round was opened
  pub opened : Each (λ (e : Entry). e.worker < r.setup.workers) history
  -- each worker that was given back knows a part of it
  pub parts : Each (IsPartOf history) workers
  -- these workers have different numbers, below the number of workers opened
  pub apart : AreApart (map (λ (k : Knowledge). k.number) workers)
  pub numbered : Each (λ (k : Knowledge). k.number < r.setup.workers) workers
  -- the pairs are their numbers and turns, in the order in which they were given back
  pub pairs : turned ≡ map number_and_turns workers
  -- if all workers came back, their turns add up to the counts
  pub all_back : length workers ≡ r.setup.workers → sum_by (λ (p : ℕ × ℕ). p.1) turned ≡ sum counts
  -- the counts are the words of a state that the rule of the round allows
  pub state : State (Unit {0}) View
  pub ruled : KeepsRule r.setup state
  pub same : ruled.history ≡ history
  pub words : state.words ≡ counts

-- The laws of logs that are one run. They are this project's own.
use Rattle.std.specs.Prelude.{◌≡◌, ℕ, List, ◌∷◌, ◌++◌, Some, replicate, slice_get}
use Rattle.fr_core.specs.History.{after_all, moment_of, part}
use Rattle.fr_core.specs.Legal.{IsLegal}
use Rattle.fr_core.specs.declared.entry.Entry.{Entry}
use Rattle.fr_logs.specs.Runs.{AreOneRun}

-- an entry of log k has a place in the run, behind what its worker did before it, and is legal there
pub record HasPlace (n d : ℕ) (first : List (ℕ × ℕ)) (history : List Entry) (k : ℕ) (before : List Entry)
    (e : Entry) (after : List Entry) : Type 0 where
  pub front : List Entry
  pub back : List Entry
  pub parted : history ≡ front ++ e ∷ back
  pub before_it : part k front ≡ before
  pub after_it : part k back ≡ after
  pub legal : IsLegal n d (after_all (moment_of first (replicate n 0)) front) e

-- Each entry of each log has a legal place in the run.
abbrev pub EachHasPlace : Type 0
EachHasPlace = (n d : ℕ) (first : List (ℕ × ℕ)) (counts : List ℕ) (logs : List (List Entry))
    (r : AreOneRun n d first counts logs)
    (k : ℕ) (before : List Entry) (e : Entry) (after : List Entry) → slice_get logs k ≡ Some (before ++ e ∷ after)
    → HasPlace n d first r.history k before e after

-- Every merge of the logs into a run leads to the same counts.
abbrev pub LogsShowTheEnd : Type 0
LogsShowTheEnd = (n d : ℕ) (first : List (ℕ × ℕ)) (counts others : List ℕ) (logs : List (List Entry))
    → AreOneRun n d first counts logs
    → AreOneRun n d first others logs → counts ≡ others

-- What the closing of a round with its logs says. The notions are this project's own.
use Rattle.std.specs.Prelude.{◌≡◌, List, map}
use Rattle.fr_core.specs.History.{part}
use Rattle.fr_core.specs.Targets.{lists_of}
use Rattle.fr_round.specs.Closing.{Closes}
use Rattle.fr_round.specs.Knowledge.{Knowledge, IsOwn, OpenRound}
use Rattle.fr_logs.specs.declared.closing.Logged.{Logged}
use Rattle.fr_logs.specs.Recording.{Recording}

-- the workers of recorders
abbrev pub workers_of : List Recording → List Knowledge
workers_of recorders = map (λ (r : Recording). r.worker) recorders

-- the recorder's worker is one of this round
abbrev pub IsOwnRecorder : OpenRound → Recording → Type 0
IsOwnRecorder round r = IsOwn round r.worker

-- a round ends, with the logs of the workers that were handed back:
pub record IsLogged (round : OpenRound) (workers : List Knowledge) (logged : Logged) : Type 0 where
  -- there is one run of full reversal by one thread, and all else that the closing of a round says,
  pub closes : Closes round workers logged.closed.counts.items logged.closed.turned.items
  -- and each log is its worker's part of that run, in the order in which the workers were handed back
  pub logs : lists_of logged.logs.items ≡ map (λ (k : Knowledge). part k.number closes.history) workers

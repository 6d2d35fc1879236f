-- The logs of the workers that were handed back.
use Rattle.std.proofs.Common.{◌≡◌, List, [], ◌∷◌, map, refl, sym}
use Rattle.std.specs.List.{AllByRecursion as Each}
use Rattle.fr_core.specs.History.{part}
use Rattle.fr_core.specs.declared.entry.Entry.{Entry}
use Rattle.fr_round.specs.Closing.{IsPartOf}
use Rattle.fr_round.specs.Knowledge.{Knowledge}
use Rattle.fr_logs.specs.Logged.{workers_of}
use Rattle.fr_logs.specs.Recording.{Recording, log_of}

-- each log is its worker's part of the history in which what it knows is a part
pub logs_are : (h : List Entry) (recorders : List Recording) → Each (IsPartOf h) (workers_of recorders)
    → map log_of recorders ≡ map (λ (k : Knowledge). part k.number h) (workers_of recorders)
logs_are h [] a = refl
logs_are h (r ∷ rs) a = λ i. sym a.0.own i ∷ logs_are h rs a.1 i

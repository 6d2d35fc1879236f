use Rattle.std.proofs.Common.{arith, refl, subst, sym, ◌++◌}
use Rattle.fr_core.proofs.Finishing.{ends_alike, finish, settled_exists, settled_at_end}
use Rattle.fr_core.proofs.Paths.{path_gives_zero}
use Rattle.fr_core.proofs.Rounds.{after_all-append, run_append}
use Rattle.fr_core.proofs.Runs.{run_count}
use Rattle.fr_core.proofs.SettledRuns.{run_to_settled}
use Rattle.fr_core.proofs.Turning.{run_keeps}
use Rattle.fr_core.proofs.Unique.{lawful_le_settled}
use Rattle.fr_core.specs.History.{Moment, after_all, moment_of}
use Rattle.fr_core.specs.Legal.{NoneCanTurn}
use Rattle.fr_core.proofs.laws.schedule_law.Goals as goal

pub returns-clause-exists : goal.returns-clause-exists
returns-clause-exists c = settled_exists

pub returns-clause-each : goal.returns-clause-each
returns-clause-each c = λ n d first counts entries net below lawful run.
    let start : Moment = moment_of first counts in
    let middle : Moment = after_all start entries in
    let at = run_keeps n d first net start (record { links = refl; lawful = lawful }) entries run in
    let f = finish n d first net middle at in
    let whole = run_append n d start entries f.entries run f.run in
    let end = run_keeps n d first net start (record { links = refl; lawful = lawful }) (entries ++ f.entries) whole in
    let none_left : NoneCanTurn n d (after_all start (entries ++ f.entries)) =
    subst (NoneCanTurn n d) (sym (after_all-append start entries f.entries)) f.ends in (
      f.entries,
      whole,
      f.turns_alone,
      none_left,
      settled_at_end n d first net below (after_all start (entries ++ f.entries)) end none_left,
    )

pub returns-clause-alike : goal.returns-clause-alike
returns-clause-alike c = λ n d first b e some other net below lb le rb re sb se.
    ends_alike n d first net below _ _
    (run_keeps n d first net (moment_of first b) (record { links = refl; lawful = lb }) some rb)
    (run_keeps n d first net (moment_of first e) (record { links = refl; lawful = le }) other re) sb se

pub returns-clause-leads : goal.returns-clause-leads
returns-clause-leads c = run_to_settled

pub returns-clause-bounded : goal.returns-clause-bounded
returns-clause-bounded c = λ n d first counts settled entries x net below lawful ends run l.
    let at = run_keeps n d first net (moment_of first counts) (record { links = refl; lawful = lawful }) entries run in
    let most = lawful_le_settled n d first _ settled at.lawful ends x l in
    let count = run_count n d (moment_of first counts) entries lawful.one_each run x in (
      omega (arith, most, count),
      λ path. omega (arith, most, count, path_gives_zero n d first x _ (ends.settled x l) path),
    )

use Rattle.std.proofs.Common.{◌≡◌, ℕ, zero, suc, refl, arith}
use Rattle.std.specs.List.{AllByRecursion as Each}
use Rattle.fr_round.specs.Knowledge.{OpenRound, IsOwn, new_worker, new_workers}
use Rattle.fr_round.proofs.StepsKeepTheRule.{each_snoc}
use Rattle.fr_crew.proofs.Workers.{as_many_as_asked}
use Rattle.test_rounds.proofs.rounds.opened.Goals as goal

-- the workers of a new round are its own
new_workers_own : (round : OpenRound) (k : ℕ) → Each (IsOwn round) (new_workers round.table round.setup k)
new_workers_own round zero = tt
new_workers_own round (suc k) = each_snoc (IsOwn round) (new_workers round.table round.setup k)
    (new_worker round.table round.setup k) (new_workers_own round k) (record { table = refl; setup = refl })

pub returns-in-Ok-clause-own : goal.returns-in-Ok-clause-own
returns-in-Ok-clause-own c = rw c.in-Ok.ensures.workers (new_workers_own c.in-Ok.opened.0 c.args.count)

pub returns-in-Ok-clause-fresh : goal.returns-in-Ok-clause-fresh
returns-in-Ok-clause-fresh c = c.in-Ok.ensures.not_begun.knows

pub returns-in-Ok-clause-all : goal.returns-in-Ok-clause-all
returns-in-Ok-clause-all c =
    omega (
      arith,
      as_many_as_asked c.in-Ok.opened.0 c.args.count c.in-Ok.opened.1.items c.in-Ok.ensures.workers,
      c.in-Ok.opened.1.ok.0,
    )

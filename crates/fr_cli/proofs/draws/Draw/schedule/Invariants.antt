use Rattle.std.proofs.Common.{◌≡◌, ℕ, ◌+◌, ◌++◌}
use Rattle.fr_cli.specs.Draws.{draws, seeded}
use Rattle.fr_cli.proofs.draws.Draw.schedule.Given as goal

-- whatever number of steps is left, their draws come after those taken
abbrev pub invariant-loop-step : goal.invariant-loop-step
invariant-loop-step l =
    (k : ℕ) → draws (seeded l.self.seed) (l._step + k) l.self.workers ≡ l.schedule.items
    ++ draws l.generator k l.self.workers

-- The schedule that is drawn from a seed. This project's own; the generator is PCG32 (M. E. O'Neill, "PCG: A Family of
-- Simple Fast Space-Efficient Statistically Good Algorithms for Random Number Generation", 2014), seeded as the crate
-- `rand_pcg` does.
use Rattle.std.specs.Prelude.{ℕ, zero, suc, ◌%◌, List, [], ◌∷◌}
use Rattle.rand_core.specs.Pcg32Seed.{pcg32_seed}
use Rattle.rand_pcg.specs.Lcg.{Lcg}
use Rattle.rand_pcg.specs.Pcg.{pcg32, pcg32_of_seed}

-- the greatest number of steps of a play
abbrev pub most_steps : ℕ
most_steps = 10000

-- the generator with this seed
unfoldable pub seeded : ℕ → Lcg
seeded seed = pcg32_of_seed (pcg32_seed 16 seed)

-- `steps` words of a generator, one after the other, each modulo the number of workers
unfoldable pub draws : Lcg → ℕ → ℕ → List ℕ
draws generator zero workers = []
draws generator (suc steps) workers = (pcg32 generator).0 % workers ∷ draws (pcg32 generator).1 steps workers

-- the schedule of so many steps of these workers
abbrev pub drawn : ℕ → ℕ → ℕ → List ℕ
drawn seed steps workers = draws (seeded seed) steps workers

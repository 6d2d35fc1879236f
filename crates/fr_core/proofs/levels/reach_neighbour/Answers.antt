use Rattle.std.proofs.Common.{arith, refl, rules, ℕ, ◌≡◌}
use Rattle.fr_core.proofs.Reaching.{reaches_one}
use Rattle.fr_core.proofs.levels.reach_neighbour.Goals as goal

pub returns-clause-only : goal.returns-clause-only
returns-clause-only c =
    rw c.push.ensures (reaches_one c.args.net.now.nodes c.args.level.count c.args.counts.now c.args.queue.now
    c.args.entry.0
    c.requires.one_each c.requires.node c.requires.few c.requires.low (omega arith) (λ (x : ℕ). (x ≡ c.args.entry.0)
    × (c.args.entry.1 ≡ c.args.level.wanted)) (refl, search rules))

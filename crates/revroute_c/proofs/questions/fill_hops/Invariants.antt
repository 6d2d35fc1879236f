use Rattle.std.proofs.Common.{get_or, length, ℕ, ◌<◌, ◌≡◌}
use Rattle.fr_tables.specs.declared.hop.Hop.TheVariants.{Here}
use Rattle.revroute_c.specs.Questions.{number_of}
use Rattle.revroute_c.proofs.questions.fill_hops.Given as goal

abbrev pub invariant-loop-at : goal.invariant-loop-at
invariant-loop-at l =
    (length l.place ≡ length l.hops) × ((y : ℕ) → y < l.at → get_or l.place y 0 ≡ number_of (get_or l.hops y Here))

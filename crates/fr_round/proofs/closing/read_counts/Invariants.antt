use Rattle.std.proofs.Common.{◌≡◌, ◌<◌, ℕ, get_or}
use Rattle.std.specs.Slots.{slots_items}
use Rattle.fr_round.proofs.closing.read_counts.Given as goal

abbrev pub invariant-loop-i : goal.invariant-loop-i
invariant-loop-i l = (k : ℕ) → k < l.i → get_or l.counts k 0 ≡ get_or (slots_items l.closed.words) k 0

use Rattle.std.proofs.Common.{Contains, All, length, vec_capacity, ℕ, [], ◌++◌, ◌-◌, ◌<◌, ◌∷◌, ◌≡◌, ◌≤◌, ◌⊎◌}
use Rattle.fr_tables.specs.Inside.{IsTrail}
use Rattle.fr_tables.proofs.waves.follow_to_known_group.Given as goal

abbrev pub invariant-loop-at : goal.invariant-loop-at
invariant-loop-at l = record {
  room : length l.new ≤ vec_capacity l.walk;
  trail : IsTrail l.new (l.walk.items ++ l.at ∷ []);
  inside : All (λ (x : ℕ). x < length l.new) l.walk.items;
  low : l.at < length l.new;
  met : Contains l.walk.items l.x ⊎ (l.at ≡ l.x);
}

abbrev pub decreases-loop-at : goal.decreases-loop-at
decreases-loop-at l = length l.new - length l.walk.items

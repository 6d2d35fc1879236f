-- What a node has announced. The definitions are this project's own.
use Rattle.std.specs.Prelude.{ℕ, ◌≡◌, ◌<◌, ◌≤◌}
use Rattle.fr_node.specs.declared.own.Own.{Own}

-- h can be what the node has announced, by numbers. The node knows its last announcement, and numbers from which on no
-- announcement was below the height in use, or below the last height
pub record IsHistory (own : Own) (h : ℕ → ℕ) : Type 0 where
  pub last : h own.number ≡ own.announced
  pub used : (n : ℕ) → own.used_since ≤ n → n ≤ own.number → own.used ≤ h n
  pub announced : (n : ℕ) → own.announced_since ≤ n → n ≤ own.number → own.announced ≤ h n
  pub order : own.used ≤ own.announced
  pub begins : (0 < own.used_since) × (0 < own.announced_since)
  pub ends : (own.used_since ≤ own.number) × (own.announced_since ≤ own.number)

-- the node has made announcements, or none, and may use another height. What it had announced stays
pub record Announces (old new : Own) : Type 0 where
  pub me : new.me ≡ old.me
  pub boot : new.boot ≡ old.boot
  pub number : old.number ≤ new.number
  pub history : (h : ℕ → ℕ) → IsHistory old h
      → (k : ℕ → ℕ) × IsHistory new k × ((n : ℕ) → n ≤ old.number → k n ≡ h n)

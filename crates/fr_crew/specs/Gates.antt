-- The calls of one worker, which are numbered from 1. This project's own.
use Rattle.std.specs.Prelude.{ℕ, ◌<◌, ◌≤◌}

-- each call before the call with this number has the property
abbrev pub EachBefore : ℕ → (ℕ → Type 0) → Type 0
EachBefore call Has = (k : ℕ) → 1 ≤ k → k < call → Has k

-- The parts of a call that pushes a new table of ways, and the words of this table. For proofs only.
use Rattle.std.specs.Prelude.{◌≡◌, ℕ, Bool, List, [], ◌∷◌, cond, filter, map}
use Rattle.std.specs.List.{range_with_len}
use Rattle.fr_ways.specs.Phases.{differs, empties, sheds}
use Rattle.fr_ways.specs.Ways.{ways}
use Rattle.fr_shared.specs.declared.view.Push.{Push}
use Rattle.fr_shared.specs.Histories.{push}
use Rattle.fr_shared.specs.WayTables.{Fit, ways_of, word_of}

-- whether x loses ways and keeps none, or whether it loses ways and keeps others
abbrev pub drops : Bool → List (List ℕ) → List (List ℕ) → ℕ → Bool
drops emptied old new x = cond emptied (empties old new x) (sheds old new x)

-- whether the tables have other ways of x
abbrev pub changes : List (List ℕ) → List (List ℕ) → ℕ → Bool
changes old new x = differs (ways old x) (ways new x)

-- a push of this list to x, if the test holds
abbrev pub push_if : Bool → ℕ → List ℕ → List (Push (List ℕ))
push_if test x list = cond test (push x list ∷ []) []

-- the pushes to the nodes below this one for which the test holds
abbrev pub pushes_below : (ℕ → Bool) → (ℕ → List ℕ) → ℕ → List (Push (List ℕ))
pushes_below test list_of below = map (λ (x : ℕ). push x (list_of x)) (filter test (range_with_len 0 below))

-- the table that these words hold
abbrev pub held_table : List ℕ → List (List ℕ)
held_table words = map ways_of words

-- each word is that of the ways that it holds
pub record AreWords (words : List ℕ) : Type 0 where
  pub again : words ≡ map word_of (held_table words)
  pub fit : (x : ℕ) → Fit (ways (held_table words) x)

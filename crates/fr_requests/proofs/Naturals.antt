-- The numbers of JSON that are natural numbers.
use Rattle.std.proofs.Common.{Bool, List, None, Some, drop, false, if◌then◌else◌}
use Rattle.std.proofs.Common.{option_and_then, refl, slice_index, true}
use Rattle.std.proofs.Common.{ℕ, ◌==◌, ◌≡◌}
use Rattle.std.specs.Prelude.{Float, ℤ}
use Rattle.fast_float.specs.Text.{scan}
use Rattle.serde_json.specs.Data.{float, negative}
use Rattle.serde_json.specs.Find.{as_u64}
use Rattle.serde_json.specs.Read.{number_from, number_of}

pub negative_number : (s : List ℕ) → (slice_index s 0 == 45) ≡ true → number_of s ≡ number_from true (scan (drop 1 s))
unfolding number_of
negative_number s minus = rw minus refl

pub unsigned_number : (s : List ℕ) → (slice_index s 0 == 45) ≡ false → number_of s ≡ number_from false (scan s)
unfolding number_of
unsigned_number s none = rw none refl

-- a number after a minus is no natural number
pub no_natural : (s : List ℕ) → (slice_index s 0 == 45) ≡ true → None ≡ option_and_then as_u64 (number_of s)
no_natural s minus = rw (negative_number s minus) (by_sign _ _ _ _)
  where
    by_sign : (fits finite : Bool) (n : ℤ) (x : Float) → None ≡ option_and_then as_u64
        (if fits then Some (negative n) else (if finite then Some (float x) else None))
    by_sign true finite n x = refl
    by_sign false true n x = refl
    by_sign false false n x = refl

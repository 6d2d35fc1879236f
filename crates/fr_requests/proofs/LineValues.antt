-- The value of a line, from the contract of `serde_json`.
use Rattle.std.proofs.Common.{Bool, List, None, false, refl, true, ℕ, ◌≡◌}
use Rattle.std.proofs.lemmas.Str.{IsUtf8-from_is_utf8, is_utf8-from_IsUtf8}
use Rattle.std.specs.Str.{IsUtf8, is_utf8}
use Rattle.serde_json.specs.Read.{read}
use Rattle.fr_requests.specs.Requests.{value_of_line}

-- text is read unchanged
pub value_of_text : (line : List ℕ) → IsUtf8 line → value_of_line line ≡ read line
value_of_text line h = rw (is_utf8-from_IsUtf8 line h)

-- a line has no value if it is not text, or is text without a value
pub no_value : (line : List ℕ) → (IsUtf8 line → read line ≡ None) → value_of_line line ≡ None
no_value line none = go (is_utf8 line) refl
  where
    go : (b : Bool) → is_utf8 line ≡ b → value_of_line line ≡ None
    go true e = rw e (none (IsUtf8-from_is_utf8 line e))
    go false e = rw e

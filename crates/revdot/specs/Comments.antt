-- Comments of an input, which ask for nothing. This project's own (docs/PICTURES.md); percent-encoding is that of RFC 3986.
use Rattle.std.specs.Prelude.{ℕ, ◌+◌, ◌-◌, ◌/◌, ◌%◌, ◌==◌, nat_le, nat_lt, ◌&&◌, ◌||◌, Bool, false, if◌then◌else◌, not}
use Rattle.std.specs.Prelude.{List, [], ◌∷◌, ◌++◌, codes, eqb}
use Rattle.std.specs.List.{filter, find, flat_map, starts_with}
use Rattle.std.specs.Option.{option_map_or}

abbrev pub is_space : ℕ → Bool
is_space x = x == 9 || x == 13 || x == 32

-- whether the first byte of a line that is not a tab, a carriage return or a space is '#'
abbrev pub is_comment : List ℕ → Bool
is_comment line = option_map_or (λ x. x == 35) (find (λ x. not (is_space x)) line) false

abbrev pub without_comments : List (List ℕ) → List (List ℕ)
without_comments lines = filter (λ line. not (is_comment line)) lines

-- whether a comment is for the viewer of a page: it says where nodes are, or what they are called
abbrev pub is_for_viewer : List ℕ → Bool
is_for_viewer line = starts_with eqb line (codes "# places ") || starts_with eqb line (codes "# names ")

-- whether a byte is written as it is: those of ASCII from the space to '~' are, without '%' and '<'
abbrev pub is_kept : ℕ → Bool
is_kept x = nat_le 32 x && (nat_le x 126 && (not (x == 37) && not (x == 60)))

-- a digit of base 16
abbrev pub hex_digit : ℕ → ℕ
hex_digit n = if nat_lt n 10 then 48 + n else 65 + (n - 10)

-- a byte as it is, or percent-encoded: '%' and two digits of base 16
abbrev pub encoded_byte : ℕ → List ℕ
encoded_byte x = if is_kept x then x ∷ [] else 37 ∷ (hex_digit (x / 16) ∷ (hex_digit (x % 16) ∷ []))

-- what a page has of a comment: a comment for the viewer is there as a line, percent-encoded, so that it cannot end the
-- script that has the story; any other one is not there
abbrev pub comment_text : List ℕ → List ℕ
comment_text line = if is_for_viewer line then flat_map encoded_byte line ++ codes "\n" else []

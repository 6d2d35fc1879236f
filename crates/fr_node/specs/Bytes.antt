-- Messages as bytes. The form is this project's own.
use Rattle.std.specs.Prelude.{List, ℕ, ◌++◌, ◌<◌, ◌^◌, ◌≡◌}
use Rattle.std.specs.Int.{to_be_bytes, w32, w64}
use Rattle.fr_node.specs.declared.message.Message.{Message}

-- a number in 4 bytes or in 8, the highest byte first
unfoldable pub bytes_4 : ℕ → List ℕ
bytes_4 n = to_be_bytes w32 n

unfoldable pub bytes_8 : ℕ → List ℕ
bytes_8 n = to_be_bytes w64 n

-- the header, which names this form and its version, and then who says it to whom, and the distance
abbrev pub head_of : Message → List ℕ
head_of m = bytes_4 0x46524e02 ++ bytes_4 m.from ++ bytes_4 m.to ++ bytes_4 m.distance

abbrev pub bytes_of : Message → List ℕ
bytes_of m = head_of m ++ bytes_8 m.boot ++ bytes_8 m.echo ++ bytes_8 m.number ++ bytes_8 m.height ++ bytes_8 m.heard
    ++ bytes_8 m.stamp

-- the numbers of the message have 4 or 8 bytes
pub record HasWidths (m : Message) : Type 0 where
  pub from : m.from < 2 ^ 32
  pub to : m.to < 2 ^ 32
  pub boot : m.boot < 2 ^ 64
  pub echo : m.echo < 2 ^ 64
  pub number : m.number < 2 ^ 64
  pub height : m.height < 2 ^ 64
  pub heard : m.heard < 2 ^ 64
  pub distance : m.distance < 2 ^ 32
  pub stamp : m.stamp < 2 ^ 64

-- No two messages have the same bytes.
abbrev pub OneMessage : Type 0
OneMessage = (m k : Message) → HasWidths m → HasWidths k → bytes_of m ≡ bytes_of k → m ≡ k

-- Bytes as lower-case hexadecimal text.
use Rattle.std.specs.Prelude.{ℕ, ◌/◌, ◌%◌, List, ◌∷◌, []}
use Rattle.std.specs.List.{flat_map}
use Rattle.opentelemetry.specs.Hex.{hex_digit}

-- the two digits of a byte
abbrev pub byte_text : ℕ → List ℕ
byte_text byte = hex_digit (byte / 16) ∷ hex_digit (byte % 16) ∷ []

-- the digits of bytes
abbrev pub bytes_text : List ℕ → List ℕ
bytes_text = flat_map byte_text

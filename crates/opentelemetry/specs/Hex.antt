-- Numbers as lower-case hexadecimal text, stated by division by sixteen.
use Rattle.std.specs.List.{All}
use Rattle.std.specs.Prelude.{◌≡◌, ◌≤◌, ◌⊎◌, length, ℕ, zero, suc, ◌+◌, ◌/◌, ◌%◌, List}
use Rattle.std.specs.Prelude.{[], ◌∷◌, ◌++◌, if◌then◌else◌, nat_lt}

-- the lower-case digit of a number below sixteen
abbrev pub hex_digit : ℕ → ℕ
hex_digit d = if nat_lt d 10 then 48 + d else 87 + d

-- the last so many hexadecimal digits of a number, the high one first
unfoldable pub hex_text : ℕ → ℕ → List ℕ
hex_text zero n = []
hex_text (suc count) n = hex_text count (n / 16) ++ hex_digit (n % 16) ∷ []

-- a digit 0 to 9 or a to f
abbrev pub IsHexDigit : ℕ → Type 0
IsHexDigit byte = ((48 ≤ byte) × (byte ≤ 57)) ⊎ ((97 ≤ byte) × (byte ≤ 102))

-- a text of exactly so many lower-case digits
abbrev pub IsHexText : ℕ → List ℕ → Type 0
IsHexText count text = (length text ≡ count) × All IsHexDigit text

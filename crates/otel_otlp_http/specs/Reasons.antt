-- How a reason is shown: in the words of the other side, of which none drives a terminal.
use Rattle.std.specs.Prelude.{ℕ, ◌+◌, ◌/◌, ◌%◌, ◌&&◌, ◌||◌, Bool, List, [], ◌∷◌, encode_utf8, if◌then◌else◌}
use Rattle.std.specs.Prelude.{nat_le, nat_lt, take}
use Rattle.std.specs.List.{flat_map}
use Rattle.std.specs.Str.{chars}

-- how many characters of a text are shown, at most, and how many bytes they take
abbrev pub max_chars : ℕ
max_chars = 200

abbrev pub max_bytes : ℕ
max_bytes = 800

-- a control character of the first or the second block
abbrev pub is_control : ℕ → Bool
is_control c = nat_lt c 32 || (nat_le 127 c && nat_lt c 160)

-- a digit of base 16
abbrev pub hex_digit : ℕ → ℕ
hex_digit value = if nat_lt value 10 then 48 + value else 87 + value

-- a character as it is shown: a control character as `\x` and two digits of base 16
abbrev pub shown_char : ℕ → List ℕ
shown_char c =
    if is_control c then 92 ∷ 120 ∷ hex_digit (c / 16) ∷ hex_digit (c % 16) ∷ [] else encode_utf8 c

-- a text as it is shown: so many characters of it
abbrev pub shown_reason : List ℕ → List ℕ
shown_reason text = flat_map shown_char (take max_chars (chars text))

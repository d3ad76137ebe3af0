-- The id of a trace, as a word of the command line writes it.
use Rattle.std.specs.Prelude.{ℕ, ◌==◌, ◌&&◌, ◌||◌, Bool, List, length, Option, Some, None, if◌then◌else◌, nat_le}
use Rattle.std.specs.List.{list_all}
use Rattle.std.specs.Str.Parse.{digits_value}

-- a digit of an id is 0 to 9 or a to f
abbrev pub is_hex_digit : ℕ → Bool
is_hex_digit b = (nat_le 48 b && nat_le b 57) || (nat_le 97 b && nat_le b 102)

-- the id of a trace that 32 such digits write
unfoldable pub trace_id_in : List ℕ → Option ℕ
trace_id_in text = if length text == 32 && list_all is_hex_digit text then Some (digits_value 16 text) else None

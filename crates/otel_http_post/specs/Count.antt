-- Counts in digits.
use Rattle.std.specs.Prelude.{ℕ, List, Option, Some, None, if◌then◌else◌}
use Rattle.std.specs.Str.Parse.{digits_value}
use Rattle.http1.specs.Fields.{is_number}

-- the number that the digits are, where it has at most 64 bits; there is no sign
abbrev pub count_in : List ℕ → Option ℕ
count_in digits = if is_number digits then Some (digits_value 10 digits) else None

-- Numbers and ids as the protocol's JSON writes them: a whole number of 64 bits, in a string or not, maybe with a point
-- or an exponent; an id in hexadecimal digits of either case.
use Rattle.std.specs.Prelude.{ℕ, ◌+◌, ◌-◌, ◌*◌, ◌^◌, ◌==◌, ◌&&◌, ◌++◌, Bool, false, List, [], ◌∷◌, drop, length, slice_index}
use Rattle.std.specs.Prelude.{Option, Some, None, Result, Err, option_and_then, if◌then◌else◌, nat_le, nat_lt}
use Rattle.std.specs.Char.{digit_value}
use Rattle.std.specs.Str.Parse.{digits_value}
use Rattle.fast_float.specs.Text.{Parts, has_digits, point_at, scan, whole_of}
use Rattle.json.specs.Json.{Json, null, boolean, number, string, array, object}
use Rattle.json.specs.Find.{as_str}
use Rattle.otel_otlp_read.specs.declared.fault.Fault.{Fault}
use Rattle.otel_otlp_read.specs.declared.fault.Fault.TheVariants.{TimeForm, ParentForm}
use Rattle.otel_otlp_read.specs.Reading.{needed}
use Rattle.otel_otlp_read.specs.Members.{given, or_default}

-- the number that digits in a radix spell after those of n; none where a byte is no digit
abbrev pub digits_after : ℕ → ℕ → List ℕ → Option ℕ
digits_after radix n [] = Some n
digits_after radix n (b ∷ bs) =
    if nat_lt (digit_value b) radix then digits_after radix (n * radix + digit_value b) bs else None

-- a number, if it has 64 bits
abbrev pub if_wide : ℕ → Option ℕ
if_wide n = if nat_lt n (2 ^ 64) then Some n else None

-- the number of 64 bits that a numeral writes, if it is whole: no digit behind the point counts, as of 1.0 and 2.50e1
abbrev pub whole_in : Parts → Option ℕ
whole_in p = if digits_value 10 (drop (point_at p) (p.whole ++ p.fraction)) == 0 then if_wide (whole_of p) else None

-- the whole number of 64 bits that a text spells without a sign: 1000, 1e3, 1000.0
unfoldable pub whole_number : List ℕ → Option ℕ
whole_number bytes =
    if has_digits (scan bytes) && ((scan bytes).len == length bytes) then whole_in (scan bytes) else None

-- whether there is a number, and it is this one
abbrev pub is_exactly : ℕ → Option ℕ → Bool
is_exactly n None = false
is_exactly n (Some m) = m == n

-- whether a text spells this number
abbrev pub spells : ℕ → List ℕ → Bool
spells n bytes = is_exactly n (whole_number bytes)

-- whether there is a number, of at most this
abbrev pub is_within : ℕ → Option ℕ → Bool
is_within most None = false
is_within most (Some n) = nat_le n most

-- whether bytes spell a whole number of 64 bits with a sign, with a minus in front or not
unfoldable pub is_integer : List ℕ → Bool
is_integer bytes =
    if slice_index bytes 0 == 45 then is_within (2 ^ 63) (whole_number (drop 1 bytes))
    else is_within (2 ^ 63 - 1) (whole_number bytes)

-- the number that exactly so many hexadecimal digits spell
unfoldable pub id_number : ℕ → List ℕ → Option ℕ
id_number count bytes = if length bytes == count then digits_after 16 0 bytes else None

-- the text of a number, in a string or not
abbrev pub number_text : Json → Option (List ℕ)
number_text null = None
number_text (boolean _) = None
number_text (number text) = Some text
number_text (string text) = Some text
number_text (array _) = None
number_text (object _) = None

-- the moment of a member, 0 where it is missing
abbrev pub moment_of : List ℕ → Json → Result ℕ Fault
moment_of name j =
    or_default 0 (λ v. needed TimeForm (option_and_then whole_number (number_text v))) (given name j)

-- the id of a member that has to be there
abbrev pub id_in : ℕ → Fault → Fault → Option Json → Result ℕ Fault
id_in count missing form None = Err missing
id_in count missing form (Some v) = needed form (option_and_then (id_number count) (as_str v))

abbrev pub id_of : List ℕ → ℕ → Fault → Fault → Json → Result ℕ Fault
id_of name count missing form j = id_in count missing form (given name j)

-- the id of a parent: zero where the text is empty
abbrev pub parent_number : List ℕ → Option ℕ
parent_number [] = Some 0
parent_number (b ∷ bs) = id_number 16 (b ∷ bs)

-- and zero where there is no text
abbrev pub parent_of : List ℕ → Json → Result ℕ Fault
parent_of name j = or_default 0 (λ v. needed ParentForm (option_and_then parent_number (as_str v))) (given name j)

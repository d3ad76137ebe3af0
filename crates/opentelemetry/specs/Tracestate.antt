-- The text form of a trace state (W3C Trace Context, section 3.3): members `key=value` between commas. This reading is
-- lenient: keys of every vendor form are one form, any number of members is taken, and a key may stand twice.
use Rattle.std.specs.Prelude.{◌≡◌, ℕ, ◌-◌, Bool, true, false, not, ◌&&◌, ◌||◌, List, [], ◌∷◌}
use Rattle.std.specs.Prelude.{◌++◌, Option, Some, None, map, length, reverse, slice_index, slice_get}
use Rattle.std.specs.Prelude.{nat_le, nat_lt, ◌==◌, IsTrue, if◌then◌else◌}
use Rattle.std.specs.List.{AllByRecursion, AllZip, before_first, after_first, position_or_len, filter}
use Rattle.std.specs.List.{join_with_byte, list_all, slice_split}
use Rattle.opentelemetry.specs.declared.trace.trace_state.TraceStateError.{TraceStateError}
use Rattle.opentelemetry.specs.declared.trace.trace_state.TraceStateError.TheVariants as faults
use Rattle.std.specs.Option.{option_map_or}
use Rattle.opentelemetry.specs.Same.{same_text}

-- a byte that a key may begin with: a to z, or 0 to 9
abbrev pub is_key_start : ℕ → Bool
is_key_start b = (nat_le 97 b && nat_le b 122) || (nat_le 48 b && nat_le b 57)

-- a further byte of a key: also `_`, `-`, `*`, `/` and `@`
abbrev pub is_key_byte : ℕ → Bool
is_key_byte b = is_key_start b || (b == 95 || (b == 45 || (b == 42 || (b == 47 || b == 64))))

-- a key of 1 to 256 bytes: each is a key's byte, and the first one that a key may begin with
abbrev pub is_key : List ℕ → Bool
is_key bs = nat_le 1 (length bs) && (nat_le (length bs) 256
    && (is_key_start (slice_index bs 0) && list_all is_key_byte bs))

-- a byte of a value: printable ASCII without comma and equals sign
abbrev pub is_value_byte : ℕ → Bool
is_value_byte b = (nat_le 32 b && nat_le b 126) && not (b == 44 || b == 61)

-- the last byte; the empty list has none
abbrev pub last_byte : List ℕ → Option ℕ
last_byte bs = slice_get bs (length bs - 1)

-- the last byte is a space
abbrev pub ends_with_space : List ℕ → Bool
ends_with_space bs = option_map_or (λ b. b == 32) (last_byte bs) false

-- a value of at most 256 bytes, whose last byte is no space
abbrev pub is_value : List ℕ → Bool
is_value bs = nat_le (length bs) 256 && (list_all is_value_byte bs && not (ends_with_space bs))

-- a space or a tab
abbrev pub is_blank : ℕ → Bool
is_blank b = b == 32 || b == 9

-- a text without the blanks in front
abbrev pub trim_front : List ℕ → List ℕ
trim_front [] = []
trim_front (b ∷ bs) = if is_blank b then trim_front bs else b ∷ bs

-- a text without the blanks around it
abbrev pub trimmed : List ℕ → List ℕ
trimmed bs = reverse (trim_front (reverse (trim_front bs)))

-- a text that is not empty
abbrev pub is_some_text : List ℕ → Bool
is_some_text [] = false
is_some_text (b ∷ bs) = true

-- the members of a text: what stands between commas, trimmed, empty ones left out
abbrev pub members : List ℕ → List (List ℕ)
members bs = filter is_some_text (map trimmed (slice_split (λ b. b == 44) bs))

-- a pair of a key and a value
abbrev pub IsPair : List ℕ × List ℕ → Type 0
IsPair pair = IsTrue (is_key pair.0) × IsTrue (is_value pair.1)

-- each pair is one of a key and a value
abbrev pub ArePairs : List (List ℕ × List ℕ) → Type 0
ArePairs pairs = AllByRecursion IsPair pairs

-- a member that spells a key and a value
abbrev pub SpellsPair : List ℕ → List ℕ × List ℕ → Type 0
SpellsPair member pair = (member ≡ pair.0 ++ 61 ∷ pair.1) × IsTrue (is_key pair.0) × IsTrue (is_value pair.1)

-- a text that spells these pairs, in order
abbrev pub IsTracestate : List ℕ → List (List ℕ × List ℕ) → Type 0
IsTracestate bs pairs = AllZip SpellsPair (members bs) pairs

-- an equals sign
abbrev pub is_equals : ℕ → Bool
is_equals b = b == 61

-- what is wrong with a pair, the key first
abbrev pub pair_fault : List ℕ × List ℕ → Option TraceStateError
pair_fault pair = if is_key pair.0 then (if is_value pair.1 then None else Some faults.Value) else Some faults.Key

-- the key and the value of a member, cut at its first equals sign
abbrev pub pair_of : List ℕ → List ℕ × List ℕ
pair_of member = (before_first is_equals member, after_first is_equals member)

-- what is wrong with a member
abbrev pub member_fault : List ℕ → Option TraceStateError
member_fault member =
    if position_or_len is_equals member == length member then Some faults.List else pair_fault (pair_of member)

-- the first of two faults
abbrev pub first_of_two : Option TraceStateError → Option TraceStateError → Option TraceStateError
first_of_two (Some fault) others = Some fault
first_of_two None others = others

-- the first fault of a list of members
abbrev pub first_fault : List (List ℕ) → Option TraceStateError
first_fault [] = None
first_fault (member ∷ more) = first_of_two (member_fault member) (first_fault more)

-- the first fault of a list of pairs
abbrev pub first_pair_fault : List (List ℕ × List ℕ) → Option TraceStateError
first_pair_fault [] = None
first_pair_fault (pair ∷ more) = first_of_two (pair_fault pair) (first_pair_fault more)

-- the member that spells a pair
abbrev pub member_text : List ℕ × List ℕ → List ℕ
member_text pair = pair.0 ++ 61 ∷ pair.1

-- the member that spells a pair, after so many others: a comma stands between two
abbrev pub next_member_text : ℕ → List ℕ × List ℕ → List ℕ
next_member_text before pair = if nat_lt 0 before then 44 ∷ member_text pair else member_text pair

-- the header of a trace state
abbrev pub tracestate_text : List (List ℕ × List ℕ) → List ℕ
tracestate_text pairs = join_with_byte 44 (map member_text pairs)

-- the pairs without those of a key
abbrev pub without_key : List ℕ → List (List ℕ × List ℕ) → List (List ℕ × List ℕ)
without_key key pairs = filter (λ pair. not (same_text pair.0 key)) pairs

-- the first value of a key
abbrev pub value_of_key : List ℕ → List (List ℕ × List ℕ) → Option (List ℕ)
value_of_key key [] = None
value_of_key key (pair ∷ more) = if same_text pair.0 key then Some pair.1 else value_of_key key more

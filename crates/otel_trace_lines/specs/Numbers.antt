-- What a word writes: a number in decimal digits, an integer, a truth value, the kind of a span.
use Rattle.std.specs.Prelude.{ℕ, ℤ, pos, neg_ℤ, Bool, true, false, not, ◌&&◌, ◌==◌, ◌+◌, ◌^◌, List, length, drop, codes}
use Rattle.std.specs.Prelude.{Option, Some, None, if◌then◌else◌, nat_lt, bytes_eq}
use Rattle.std.specs.Option.{option_map}
use Rattle.std.specs.Str.{all_ascii_digits}
use Rattle.std.specs.Str.Parse.{digits_value, starts_with_minus}
use Rattle.opentelemetry.specs.declared.trace.span_kind.SpanKind.{SpanKind}
use Rattle.opentelemetry.specs.declared.trace.span_kind.SpanKind.TheVariants as kinds

-- whether a text is one decimal digit or more, and nothing else
abbrev pub is_numeral : List ℕ → Bool
is_numeral text = all_ascii_digits text && not (length text == 0)

-- the number below a bound that decimal digits alone write
unfoldable pub number_below : ℕ → List ℕ → Option ℕ
number_below bound text =
    if is_numeral text && nat_lt (digits_value 10 text) bound then Some (digits_value 10 text) else None

-- the number of 64 bits that decimal digits alone write
abbrev pub decimal_in : List ℕ → Option ℕ
decimal_in = number_below (2 ^ 64)

-- the integer of 64 bits with a sign that decimal digits write, alone or after a minus
unfoldable pub integer_in : List ℕ → Option ℤ
integer_in text =
    if starts_with_minus text then option_map (λ n. neg_ℤ (pos n)) (number_below (2 ^ 63 + 1) (drop 1 text))
    else option_map pos (number_below (2 ^ 63) text)

-- the truth value that is written so
unfoldable pub truth_in : List ℕ → Option Bool
truth_in text =
    if bytes_eq text (codes "true") then Some true else
    (if bytes_eq text (codes "false") then Some false else None)

-- the kind of a span that has this word
unfoldable pub kind_in : List ℕ → Option SpanKind
kind_in word =
    if bytes_eq word (codes "internal") then Some kinds.Internal else
    (if bytes_eq word (codes "server") then Some kinds.Server else
    (if bytes_eq word (codes "client") then Some kinds.Client else
    (if bytes_eq word (codes "producer") then Some kinds.Producer else
    (if bytes_eq word (codes "consumer") then Some kinds.Consumer else None))))

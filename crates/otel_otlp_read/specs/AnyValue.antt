-- The text of an `AnyValue`: of a text itself, within a list between double quotes; `true` and `false`; the digits of an
-- integer as they stand; the text of the float that a number is read as; the base 64 of bytes; a list as `[a,b]`, keys
-- and values as `{k=v,l=w}`; nothing of a value without a kind.
use Rattle.std.specs.Prelude.{ℕ, zero, suc, ◌+◌, ◌||◌, Bool, true, false, List, [], ◌∷◌, ◌++◌, codes, Option, Some, None}
use Rattle.std.specs.Prelude.{Result, Ok, Err, option_and_then, option_map, if◌then◌else◌, nat_lt}
use Rattle.std.specs.Float.{Float, binary64}
use Rattle.std.specs.Str.{bytes_eq}
use Rattle.fast_float.specs.Parse.{parse_float}
use Rattle.json.specs.Json.{Json, null, boolean, number, string, array, object}
use Rattle.json.specs.Find.{as_bool, as_str}
use Rattle.json.specs.Word.{after_number}
use Rattle.opentelemetry.specs.ValueText.{quoted_text, truth_text}
use Rattle.otel_float.specs.FloatText.{float_text}
use Rattle.otel_otlp_read.specs.declared.fault.Fault.{Fault}
use Rattle.otel_otlp_read.specs.declared.fault.Fault.TheVariants as faults
use Rattle.otel_otlp_read.specs.Reading.{◌>>=◌, joined, needed}
use Rattle.otel_otlp_read.specs.Members.{given, list_of, object_or, or_default, text_of}
use Rattle.otel_otlp_read.specs.Numbers.{is_integer, number_text}

-- 1 where there is a member of a name
abbrev pub one_if : Option Json → ℕ
one_if None = 0
one_if (Some v) = 1

-- how many kinds a value has
unfoldable pub kind_count : Json → ℕ
kind_count j =
    one_if (given (codes "stringValue") j) + one_if (given (codes "boolValue") j)
    + one_if (given (codes "intValue") j) + one_if (given (codes "doubleValue") j)
    + one_if (given (codes "bytesValue") j) + one_if (given (codes "arrayValue") j)
    + one_if (given (codes "kvlistValue") j)

-- that a value has one kind, or none
abbrev pub one_kind : Json → Result (Unit {0}) Fault
one_kind j = if nat_lt 1 (kind_count j) then Err faults.ValueKinds else Ok tt

-- what is read of a member, or of others where it is missing
abbrev pub chosen : Option Json → (Json → Result (List ℕ) Fault) → Result (List ℕ) Fault → Result (List ℕ) Fault
chosen None read others = others
chosen (Some v) read others = read v

-- a text, maybe between quotes
abbrev pub shown_string : Bool → Json → Result (List ℕ) Fault
shown_string is_quoted v =
    needed faults.StringForm (as_str v) >>= λ t. Ok (if is_quoted then quoted_text t else t)

abbrev pub shown_truth : Json → Result (List ℕ) Fault
shown_truth v = needed faults.BoolForm (as_bool v) >>= λ b. Ok (truth_text b)

-- a text of an integer
abbrev pub integer_text : List ℕ → Option (List ℕ)
integer_text text = if is_integer text then Some text else None

abbrev pub shown_integer : Json → Result (List ℕ) Fault
shown_integer v = needed faults.IntForm (option_and_then integer_text (number_text v))

-- the words for what JSON has no number for
abbrev pub is_float_word : List ℕ → Bool
is_float_word text =
    bytes_eq text (codes "NaN") || bytes_eq text (codes "Infinity") || bytes_eq text (codes "-Infinity")

-- whether all of a text was read
abbrev pub is_read : Option (List ℕ) → Bool
is_read None = false
is_read (Some []) = true
is_read (Some (b ∷ bs)) = false

-- whether a text in a string is a number of JSON
abbrev pub is_number : List ℕ → Bool
is_number text = is_read (after_number text)

-- the float nearest to a number, in a string or not, or that of one of the words
abbrev pub double_of : Json → Option Float
double_of null = None
double_of (boolean _) = None
double_of (number text) = parse_float binary64 text
double_of (string text) = if is_float_word text || is_number text then parse_float binary64 text else None
double_of (array _) = None
double_of (object _) = None

abbrev pub shown_double : Json → Result (List ℕ) Fault
shown_double v = needed faults.DoubleForm (option_map float_text (double_of v))

abbrev pub shown_bytes : Json → Result (List ℕ) Fault
shown_bytes v = needed faults.BytesForm (as_str v)

-- a value that is no list
unfoldable pub shown_scalar : Bool → Json → Result (List ℕ) Fault
shown_scalar is_quoted j =
    chosen (given (codes "stringValue") j) (shown_string is_quoted)
    (chosen (given (codes "boolValue") j) shown_truth
    (chosen (given (codes "intValue") j) shown_integer
    (chosen (given (codes "doubleValue") j) shown_double
    (chosen (given (codes "bytesValue") j) shown_bytes (Ok [])))))

-- items, with a comma in front of each but the first
abbrev pub after_comma : (Json → Result (List ℕ) Fault) → Json → Result (List ℕ) Fault
after_comma read j = read j >>= λ t. Ok (44 ∷ t)

abbrev pub comma_joined : (Json → Result (List ℕ) Fault) → List Json → Result (List ℕ) Fault
comma_joined read [] = Ok []
comma_joined read (j ∷ js) = read j >>= λ first. joined (after_comma read) js >>= λ others. Ok (first ++ others)

-- a key, an equals sign, and a value, which may be missing
abbrev pub shown_pair : (Json → Result (List ℕ) Fault) → Json → Result (List ℕ) Fault
shown_pair read j = do
  _ ← object_or faults.AttributeType j
  key ← text_of (codes "key") faults.KeyType j
  text ← or_default [] read (given (codes "value") j)
  Ok (key ++ 61 ∷ text)

-- an item of a list: a value, or a key and a value
abbrev pub shown_item : (Json → Result (List ℕ) Fault) → Bool → Json → Result (List ℕ) Fault
shown_item read are_pairs j = if are_pairs then shown_pair read j else read j

-- what stands around items: brackets around values, braces around keys and values
abbrev pub opening : Bool → List ℕ
opening are_pairs = if are_pairs then codes "{" else codes "["

abbrev pub closing : Bool → List ℕ
closing are_pairs = if are_pairs then codes "}" else codes "]"

-- a list
unfoldable pub shown_list : (Json → Result (List ℕ) Fault) → Bool → Json → Result (List ℕ) Fault
shown_list read are_pairs j = do
  _ ← object_or faults.ListForm j
  items ← list_of (codes "values") faults.ListForm j
  text ← comma_joined (shown_item read are_pairs) items
  Ok (opening are_pairs ++ (text ++ closing are_pairs))

-- a value, whose items are read so
unfoldable pub shown_with : (Json → Result (List ℕ) Fault) → Bool → Json → Result (List ℕ) Fault
shown_with read is_quoted j = do
  _ ← object_or faults.ValueType j
  _ ← one_kind j
  chosen (given (codes "arrayValue") j) (shown_list read false)
      (chosen (given (codes "kvlistValue") j) (shown_list read true) (shown_scalar is_quoted j))

-- a value, in which lists nest no deeper than the number
unfoldable pub shown_value : ℕ → Bool → Json → Result (List ℕ) Fault
shown_value zero is_quoted j = Err faults.ValueDepth
shown_value (suc depth) is_quoted j = shown_with (shown_value depth true) is_quoted j

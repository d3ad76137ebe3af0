-- The text of a value: `true` or `false`, the decimal, the text itself, that of a float, or a list between brackets.
use Rattle.std.specs.Prelude.{ℕ, Bool, List, [], ◌∷◌, ◌++◌, map, codes, if◌then◌else◌}
use Rattle.std.specs.Fmt.{signed_decimal}
use Rattle.std.specs.List.{join_with_byte}
use Rattle.otel_float.specs.FloatText.{float_text}
use Rattle.opentelemetry.specs.Plain.{PlainValue, boolean, integer, text, booleans, integers, texts, double, doubles}

-- a truth value in words
abbrev pub truth_text : Bool → List ℕ
truth_text truth = if truth then codes "true" else codes "false"

-- a text between double quotes, as it is
abbrev pub quoted_text : List ℕ → List ℕ
quoted_text t = 34 ∷ (t ++ 34 ∷ [])

-- texts between brackets, joined by commas
abbrev pub list_text : List (List ℕ) → List ℕ
list_text parts = 91 ∷ (join_with_byte 44 parts ++ 93 ∷ [])

-- the text of a value
abbrev pub value_text : PlainValue → List ℕ
value_text (boolean b) = truth_text b
value_text (integer n) = signed_decimal n
value_text (text t) = t
value_text (booleans bs) = list_text (map truth_text bs)
value_text (integers ns) = list_text (map signed_decimal ns)
value_text (texts ts) = list_text (map quoted_text ts)
value_text (double x) = float_text x
value_text (doubles xs) = list_text (map float_text xs)

-- Values and attributes in the JSON of the OpenTelemetry protocol, and members of one kind each.
use Rattle.std.specs.Prelude.{ℕ, ℤ, Bool, true, false, List, [], ◌∷◌, codes, map}
use Rattle.std.specs.Fmt.{decimal, signed_decimal}
use Rattle.json.specs.Json.{Json}
use Rattle.std.specs.Float.Ieee.{Float, nan, inf, fin}
use Rattle.json.specs.Json as json
use Rattle.opentelemetry.specs.Plain.{PlainKeyValue, PlainValue, boolean, integer, text, booleans, integers, texts}
use Rattle.opentelemetry.specs.Plain.{double, doubles}
use Rattle.otel_float.specs.FloatText.{float_text}
use Rattle.otel_otlp.specs.Fields.{Field, items_of, list_json, object_json}

-- an object with one member
abbrev pub single : List ℕ → Json → Json
single key value = object_json ((key, value) ∷ [])

-- a float: a number, or where JSON has none, the word that protobuf has for it
abbrev pub float_json : Float → Json
float_json nan = json.string (codes "NaN")
float_json (inf false) = json.string (codes "Infinity")
float_json (inf true) = json.string (codes "-Infinity")
float_json (fin s m e) = json.number (float_text (fin s m e))

-- the values of an `AnyValue`: a truth, an integer of 64 bits as a string, a text, a float
abbrev pub bool_json : Bool → Json
bool_json truth = single (codes "boolValue") (json.boolean truth)

abbrev pub integer_json : ℤ → Json
integer_json number = single (codes "intValue") (json.string (signed_decimal number))

abbrev pub text_json : List ℕ → Json
text_json bytes = single (codes "stringValue") (json.string bytes)

abbrev pub double_json : Float → Json
double_json x = single (codes "doubleValue") (float_json x)

-- the items of a list
abbrev pub array_items : PlainValue → List Json
array_items (boolean truth) = []
array_items (integer number) = []
array_items (text bytes) = []
array_items (booleans truths) = map bool_json truths
array_items (integers numbers) = map integer_json numbers
array_items (texts many) = map text_json many
array_items (double x) = []
array_items (doubles xs) = map double_json xs

-- a list of values
abbrev pub array_json : PlainValue → Json
array_json value = single (codes "arrayValue") (single (codes "values") (json.array (items_of (array_items value))))

abbrev pub value_json : PlainValue → Json
value_json (boolean truth) = bool_json truth
value_json (integer number) = integer_json number
value_json (text bytes) = text_json bytes
value_json (booleans truths) = array_json (booleans truths)
value_json (integers numbers) = array_json (integers numbers)
value_json (texts many) = array_json (texts many)
value_json (double x) = double_json x
value_json (doubles xs) = array_json (doubles xs)

-- a `KeyValue`
abbrev pub pair_fields : List ℕ × PlainValue → List Field
pair_fields pair = (codes "key", json.string pair.0) ∷ (codes "value", value_json pair.1) ∷ []

abbrev pub pair_json : List ℕ × PlainValue → Json
pair_json pair = object_json (pair_fields pair)

abbrev pub attribute_json : PlainKeyValue → Json
attribute_json attribute = pair_json (attribute.key, attribute.value)

-- members of one kind each: a text, a number, a number of 64 bits as a string
abbrev pub text_field : List ℕ → List ℕ → Field
text_field key bytes = (key, json.string bytes)

abbrev pub number_field : List ℕ → ℕ → Field
number_field key number = (key, json.number (decimal number))

abbrev pub moment_field : List ℕ → ℕ → Field
moment_field key nanoseconds = (key, json.string (decimal nanoseconds))

-- attributes, and how many others there were
abbrev pub attributes_fields : List PlainKeyValue → ℕ → List Field
attributes_fields attributes dropped =
    (codes "attributes", list_json attribute_json attributes)
    ∷ number_field (codes "droppedAttributesCount") dropped ∷ []

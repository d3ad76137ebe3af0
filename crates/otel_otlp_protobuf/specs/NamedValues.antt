-- Values and attributes by names and numbers (opentelemetry-proto 1.7, `common.proto`).
use Rattle.std.specs.Prelude.{ℕ, ℤ, Bool, List, [], ◌∷◌, codes, map}
use Rattle.std.specs.Float.{Float}
use Rattle.opentelemetry.specs.Plain.{PlainKeyValue, PlainValue, boolean, integer, text, booleans, integers, texts}
use Rattle.opentelemetry.specs.Plain.{double, doubles}
use Rattle.otel_otlp_protobuf.specs.Said.{Member, members_of, items_of}
use Rattle.otel_otlp_protobuf.specs.Said as said

-- an `AnyValue` is one of these
abbrev pub truth_members : Bool → List Member
truth_members truth = (codes "boolValue", 2, said.truth truth) ∷ []

abbrev pub integer_members : ℤ → List Member
integer_members number = (codes "intValue", 3, said.integer number) ∷ []

abbrev pub text_members : List ℕ → List Member
text_members bytes = (codes "stringValue", 1, said.chosen_text bytes) ∷ []

abbrev pub float_members : Float → List Member
float_members x = (codes "doubleValue", 4, said.float x) ∷ []

-- the items of a list
abbrev pub array_items : PlainValue → List (List Member)
array_items (boolean truth) = []
array_items (integer number) = []
array_items (text bytes) = []
array_items (booleans truths) = map truth_members truths
array_items (integers numbers) = map integer_members numbers
array_items (texts many) = map text_members many
array_items (double x) = []
array_items (doubles xs) = map float_members xs

-- an `ArrayValue`
abbrev pub array_members : PlainValue → List Member
array_members value = (codes "values", 1, said.messages (items_of (array_items value))) ∷ []

abbrev pub list_members : PlainValue → List Member
list_members value = (codes "arrayValue", 5, said.message (members_of (array_members value))) ∷ []

abbrev pub value_members : PlainValue → List Member
value_members (boolean truth) = truth_members truth
value_members (integer number) = integer_members number
value_members (text bytes) = text_members bytes
value_members (booleans truths) = list_members (booleans truths)
value_members (integers numbers) = list_members (integers numbers)
value_members (texts many) = list_members (texts many)
value_members (double x) = float_members x
value_members (doubles xs) = list_members (doubles xs)

-- a `KeyValue`
abbrev pub pair_members : List ℕ × PlainValue → List Member
pair_members pair =
    (codes "key", 1, said.text pair.0) ∷ (codes "value", 2, said.message (members_of (value_members pair.1))) ∷ []

abbrev pub attribute_members : PlainKeyValue → List Member
attribute_members attribute = pair_members (attribute.key, attribute.value)

-- messages of one name
abbrev pub many : {X : Type 0} → (X → List Member) → List X → said.Said
many members xs = said.messages (items_of (map members xs))

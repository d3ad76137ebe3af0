-- What is read of a resource: its attributes, and the name of the service, the value of the first one called so. A
-- resource that does not read, and an attribute of one, is left out.
use Rattle.std.specs.Prelude.{ℕ, List, [], ◌∷◌, codes, Result, Ok, if◌then◌else◌, false}
use Rattle.std.specs.List.{flat_map}
use Rattle.std.specs.Str.{bytes_eq}
use Rattle.json.specs.Json.{Json}
use Rattle.otel_shown.specs.Shown.{PlainShownResource, pair_line}
use Rattle.otel_otlp_read.specs.declared.fault.Fault.{Fault}
use Rattle.otel_otlp_read.specs.declared.fault.Fault.TheVariants as faults
use Rattle.otel_otlp_read.specs.declared.left_out.ItemList.TheVariants as lists
use Rattle.otel_otlp_read.specs.Reading.{◌>>=◌}
use Rattle.otel_otlp_read.specs.Kept.{Kept, kept_of, none_kept, of_part}
use Rattle.otel_otlp_read.specs.Members.{given, object_or, or_default, text_of}
use Rattle.otel_otlp_read.specs.AnyValue.{shown_value}

-- the key of an attribute, and the text of its value
abbrev pub PlainPair : Type 0
PlainPair = List ℕ × List ℕ

-- the text of the value of an attribute, empty where it has none
abbrev pub value_member : Json → Result (List ℕ) Fault
value_member j = or_default [] (shown_value 64 false) (given (codes "value") j)

-- an attribute of a resource
unfoldable pub pair_in : Json → Result (List PlainPair) Fault
pair_in j = do
  _ ← object_or faults.AttributeType j
  key ← text_of (codes "key") faults.KeyType j
  value ← value_member j
  Ok ((key, value) ∷ [])

-- the attributes of a resource, the one of this number
unfoldable pub pairs_in : ℕ → Json → Result (Kept PlainPair) Fault
pairs_in n j = do
  _ ← object_or faults.ResourceType j
  kept_of pair_in (lists.ResourceAttributes n) (codes "attributes") faults.AttributesType j

-- and without any where the resource does not read
abbrev pub pairs_member : ℕ → Json → Kept PlainPair
pairs_member n j =
    of_part (record { list = lists.Resources; number = n })
    (or_default none_kept (pairs_in n) (given (codes "resource") j))

-- the name of the service that attributes say, empty where they say none
abbrev pub service_in : List PlainPair → List ℕ
service_in [] = []
service_in (pair ∷ pairs) = if bytes_eq pair.0 (codes "service.name") then pair.1 else service_in pairs

-- the lines of attributes
abbrev pub pair_lines : List PlainPair → List ℕ
pair_lines pairs = flat_map (λ pair. pair_line pair.0 pair.1) pairs

-- a resource of such attributes, as it is shown
abbrev pub shown_resource : List PlainPair → PlainShownResource
shown_resource pairs = record { service = service_in pairs; attributes = pair_lines pairs }

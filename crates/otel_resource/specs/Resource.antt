-- Who produces telemetry, and how two descriptions become one (OpenTelemetry specification, "Resource SDK", "Merge").
use Rattle.std.specs.Prelude.{ℕ, Option, Some, None, if◌then◌else◌, codes}
use Rattle.std.specs.Prelude.{List, [], ◌∷◌, ◌++◌, map, reverse}
use Rattle.std.specs.Borrow.{Bor}
use Rattle.std.specs.Ordering.{nat_cmp}
use Rattle.std.specs.Cmp.Lexicographic.{slice_cmp}
use Rattle.std.specs.Str.{bytes_eq}
use Rattle.std.specs.FinMap.{FinMap, empty, entries, from_entries}
use Rattle.std.specs.BTreeMap.{BTreeMap}
use Rattle.std.specs.Arc.{arc_value}
use Rattle.std.specs.declared.sync.Arc.{Arc}
use Rattle.opentelemetry.specs.Plain.{PlainValue, PlainKeyValue}
use Rattle.opentelemetry.specs.PlainValues.{plain_value, IsScalar}
use Rattle.opentelemetry.specs.declared.common.Value.{Value}

-- values by the bytes of their keys
abbrev pub Attributes : Type 0
Attributes = FinMap (slice_cmp nat_cmp) PlainValue

-- attributes, and the text of the schema that they follow, which is empty where no schema is known
pub record PlainResource : Type 0 where
  pub attributes : Attributes
  pub schema_url : List ℕ

-- the resource that says nothing
abbrev pub empty_resource : PlainResource
empty_resource = record { attributes = empty; schema_url = [] }

-- a text, if it is not empty
abbrev pub non_empty : List ℕ → Option (List ℕ)
non_empty [] = None
non_empty (b ∷ bs) = Some (b ∷ bs)

-- the attributes of both; where both have a key, the right one's value
abbrev pub union : Attributes → Attributes → Attributes
union left right = from_entries (entries right ++ entries left)

-- one empty schema gives the other, equal ones stay, and different ones give the empty one
abbrev pub merged_schema : List ℕ → List ℕ → List ℕ
merged_schema [] right = right
merged_schema (b ∷ bs) [] = b ∷ bs
merged_schema (b ∷ bs) (c ∷ cs) = if bytes_eq (b ∷ bs) (c ∷ cs) then b ∷ bs else []

-- the right resource over the left one
abbrev pub merge : PlainResource → PlainResource → PlainResource
merge left right = record {
  attributes = union left.attributes right.attributes;
  schema_url = merged_schema left.schema_url right.schema_url;
}

-- a list of attributes as a map: of a key that stands twice the last value counts
abbrev pub attributes_of : List PlainKeyValue → Attributes
attributes_of pairs = from_entries (reverse (map (λ a. (a.key, a.value)) pairs))

-- attributes that follow no known schema
abbrev pub of_attributes : Attributes → PlainResource
of_attributes given = record { attributes = given; schema_url = [] }

-- a list of attributes over a resource
abbrev pub with_pairs : PlainResource → List PlainKeyValue → PlainResource
with_pairs resource pairs = merge resource (of_attributes (attributes_of pairs))

-- a list of attributes that follow a schema
abbrev pub of_pairs : List PlainKeyValue → List ℕ → PlainResource
of_pairs pairs schema = record { attributes = attributes_of pairs; schema_url = schema }

-- the key of the name of a service (OpenTelemetry semantic conventions, "Service")
abbrev pub service_name_key : List ℕ
service_name_key = codes "service.name"

-- one attribute
abbrev pub attribute_of : List ℕ → PlainValue → PlainKeyValue
attribute_of key value = record { key = key; value = value }

-- a resource that says the name of the service and nothing else
abbrev pub service_named : PlainValue → PlainResource
service_named name = of_attributes (attributes_of (attribute_of service_name_key name ∷ []))

-- the attributes of several resources, of which a later one wins
abbrev pub all_attributes : List PlainResource → Attributes
all_attributes [] = empty
all_attributes (first ∷ rest) = union first.attributes (all_attributes rest)

-- a map in a program as a finite map of plain values
abbrev pub by_key : BTreeMap (List ℕ) Value → Attributes
by_key m = from_entries (map (λ e. (e.0, plain_value e.1)) m.entries)

-- what is shared; where nothing is, the resource that says nothing
abbrev pub shared_resource : {Z : Type 0} → Option (Arc PlainResource Z) → PlainResource
shared_resource None = empty_resource
shared_resource (Some shared) = arc_value shared

-- a copy of this grows nothing: there is no value, or it is a truth or a number
abbrev pub NeedsNoMemory : Option PlainValue → Type 0
NeedsNoMemory None = Unit {0}
NeedsNoMemory (Some v) = IsScalar v

-- a pair that is pointed to, without where it lies
abbrev pub shown_pair : Bor (List ℕ) × Bor Value → List ℕ × PlainValue
shown_pair p = (p.0.now, plain_value p.1.now)

-- the pairs that an iterator has left, without where they lie
abbrev pub pairs_left : Option (List (List ℕ × Value)) → List (List ℕ × PlainValue)
pairs_left None = []
pairs_left (Some pairs) = map (λ e. (e.0, plain_value e.1)) pairs

-- The plain values of the enums, and of what is shared.
use Rattle.std.specs.Prelude.{ℕ, List, [], Option, Some, None, map, string_bytes, String, Vec}
use Rattle.std.specs.Arc.{arc_value}
use Rattle.std.specs.declared.sync.Arc.{Arc}
use Rattle.opentelemetry.specs.Plain.{PlainValue, boolean, integer, text, booleans, integers, texts, double, doubles}
use Rattle.opentelemetry.specs.Plain.{PlainStatus, unset, error, ok}
use Rattle.opentelemetry.specs.declared.common.Array.{Array}
use Rattle.opentelemetry.specs.declared.common.Array.TheVariants as arrays
use Rattle.opentelemetry.specs.declared.common.Value.{Value}
use Rattle.opentelemetry.specs.declared.common.Value.TheVariants as values
use Rattle.opentelemetry.specs.declared.trace.status.Status.{Status}
use Rattle.opentelemetry.specs.declared.trace.status.Status.TheVariants as statuses

-- an array without where it lies
abbrev pub plain_array : Array → PlainValue
plain_array (arrays.Bool a) = booleans a.items
plain_array (arrays.I64 a) = integers a.items
plain_array (arrays.String a) = texts (map (λ t. string_bytes t) a.items)
plain_array (arrays.F64 a) = doubles a.items

-- a value without where it lies
abbrev pub plain_value : Value → PlainValue
plain_value (values.Bool b) = boolean b
plain_value (values.I64 n) = integer n
plain_value (values.String t) = text (string_bytes t)
plain_value (values.Array a) = plain_array a
plain_value (values.F64 x) = double x

-- a value without a text and without a list: a copy takes no memory
abbrev pub IsScalar : PlainValue → Type 0
IsScalar (boolean b) = Unit {0}
IsScalar (integer n) = Unit {0}
IsScalar (text t) = ⊥
IsScalar (booleans bs) = ⊥
IsScalar (integers ns) = ⊥
IsScalar (texts ts) = ⊥
IsScalar (double x) = Unit {0}
IsScalar (doubles xs) = ⊥

-- a status without a description: a copy takes no memory
abbrev pub IsBare : PlainStatus → Type 0
IsBare unset = Unit {0}
IsBare (error description) = ⊥
IsBare ok = Unit {0}

-- a status without where it lies
abbrev pub plain_status : Status → PlainStatus
plain_status statuses.Unset = unset
plain_status (statuses.Error description) = error (string_bytes description)
plain_status statuses.Ok = ok

-- a pair of texts without where they lie
abbrev pub plain_pair : {A B : Type 0} → String A × String B → List ℕ × List ℕ
plain_pair pair = (string_bytes pair.0, string_bytes pair.1)

-- the pairs that are shared; none where nothing is
abbrev pub shared_pairs : {A B C D : Type 0}
    → Option (Arc (Vec (String A × String B) C) D) → List (List ℕ × List ℕ)
shared_pairs None = []
shared_pairs (Some shared) = map (λ p. (string_bytes p.0, string_bytes p.1)) (arc_value shared).items

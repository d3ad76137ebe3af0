-- The members of a JSON object, by the rules of protobuf's JSON: null stands for a member that is not there, of a name
-- that comes twice the last member counts, and a member may have the name that protobuf itself gives it.
use Rattle.std.specs.Prelude.{ℕ, List, [], ◌∷◌, Option, Some, None, Result, Ok, codes, option_and_then, option_map}
use Rattle.std.specs.Prelude.{if◌then◌else◌}
use Rattle.std.specs.Str.{bytes_eq}
use Rattle.json.specs.Json.{Json, Items, no_items, item}
use Rattle.json.specs.Find.{as_array, as_object, as_str, get, is_null}
use Rattle.otel_otlp_read.specs.declared.fault.Fault.{Fault}
use Rattle.otel_otlp_read.specs.Reading.{needed}

-- a value, unless it is null
abbrev pub unless_null : Json → Option Json
unless_null j = if is_null j then None else Some j

-- what protobuf itself calls a member, where that is not its name in JSON; protobuf's JSON takes both
unfoldable pub own_name : List ℕ → Option (List ℕ)
own_name name =
    if bytes_eq name (codes "traceId") then Some (codes "trace_id") else
    (if bytes_eq name (codes "spanId") then Some (codes "span_id") else
    (if bytes_eq name (codes "parentSpanId") then Some (codes "parent_span_id") else
    (if bytes_eq name (codes "startTimeUnixNano") then Some (codes "start_time_unix_nano") else
    (if bytes_eq name (codes "endTimeUnixNano") then Some (codes "end_time_unix_nano") else
    (if bytes_eq name (codes "timeUnixNano") then Some (codes "time_unix_nano") else
    (if bytes_eq name (codes "resourceSpans") then Some (codes "resource_spans") else
    (if bytes_eq name (codes "resourceMetrics") then Some (codes "resource_metrics") else
    (if bytes_eq name (codes "resourceLogs") then Some (codes "resource_logs") else
    (if bytes_eq name (codes "resourceProfiles") then Some (codes "resource_profiles") else
    (if bytes_eq name (codes "scopeSpans") then Some (codes "scope_spans") else
    (if bytes_eq name (codes "scopeMetrics") then Some (codes "scope_metrics") else
    (if bytes_eq name (codes "scopeLogs") then Some (codes "scope_logs") else
    (if bytes_eq name (codes "scopeProfiles") then Some (codes "scope_profiles") else
    (if bytes_eq name (codes "instrumentationLibrarySpans") then Some (codes "instrumentation_library_spans") else
    (if bytes_eq name (codes "stringValue") then Some (codes "string_value") else
    (if bytes_eq name (codes "boolValue") then Some (codes "bool_value") else
    (if bytes_eq name (codes "intValue") then Some (codes "int_value") else
    (if bytes_eq name (codes "doubleValue") then Some (codes "double_value") else
    (if bytes_eq name (codes "bytesValue") then Some (codes "bytes_value") else
    (if bytes_eq name (codes "arrayValue") then Some (codes "array_value") else
    (if bytes_eq name (codes "kvlistValue") then Some (codes "kvlist_value") else
    None)))))))))))))))))))))

-- the member of a name; none where it is missing or null
abbrev pub named : List ℕ → Json → Option Json
named name j = option_and_then unless_null (get name j)

-- the first of two, if there is one
abbrev pub first_of : Option Json → Option Json → Option Json
first_of None other = other
first_of (Some j) other = Some j

-- the member of a name, or of protobuf's own for it
abbrev pub given : List ℕ → Json → Option Json
given name j = first_of (named name j) (option_and_then (λ own. named own j) (own_name name))

-- the items of an array as a list
abbrev pub listed : Items → List Json
listed no_items = []
listed (item j js) = j ∷ listed js

-- that a value is an object
abbrev pub object_or : Fault → Json → Result (Unit {0}) Fault
object_or fault j = needed fault (option_map (λ members. tt) (as_object j))

-- what is read of a member that may be missing
abbrev pub or_default : {A : Type 0} → A → (Json → Result A Fault) → Option Json → Result A Fault
or_default default read None = Ok default
or_default default read (Some j) = read j

-- the text of a member, empty where it is missing
abbrev pub text_of : List ℕ → Fault → Json → Result (List ℕ) Fault
text_of name fault j = or_default [] (λ v. needed fault (as_str v)) (given name j)

-- the items of a member that is a list, none where it is missing
abbrev pub list_of : List ℕ → Fault → Json → Result (List Json) Fault
list_of name fault j = or_default [] (λ v. needed fault (option_map listed (as_array v))) (given name j)

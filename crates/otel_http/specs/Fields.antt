-- What the fields of one name say (RFC 9110, sections 5.3 and 5.5; W3C Trace Context, section 3.2).
use Rattle.std.specs.Prelude.{ℕ, Bool, true, ◌&&◌, ◌||◌, ◌==◌, not, ◌-◌, List, [], ◌∷◌, map, length, slice_get, bytes_eq}
use Rattle.std.specs.Prelude.{Option, Some, None, if◌then◌else◌}
use Rattle.std.specs.List.{join_with_byte, list_all}
use Rattle.http_header.specs.FieldValue.{FieldValue, is_visible_text}
use Rattle.opentelemetry.specs.Members.{comma}
use Rattle.opentelemetry.specs.Tracestate.{is_blank}
use Rattle.otel_propagation.specs.Traceparent.{traceparent_field}

-- no blank stands there
abbrev pub is_no_blank : Option ℕ → Bool
is_no_blank None = true
is_no_blank (Some b) = not (is_blank b)

-- a field value as it may be sent: visible ASCII and blanks, none of which stands at an end
abbrev pub is_field_content : List ℕ → Bool
is_field_content bytes =
    is_no_blank (slice_get bytes 0) && (is_no_blank (slice_get bytes (length bytes - 1)) && is_visible_text bytes)

-- a value is visible ASCII and blanks
abbrev pub is_visible : FieldValue → Bool
is_visible value = is_visible_text value.bytes

-- values as one, joined by commas in their order
abbrev pub joined : List FieldValue → List ℕ
joined values = join_with_byte comma (map (λ value. value.bytes) values)

-- the text of values; none where one has other bytes
abbrev pub joined_text : List FieldValue → Option (List ℕ)
joined_text values = if list_all is_visible values then Some (joined values) else None

-- a name of which one field at most counts
abbrev pub is_single : List ℕ → Bool
is_single name = bytes_eq name traceparent_field

-- the text of several values of a name: where one at most counts, none
abbrev pub repeated_text : List ℕ → List FieldValue → Option (List ℕ)
repeated_text name values = if is_single name then None else joined_text values

-- what the values of a name in lower case say
abbrev pub fields_text : List ℕ → List FieldValue → Option (List ℕ)
fields_text name [] = None
fields_text name (value ∷ []) = joined_text (value ∷ [])
fields_text name (value ∷ other ∷ more) = repeated_text name (value ∷ other ∷ more)

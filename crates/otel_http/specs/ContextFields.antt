-- What of a context is written into headers, field by field, and the fields that stay.
use Rattle.std.specs.Prelude.{◌≡◌, ℕ, ◌&&◌, not, List, [], ◌∷◌, ◌++◌, All, IsTrue, bytes_eq, filter, fold, if◌then◌else◌, nat_lt}
use Rattle.std.specs.List.{list_any}
use Rattle.http_header.specs.FieldValue.{plain_value}
use Rattle.http_header.specs.HeaderMap.{insert}
use Rattle.http_header.specs.Token.{lowercase}
use Rattle.opentelemetry.specs.Plain.{PlainContext, PlainSpanContext}
use Rattle.opentelemetry.specs.PlainContexts.{current_span_context}
use Rattle.opentelemetry.specs.Tracestate.{tracestate_text}
use Rattle.otel_propagation.specs.BaggageHeader.{baggage_field}
use Rattle.otel_propagation.specs.StrictBaggage.{strict_header_of}
use Rattle.otel_propagation.specs.Traceparent.{traceparent_field, traceparent_of, tracestate_field}
use Rattle.otel_http.specs.Fields.{is_field_content}
use Rattle.otel_http.specs.Headers.{Headers}

-- a name and a text
abbrev pub TextField : Type 0
TextField = List ℕ × List ℕ

-- a text in place of all the values of its name, as one that is not sensitive
abbrev pub set_field : Headers → TextField → Headers
set_field headers field = insert headers (lowercase field.0) (plain_value field.1)

-- fields were set in turn, each of which may be sent
pub record SetsFields (old : Headers) (fields : List TextField) (new : Headers) : Type 0 where
  pub content : All (λ field. IsTrue (is_field_content field.1)) fields
  pub sets : new ≡ fold set_field old fields

-- fields were set up to one that was not
pub record SetsUpTo (old : Headers) (fields : List TextField) (new : Headers) : Type 0 where
  pub front : List TextField
  pub refused : TextField
  pub left : List TextField
  pub are : fields ≡ front ++ refused ∷ left
  pub sets : SetsFields old front new

-- the fields of a span context: both where neither id is zero, and else none
abbrev pub span_fields : PlainSpanContext → List TextField
span_fields c =
    if nat_lt 0 c.trace_id && nat_lt 0 c.span_id
    then (traceparent_field, traceparent_of c) ∷ (tracestate_field, tracestate_text c.trace_state) ∷ [] else []

-- the field of a baggage by the text of its header, where there is something to write
abbrev pub baggage_fields : List ℕ → List TextField
baggage_fields [] = []
baggage_fields (b ∷ header) = (baggage_field, b ∷ header) ∷ []

-- the fields of a context
unfoldable pub context_fields : PlainContext → List TextField
context_fields cx = span_fields (current_span_context cx) ++ baggage_fields (strict_header_of cx.baggage)

-- the names of such fields
abbrev pub context_names : List (List ℕ)
context_names = traceparent_field ∷ tracestate_field ∷ baggage_field ∷ []

-- the fields of other names, in order, with all that they hold
unfoldable pub other_fields : Headers → Headers
other_fields headers = filter (λ entry. not (list_any (bytes_eq entry.0) context_names)) headers

-- The texts of a context before one of them is set.
use Rattle.std.specs.Prelude.{ℕ, List, [], ◌∷◌, ◌++◌, Option, None, Some, bytes_eq, if◌then◌else◌, option_map, string_bytes}
use Rattle.opentelemetry.specs.Carrier.{Texts}
use Rattle.otel_propagation.specs.BaggageHeader.{baggage_field}
use Rattle.otel_propagation.specs.Traceparent.{traceparent_field, tracestate_field}
use Rattle.otel_http.specs.ContextFields.{TextField}
use Rattle.otel_http.specs.declared.context_texts.ContextTexts.{ContextTexts}

-- no texts
abbrev pub no_texts : Texts
no_texts name = None

-- texts in which a name has this one, or none
abbrev pub with_text : List ℕ → Option (List ℕ) → Texts → Texts
with_text name text others other = if bytes_eq other name then text else others other

-- the texts of a context so far
abbrev pub texts_of : ContextTexts → Texts
texts_of texts =
    with_text traceparent_field (option_map (λ t. string_bytes t) texts.traceparent)
    (with_text tracestate_field (option_map (λ t. string_bytes t) texts.tracestate)
    (with_text baggage_field (option_map (λ t. string_bytes t) texts.baggage) no_texts))

-- the field of a name, if it has a text
abbrev pub field_if : List ℕ → Option (List ℕ) → List TextField
field_if name None = []
field_if name (Some text) = (name, text) ∷ []

-- the fields of W3C's names that have a text, in order
abbrev pub fields_in : Texts → List TextField
fields_in texts =
    field_if traceparent_field (texts traceparent_field)
    ++ (field_if tracestate_field (texts tracestate_field) ++ field_if baggage_field (texts baggage_field))

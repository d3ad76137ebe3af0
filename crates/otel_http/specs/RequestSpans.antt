-- The span of a request: what it begins with, what it is told of the response, and what is recorded of it.
use Rattle.std.specs.Prelude.{◌≡◌, ℕ, ◌+◌, ◌-◌, ◌^◌, Bool, List, [], ◌∷◌, Some, map, min, nat_le, if◌then◌else◌}
use Rattle.http.specs.declared.request.Parts.{Parts}
use Rattle.opentelemetry.specs.Plain.{PlainContext, PlainKeyValue, PlainSpanContext, error}
use Rattle.opentelemetry.specs.PlainContexts.{current_span_context}
use Rattle.opentelemetry.specs.PlainSpanBuilder.{PlainSpanBuilder, named_builder}
use Rattle.opentelemetry.specs.declared.trace.span_kind.SpanKind.{SpanKind}
use Rattle.opentelemetry.specs.declared.trace.span_kind.SpanKind.TheVariants.{Client, Server}
use Rattle.otel_export.specs.PlainSpanData.{PlainSpanData}
pub use Rattle.otel_export.specs.StoredBatches.{one_more}
use Rattle.otel_pipeline.specs.SpanHistory.{Edit, set_attribute, set_status}
use Rattle.otel_http.specs.Conventions.{HasClientAttributes, HasServerAttributes, method_name, response_attributes}

-- what the builder of a request's span has: the method as its name, a kind, and attributes
pub record IsBuilder (kind : SpanKind) (Has : List PlainKeyValue → Type 0) (head : Parts) (builder : PlainSpanBuilder)
    : Type 0 where
  pub attributes : List PlainKeyValue
  pub has : Has attributes
  pub is : builder ≡ record (named_builder (method_name head.method)) {
    span_kind = Some kind;
    attributes = Some attributes;
  }

-- of a request that is served, of this scheme where its target names none, and of one to another service
abbrev pub IsServerBuilder : List ℕ → Bool → Parts → PlainSpanBuilder → Type 0
IsServerBuilder scheme keeps_query head = IsBuilder Server (HasServerAttributes scheme keeps_query head) head

abbrev pub IsClientBuilder : Parts → PlainSpanBuilder → Type 0
IsClientBuilder head = IsBuilder Client (HasClientAttributes head) head

-- the attributes that a span is told of its response
abbrev pub attribute_edits : ℕ → ℕ → List Edit
attribute_edits first_error status = map set_attribute (response_attributes first_error status)

-- the status of a span, by that of the response
abbrev pub status_edits : ℕ → ℕ → List Edit
status_edits first_error status = if nat_le first_error status then set_status (error []) ∷ [] else []

-- what is recorded of a request that is served in a context: a server's span, whose parent is the context's span and
-- whose trace is that one's; in a root's context, of no parent and a trace of its own
pub record IsServerSpan (cx : PlainContext) (recorded : PlainSpanData) : Type 0 where
  pub kind : recorded.span_kind ≡ Server
  pub parent : recorded.parent_span_id ≡ (current_span_context cx).span_id
  pub trace : (parent : PlainSpanContext) → cx.span_context ≡ Some parent
      → recorded.span_context.trace_id ≡ parent.trace_id

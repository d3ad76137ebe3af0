-- What is asked of a start, and the start of a span that it gives (OpenTelemetry specification, "Span Creation").
use Rattle.std.specs.Prelude.{ℕ, ◌+◌, ◌*◌, ◌/◌, ◌++◌, ◌&&◌, Bool, false, List, [], Some, nat_lt, unwrap_or}
use Rattle.opentelemetry.specs.Plain.{PlainKeyValue, PlainSpanContext, PlainContext, PlainScope}
use Rattle.opentelemetry.specs.PlainContexts.{current_span_context}
use Rattle.opentelemetry.specs.PlainSpanBuilder.{PlainSpanBuilder}
use Rattle.opentelemetry.specs.declared.trace.span_kind.SpanKind.TheVariants.{Internal}
use Rattle.otel_sampling.specs.declared.trace.span_limit.SpanLimits.{SpanLimits}
use Rattle.otel_sampling.specs.declared.trace.sampler.SamplingDecision.{SamplingDecision}
use Rattle.otel_sampling.specs.declared.trace.sampler.SamplingDecision.TheVariants as decisions
use Rattle.otel_sampling.specs.Sampling.{SamplingQuestion, PlainSamplingResult}
use Rattle.otel_pipeline.specs.SpanHistory.{SpanStart}

-- what is asked of a start: the scope of its tracer, what the span begins with, its context, and the moment that is now
pub record StartRequest : Type 0 where
  pub scope : PlainScope
  pub builder : PlainSpanBuilder
  pub cx : PlainContext
  pub now : ℕ

-- the same, one by one
abbrev pub start_request : PlainScope → PlainSpanBuilder → PlainContext → ℕ → StartRequest
start_request scope builder cx now = record { scope = scope; builder = builder; cx = cx; now = now }

-- the moment at which a span starts: what its builder says, or else now
abbrev pub start_moment : PlainSpanBuilder → ℕ → ℕ
start_moment builder now = unwrap_or builder.start_time now

-- what the sampler is asked of a span that is to start in a context
abbrev pub start_question : PlainContext → ℕ → PlainSpanBuilder → SamplingQuestion
start_question cx trace_id builder = record {
  parent_context = Some cx;
  trace_id = trace_id;
  name = builder.name;
  span_kind = unwrap_or builder.span_kind Internal;
  attributes = unwrap_or builder.attributes [];
  links = unwrap_or builder.links [];
}

-- the flags of a new span: those of its parent, with the sampled flag set where it is exported and cleared where it is
-- only recorded; none where it is dropped
abbrev pub start_flags : PlainSpanContext → SamplingDecision → ℕ
start_flags parent decisions.Drop = 0
start_flags parent decisions.RecordOnly = 2 * (parent.trace_flags / 2)
start_flags parent decisions.RecordAndSample = 2 * (parent.trace_flags / 2) + 1

-- the context of a new span of these ids, as the sampler answered
abbrev pub start_span_context : PlainSpanContext → ℕ → ℕ → PlainSamplingResult → PlainSpanContext
start_span_context parent trace_id span_id answer = record {
  trace_id = trace_id;
  span_id = span_id;
  trace_flags = start_flags parent answer.decision;
  is_remote = false;
  trace_state = answer.trace_state;
}

-- whether a span context is valid and came from another process
abbrev pub is_remote_parent : PlainSpanContext → Bool
is_remote_parent parent = (nat_lt 0 parent.trace_id && nat_lt 0 parent.span_id) && parent.is_remote

-- the start of a span: what the builder says, and else what the tracer knows; the sampler's attributes come last
abbrev pub start_of : PlainScope → PlainSpanBuilder → PlainSpanContext → ℕ → SpanLimits → PlainSpanContext
    → List PlainKeyValue → SpanStart
start_of scope builder parent now limits context added = record {
  span_context = context;
  parent_span_id = parent.span_id;
  parent_span_is_remote = is_remote_parent parent;
  span_kind = unwrap_or builder.span_kind Internal;
  name = builder.name;
  start_time = start_moment builder now;
  attributes = unwrap_or builder.attributes [] ++ added;
  events = unwrap_or builder.events [];
  links = unwrap_or builder.links [];
  instrumentation_scope = scope;
  limits = limits;
}

-- the start of a span of these ids that the sampler answered so
abbrev pub start_as : StartRequest → SpanLimits → ℕ → ℕ → PlainSamplingResult → SpanStart
start_as request limits trace_id span_id answer =
    start_of request.scope request.builder (current_span_context request.cx) request.now limits
    (start_span_context (current_span_context request.cx) trace_id span_id answer) answer.attributes

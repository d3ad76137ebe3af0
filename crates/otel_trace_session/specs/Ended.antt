-- What is kept of a span that is over: who it was, and its limits.
use Rattle.opentelemetry.specs.Plain.{PlainSpanContext}
use Rattle.otel_sampling.specs.declared.trace.span_limit.SpanLimits.{SpanLimits}
use Rattle.otel_pipeline.specs.SpanHistory.{PlainSpan, not_recording}

pub record EndedIdentity : Type 0 where
  pub span_context : PlainSpanContext
  pub limits : SpanLimits

-- what is kept of a span
abbrev pub ended_identity : PlainSpan → EndedIdentity
ended_identity span = record { span_context = span.span_context; limits = span.limits }

-- the span that is over of which this is kept
abbrev pub ended_span : EndedIdentity → PlainSpan
ended_span kept = not_recording kept.span_context kept.limits

-- What a sampler is asked, and what it answers, without where they lie in memory (OpenTelemetry specification,
-- "ShouldSample").
use Rattle.std.specs.Prelude.{ℕ, List, [], Option, Some, None, option_map, Vec}
use Rattle.std.specs.Borrow.{Bor}
use Rattle.opentelemetry.specs.Plain.{PlainContext, PlainKeyValue, PlainLink}
use Rattle.opentelemetry.specs.declared.trace.span_kind.SpanKind.{SpanKind}
use Rattle.otel_sampling.specs.declared.trace.sampler.SamplingDecision.{SamplingDecision}

-- what is known of a span that is about to start
pub record SamplingQuestion : Type 0 where
  pub parent_context : Option PlainContext
  pub trace_id : ℕ
  pub name : List ℕ
  pub span_kind : SpanKind
  pub attributes : List PlainKeyValue
  pub links : List PlainLink

-- what becomes of the span: the decision, the attributes that the sampler adds, and the trace state of its context
pub record PlainSamplingResult : Type 0 where
  pub decision : SamplingDecision
  pub attributes : List PlainKeyValue
  pub trace_state : List (List ℕ × List ℕ)

-- the question that a call of should_sample asks
abbrev pub question_of : Option (Bor PlainContext) → ℕ → List ℕ → SpanKind → List PlainKeyValue → List PlainLink
    → SamplingQuestion
question_of parent_context trace_id name span_kind attributes links = record {
  parent_context = option_map (λ context. context.now) parent_context;
  trace_id = trace_id;
  name = name;
  span_kind = span_kind;
  attributes = attributes;
  links = links;
}

-- the attributes that are added; none where there is no list of them
abbrev pub added_attributes : {A : Type 0} → Option (Vec PlainKeyValue A) → List PlainKeyValue
added_attributes None = []
added_attributes (Some attributes) = attributes.items

-- What a sampler of the requests that a service takes answers.
use Rattle.std.specs.Prelude.{ℕ, true, List, [], ◌∷◌, Option, Some, None, codes}
use Rattle.opentelemetry.specs.Plain.{PlainContext, PlainKeyValue, boolean}
use Rattle.opentelemetry.specs.PlainContexts.{current_span_context}
use Rattle.opentelemetry.specs.declared.trace.span_kind.SpanKind.{SpanKind}
use Rattle.opentelemetry.specs.declared.trace.span_kind.SpanKind.TheVariants as kinds
use Rattle.otel_sampling.specs.Sampling.{PlainSamplingResult}
use Rattle.otel_sampling.specs.declared.trace.sampler.SamplingDecision.TheVariants as decisions

-- the trace state of the active span; the empty one where there is no context
abbrev pub parent_state : Option PlainContext → List (List ℕ × List ℕ)
parent_state None = []
parent_state (Some cx) = (current_span_context cx).trace_state

-- a span that is sampled: it gets an attribute, and its parent's trace state
abbrev pub sampled_answer : Option PlainContext → PlainSamplingResult
sampled_answer cx = record {
  decision = decisions.RecordAndSample;
  attributes = record { key = codes "b"; value = boolean true } ∷ [];
  trace_state = parent_state cx;
}

-- a span that is dropped
abbrev pub dropped_answer : PlainSamplingResult
dropped_answer = record { decision = decisions.Drop; attributes = []; trace_state = [] }

-- spans of servers are sampled, and all others are dropped
abbrev pub server_answer : SpanKind → Option PlainContext → PlainSamplingResult
server_answer kinds.Server cx = sampled_answer cx
server_answer _ cx = dropped_answer

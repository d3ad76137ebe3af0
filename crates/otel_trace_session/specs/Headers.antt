-- The headers by which another process continues a trace, and the context that such a header says.
use Rattle.std.specs.Prelude.{◌≡◌, ℕ, List, Some, string_bytes}
use Rattle.opentelemetry.specs.Plain.{PlainContext, PlainSpanContext}
use Rattle.opentelemetry.specs.Tracestate.{tracestate_text}
use Rattle.otel_propagation.specs.Traceparent.{IsTraceparent, IsValid, traceparent_of}
use Rattle.opentelemetry.specs.PlainContexts.{root_cx}
use Rattle.otel_trace_lines.specs.declared.reply.Answer.{Answer}
use Rattle.otel_trace_lines.specs.declared.reply.Answer.TheVariants as answers

-- the context in which the span of this span context is active, and nothing else is handed on
abbrev pub child_cx : PlainSpanContext → PlainContext
child_cx parent = record root_cx { span_context = Some parent }

-- the context that a `traceparent` says where no trace state stands beside it; where it says none, nothing is active
pub record SaysContext (header : List ℕ) (cx : PlainContext) : Type 0 where
  pub read : (c : PlainSpanContext) → IsTraceparent header c → cx ≡ child_cx c
  pub none : ((c : PlainSpanContext) → ¬ (IsTraceparent header c)) → cx ≡ root_cx

-- what is said of the headers of a span context: both, exactly where it is valid
abbrev pub AnswersHeaders : PlainSpanContext → Answer → Type 0
AnswersHeaders c (answers.Headers parent state) =
    IsValid c × (string_bytes parent ≡ traceparent_of c) × (string_bytes state ≡ tracestate_text c.trace_state)
AnswersHeaders c answers.NoHeaders = ¬ (IsValid c)
AnswersHeaders c _ = ⊥

-- When a span context belongs to a trace as the trace's root does (OpenTelemetry specification, "Sampling" and
-- "Propagators API"): a trace is kept whole only where each of its spans has the root's decision.
use Rattle.std.specs.Prelude.{◌≡◌, ◌%◌}
use Rattle.opentelemetry.specs.Plain.{PlainSpanContext}

-- a span context has the trace id, the sampled flag and the trace state of a root
pub record Agrees (root c : PlainSpanContext) : Type 0 where
  pub trace_id : c.trace_id ≡ root.trace_id
  pub sampled : c.trace_flags % 2 ≡ root.trace_flags % 2
  pub trace_state : c.trace_state ≡ root.trace_state

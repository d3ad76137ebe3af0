-- The fields end in those that are left.
use denote.Text.{Utf8}
use denote.Shadow.{shadow}
use Rattle.otel_trace_run.specs.Reasons.{EndsIn}
use Rattle.otel_trace_run.proofs.reason.reason_before_text.Given as goal

abbrev pub invariant-loop : goal.invariant-loop
invariant-loop l = shadow (Utf8 l.rest) × EndsIn l.fn.fields l.rest

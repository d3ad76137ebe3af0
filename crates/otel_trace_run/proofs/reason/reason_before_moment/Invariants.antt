-- The fields end in those that are left, after those that were passed.
use denote.Text.{Utf8}
use denote.Shadow.{shadow}
use Rattle.otel_trace_run.specs.Reasons.{EndsIn, StandBefore}
use Rattle.otel_trace_run.proofs.reason.reason_before_moment.Given as goal

abbrev pub invariant-loop-passed : goal.invariant-loop-passed
invariant-loop-passed l =
    shadow (Utf8 l.rest) × EndsIn l.fn.fields l.rest × StandBefore l.passed l.fn.fields l.rest

-- The spans of the replies so far.
use Rattle.std.proofs.Common.{◌≡◌}
use Rattle.otel_export.specs.PlainSpanData.{spans_in}
use Rattle.otel_trace_run.proofs.picture.spans_of.Given as goal
use Rattle.otel_trace_session.specs.Shown.{exported_in}

abbrev pub invariant-loop-reply : goal.invariant-loop-reply
invariant-loop-reply l = l.spans.items ≡ spans_in (exported_in l.yielded)

-- The spans so far.
use Rattle.std.proofs.Common.{◌≡◌, map}
use Rattle.otel_shown.specs.Shown.{no_resource, shown_span}
use Rattle.otel_trace_run.proofs.picture.shown_spans.Given as goal

abbrev pub invariant-loop-span : goal.invariant-loop-span
invariant-loop-span l = l.shown.items ≡ map (shown_span no_resource) l.yielded

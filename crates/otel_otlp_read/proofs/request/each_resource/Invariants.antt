-- The spans so far, and those of the resources that are left, are all.
use Rattle.std.proofs.Common.{◌≡◌, ◌+◌, drop, map}
use Rattle.json.specs.Value.{value_view}
use Rattle.otel_otlp_read.specs.Kept.{and_kept, kept_by}
use Rattle.otel_otlp_read.specs.Requests.{resource_spans_in}
use Rattle.otel_otlp_read.proofs.request.each_resource.Given as goal

abbrev pub invariant-loop-place : goal.invariant-loop-place
invariant-loop-place l =
    and_kept l.out (kept_by resource_spans_in (l.place + 1) (map value_view (drop l.place l.items)))
    ≡ kept_by resource_spans_in 1 (map value_view l.items)

-- The spans so far, and those that are left, are all.
use Rattle.std.proofs.Common.{◌≡◌, ◌+◌, drop, map}
use Rattle.json.specs.Value.{value_view}
use Rattle.otel_otlp_read.specs.declared.left_out.ItemList.TheVariants.{Spans}
use Rattle.otel_otlp_read.specs.Kept.{and_kept, kept_by}
use Rattle.otel_otlp_read.specs.Requests.{span_at}
use Rattle.otel_otlp_read.proofs.request.push_spans.Given as goal

abbrev pub invariant-loop-place : goal.invariant-loop-place
invariant-loop-place l =
    let read = span_at l.shown (Spans l.scope.resource l.scope.scope) in
    and_kept l.out (kept_by read (l.place + 1) (map value_view (drop l.place l.items)))
    ≡ and_kept l.fn.out (kept_by read 1 (map value_view l.items))

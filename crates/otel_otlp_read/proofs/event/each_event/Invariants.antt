-- The events so far, and those that are left, are all.
use Rattle.std.proofs.Common.{◌≡◌, ◌+◌, drop, map}
use Rattle.json.specs.Value.{value_view}
use Rattle.otel_otlp_read.specs.Kept.{and_kept, kept_by}
use Rattle.otel_otlp_read.specs.SpanLists.{event_at}
use Rattle.otel_otlp_read.proofs.event.each_event.Given as goal

abbrev pub invariant-loop-place : goal.invariant-loop-place
invariant-loop-place l =
    let read = event_at l.span_id in
    and_kept l.read (kept_by read (l.place + 1) (map value_view (drop l.place l.items)))
    ≡ kept_by read 1 (map value_view l.items)

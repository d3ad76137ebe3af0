-- The spans so far, and those of the scopes that are left, are all.
use Rattle.std.proofs.Common.{◌≡◌, ◌+◌, drop, map}
use Rattle.json.specs.Value.{value_view}
use Rattle.otel_otlp_read.specs.Kept.{and_kept, kept_by}
use Rattle.otel_otlp_read.specs.Requests.{scope_spans_in}
use Rattle.otel_otlp_read.proofs.request.push_scopes.Given as goal

abbrev pub invariant-loop-place : goal.invariant-loop-place
invariant-loop-place l =
    let read = scope_spans_in l.shown l.resource in
    and_kept l.out (kept_by read (l.place + 1) (map value_view (drop l.place l.items)))
    ≡ and_kept l.fn.out (kept_by read 1 (map value_view l.items))

-- The spans of one scope more.
use Rattle.std.proofs.Common.{arith, map}
use Rattle.json.specs.Value.{value_view}
use Rattle.otel_otlp_read.specs.Kept.{and_kept, kept_by}
use Rattle.otel_otlp_read.specs.Requests.{scope_spans_in}
use Rattle.otel_otlp_read.proofs.KeptReading.{kept_ends, kept_more}
use Rattle.otel_otlp_read.proofs.request.push_scopes.Goals as goal

pub loop-place-preserved : goal.loop-place-preserved
loop-place-preserved c =
    let read = scope_spans_in c.args.shown.now c.args.resource in
    let items = c.args.items.now in
    kept_more read value_view items c.loop-place.place c.loop-place.out
    (and_kept c.args.out.now (kept_by read 1 (map value_view items))) c.index-items-place.result c.push_scope.new.out
    (omega arith) c.index-items-place.is c.loop-place.invariant (c.in_ok-push_scope.ensures {u = tt})

pub returns : goal.returns
returns c =
    let read = scope_spans_in c.args.shown.now c.args.resource in
    let items = c.args.items.now in
    kept_ends read value_view items c.loop-place.place c.loop-place.out
    (and_kept c.args.out.now (kept_by read 1 (map value_view items))) (omega arith) c.loop-place.invariant

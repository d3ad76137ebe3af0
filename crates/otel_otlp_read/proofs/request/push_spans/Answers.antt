-- One span more.
use Rattle.std.proofs.Common.{arith, map}
use Rattle.json.specs.Value.{value_view}
use Rattle.otel_otlp_read.specs.declared.left_out.ItemList.TheVariants.{Spans}
use Rattle.otel_otlp_read.specs.Kept.{and_kept, kept_by}
use Rattle.otel_otlp_read.specs.Requests.{span_at}
use Rattle.otel_otlp_read.proofs.KeptReading.{kept_ends, kept_more}
use Rattle.otel_otlp_read.proofs.request.push_spans.Goals as goal

pub loop-place-preserved : goal.loop-place-preserved
loop-place-preserved c =
    let read = span_at c.args.shown.now (Spans c.args.scope.resource c.args.scope.scope) in
    let items = c.args.items.now in
    kept_more read value_view items c.loop-place.place c.loop-place.out
    (and_kept c.args.out.now (kept_by read 1 (map value_view items))) c.index-items-place.result c.push_span.new.out
    (omega arith) c.index-items-place.is c.loop-place.invariant (c.in_ok-push_span.ensures {u = tt})

pub returns : goal.returns
returns c =
    let read = span_at c.args.shown.now (Spans c.args.scope.resource c.args.scope.scope) in
    let items = c.args.items.now in
    kept_ends read value_view items c.loop-place.place c.loop-place.out
    (and_kept c.args.out.now (kept_by read 1 (map value_view items))) (omega arith) c.loop-place.invariant

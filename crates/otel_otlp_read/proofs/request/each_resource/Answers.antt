-- The spans of one resource more.
use Rattle.std.proofs.Common.{arith, map}
use Rattle.json.specs.Value.{value_view}
use Rattle.otel_otlp_read.specs.Kept.{kept_by}
use Rattle.otel_otlp_read.specs.Requests.{resource_spans_in}
use Rattle.otel_otlp_read.proofs.KeptReading.{kept_ends, kept_more}
use Rattle.otel_otlp_read.proofs.request.each_resource.Goals as goal

pub loop-place-preserved : goal.loop-place-preserved
loop-place-preserved c =
    let items = c.args.items.now in
    kept_more resource_spans_in value_view items c.loop-place.place c.loop-place.out
    (kept_by resource_spans_in 1 (map value_view items)) c.index-items-place.result c.push_resource.new.out
    (omega arith) c.index-items-place.is c.loop-place.invariant (c.in_ok-push_resource.ensures {u = tt})

pub returns : goal.returns
returns c =
    let items = c.args.items.now in
    kept_ends resource_spans_in value_view items c.loop-place.place c.loop-place.out
    (kept_by resource_spans_in 1 (map value_view items)) (omega arith) c.loop-place.invariant

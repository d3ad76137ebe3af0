-- One link more.
use Rattle.std.proofs.Common.{arith, map}
use Rattle.json.specs.Value.{value_view}
use Rattle.otel_otlp_read.specs.Kept.{kept_by}
use Rattle.otel_otlp_read.specs.SpanLists.{link_at}
use Rattle.otel_otlp_read.proofs.KeptReading.{kept_ends, kept_more}
use Rattle.otel_otlp_read.proofs.link.each_link.Goals as goal

pub loop-place-preserved : goal.loop-place-preserved
loop-place-preserved c =
    let read = link_at c.args.span_id in
    let items = c.args.items.now in
    kept_more read value_view items c.loop-place.place c.loop-place.read (kept_by read 1 (map value_view items))
    c.index-items-place.result c.add.new.self (omega arith) c.index-items-place.is c.loop-place.invariant
    (c.in_ok-add.ensures {u = tt})

pub returns : goal.returns
returns c =
    let read = link_at c.args.span_id in
    let items = c.args.items.now in
    kept_ends read value_view items c.loop-place.place c.loop-place.read (kept_by read 1 (map value_view items))
    (omega arith) c.loop-place.invariant

-- One attribute more.
use Rattle.std.proofs.Common.{arith, map}
use Rattle.json.specs.Value.{value_view}
use Rattle.otel_otlp_read.specs.Kept.{kept_from}
use Rattle.otel_otlp_read.specs.SpanLists.{attribute_line}
use Rattle.otel_otlp_read.proofs.KeptReading.{item_of, kept_ends, kept_more}
use Rattle.otel_otlp_read.proofs.attributes.each_attribute.Goals as goal

pub loop-place-preserved : goal.loop-place-preserved
loop-place-preserved c =
    let read = attribute_line in
    let list = c.args.list.now in
    let items = c.args.items.now in
    kept_more (item_of read list) value_view items c.loop-place.place c.loop-place.read
    (kept_from read list 1 (map value_view items)) c.index-items-place.result c.add.new.self (omega arith)
    c.index-items-place.is c.loop-place.invariant (c.in_ok-add.ensures {u = tt})

pub returns : goal.returns
returns c =
    let read = attribute_line in
    let list = c.args.list.now in
    let items = c.args.items.now in
    kept_ends (item_of read list) value_view items c.loop-place.place c.loop-place.read
    (kept_from read list 1 (map value_view items)) (omega arith) c.loop-place.invariant

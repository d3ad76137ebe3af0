use Rattle.std.proofs.Common.{slice_get, ap, ◌∙◌, arith}
use Rattle.circular_buffer.specs.Buffer.{Buffer}
use Rattle.otel_batch.proofs.SpanQueueLemmas.{read_head, read_rest}
use Rattle.otel_batch.proofs.machine.span_queue.SpanQueue.get.Goals as goal

pub returns-then-index-in_head : goal.returns-then-index-in_head
returns-then-index-in_head g c =
    let s = c.self.inside in
    let read = read_head s.chunks.items s.head c.self.invariant.steps s.len s.limit c.args.index c.index.result.now c.index-then-index-in_head.result.now c.self.invariant.queue c.index.ensures c.index-then-index-in_head.ensures (omega arith) in
    c.get.ensures ∙ read ∙ ap (λ (b : Buffer g.row.T.Denot). slice_get b.items c.args.index) c.self.view_is

pub returns : goal.returns
returns g c =
    let s = c.self.inside in
    let read = read_rest s.chunks.items s.head c.self.invariant.steps s.len s.limit c.args.index c.len-in_head.result c.len.result c.place_after-place.result c.index.result.now c.index-2.result.now c.self.invariant.queue
    c.index.ensures c.len-in_head.ensures.len (omega arith) (omega arith) (omega arith) c.place_after-place.ensures c.index-2.ensures in
    c.get-2.ensures ∙ read ∙ ap (λ (b : Buffer g.row.T.Denot). slice_get b.items c.args.index) c.self.view_is

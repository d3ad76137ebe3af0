use Rattle.std.proofs.Common.{[], ap, ◌∙◌}
use Rattle.circular_buffer.specs.Buffer.{Buffer, buffer}
use Rattle.otel_batch.proofs.SpanQueueLemmas.{first_queue}
use Rattle.otel_batch.proofs.machine.span_queue.SpanQueue.with_capacity.Goals as goal

pub invariant_of-result : goal.invariant_of-result
invariant_of-result g c = (first_queue c.capacity-limit.result _ c.capacity-limit.ensures.within.1 c.in_ok-empty_chunks.ensures).queue

pub returns : goal.returns
returns g c =
    let first = first_queue c.capacity-limit.result _ c.capacity-limit.ensures.within.1 c.in_ok-empty_chunks.ensures in
    ap (λ xs. buffer xs c.capacity-limit.result) first.items
    ∙ ap (λ n. buffer [] n) (c.capacity-limit.ensures.capacity ∙ ap (λ (b : Buffer g.row.T.Denot). b.capacity) c.in_ok-room.ensures)

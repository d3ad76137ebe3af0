use Rattle.std.proofs.Common.{◌-◌, drop, set, slice_get, sym, ap, ◌∙◌, subst, arith}
use Rattle.circular_buffer.specs.Buffer.{Buffer, buffer}
use Rattle.otel_batch.specs.SpanQueue.{circle, items_of, IsQueueTo, TakesAt}
use Rattle.otel_batch.proofs.SpanQueueLemmas.{first_is_some, take_is_ready, queue_take}
use Rattle.otel_batch.proofs.machine.span_queue.SpanQueue.pop_front.Goals as goal

pub unreachable-requires : goal.unreachable-requires
unreachable-requires g c =
    let s = c.self.inside in
    let head = c.place_to_take-self-inside.result in
    let ready = take_is_ready s.chunks.items s.head s.tail s.len s.limit head c.self.invariant (omega arith) (subst (λ cs. TakesAt cs s.head head) c.deref.ensures.value c.place_to_take-self-inside.ensures) in
    let taken = queue_take s.chunks.items head s.tail s.len s.limit c.index_mut.result.now (items_of (circle s.head s.chunks.items)) ready c.index_mut.ensures.value in
    first_is_some c.index_mut.result.now.items taken.some (sym c.pop_front.ensures.value ∙ c.in_default.is)

pub invariant_of-self : goal.invariant_of-self
invariant_of-self g c =
    let s = c.self.inside in
    let head = c.place_to_take-self-inside.result in
    let ready = take_is_ready s.chunks.items s.head s.tail s.len s.limit head c.self.invariant (omega arith) (subst (λ cs. TakesAt cs s.head head) c.deref.ensures.value c.place_to_take-self-inside.ensures) in
    let taken = queue_take s.chunks.items head s.tail s.len s.limit c.index_mut.result.now (items_of (circle s.head s.chunks.items)) ready c.index_mut.ensures.value in
    subst (λ (b : Buffer g.row.T.Denot). IsQueueTo (set s.chunks.items head b) head s.tail (s.len - 1) s.limit) (sym c.pop_front.ensures.items) taken.queue

pub returns-clause-value : goal.returns-clause-value
returns-clause-value g c =
    let s = c.self.inside in
    let head = c.place_to_take-self-inside.result in
    let ready = take_is_ready s.chunks.items s.head s.tail s.len s.limit head c.self.invariant (omega arith) (subst (λ cs. TakesAt cs s.head head) c.deref.ensures.value c.place_to_take-self-inside.ensures) in
    let taken = queue_take s.chunks.items head s.tail s.len s.limit c.index_mut.result.now (items_of (circle s.head s.chunks.items)) ready c.index_mut.ensures.value in
    c.in-Some.ensures.value ∙ taken.value ∙ ap (λ (b : Buffer g.row.T.Denot). slice_get b.items 0) c.self.view_is

pub returns-clause-items : goal.returns-clause-items
returns-clause-items g c =
    let s = c.self.inside in
    let head = c.place_to_take-self-inside.result in
    let ready = take_is_ready s.chunks.items s.head s.tail s.len s.limit head c.self.invariant (omega arith) (subst (λ cs. TakesAt cs s.head head) c.deref.ensures.value c.place_to_take-self-inside.ensures) in
    let taken = queue_take s.chunks.items head s.tail s.len s.limit c.index_mut.result.now (items_of (circle s.head s.chunks.items)) ready c.index_mut.ensures.value in
    ap (λ (b : Buffer g.row.T.Denot). buffer (items_of (circle head (set s.chunks.items head b))) s.limit) c.pop_front.ensures.items
    ∙ ap (λ xs. buffer xs s.limit) taken.items
    ∙ ap (λ (b : Buffer g.row.T.Denot). buffer (drop 1 b.items) b.capacity) c.self.view_is

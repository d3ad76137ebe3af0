use Rattle.std.proofs.Common.{arith, ◌+◌, [], ◌∷◌, ◌++◌, set, sym, ap, ◌∙◌, subst, refl}
use Rattle.std.proofs.lemmas.Bool.{false≢true}
use Rattle.circular_buffer.specs.Buffer.{Buffer, buffer}
use Rattle.otel_batch.specs.SpanQueue.{circle, items_of, IsQueueTo}
use Rattle.otel_batch.proofs.SpanQueueLemmas.{tail_put, next_put}
use Rattle.otel_batch.proofs.machine.span_queue.SpanQueue.try_push_back.Goals as goal

pub invariant_of-self : goal.invariant_of-self
invariant_of-self g c =
    let s = c.self.inside in
    let put = tail_put s.chunks.items s.head s.tail s.len s.limit c.index_mut.result.now c.args.item c.self.invariant c.if-self.false c.index_mut.ensures.value (c.in-Ok.ensures.variant.0 refl) in
    subst (λ (b : Buffer g.row.T.Denot). IsQueueTo (set s.chunks.items s.tail b) s.head s.tail (s.len + 1) s.limit) (sym c.in-Ok.ensures.ok) put.queue

pub returns-in-Ok-clause-ok : goal.returns-in-Ok-clause-ok
returns-in-Ok-clause-ok g c =
    let s = c.self.inside in
    let put = tail_put s.chunks.items s.head s.tail s.len s.limit c.index_mut.result.now c.args.item c.self.invariant c.if-self.false c.index_mut.ensures.value (c.in-Ok.ensures.variant.0 refl) in
    ap (λ (b : Buffer g.row.T.Denot). buffer (items_of (circle s.head (set s.chunks.items s.tail b))) s.limit) c.in-Ok.ensures.ok
    ∙ ap (λ xs. buffer xs s.limit) put.items
    ∙ ap (λ (b : Buffer g.row.T.Denot). buffer (b.items ++ c.args.item ∷ []) b.capacity) c.self.view_is

pub unreachable-requires : goal.unreachable-requires
unreachable-requires g c =
    let s = c.self.inside in
    let next = c.place_after-next.result in
    let put = next_put s.chunks.items s.head s.tail s.len s.limit next c.len.result c.index_mut.result.now c.try_push_back.new.self c.index_mut-2.result.now c.in-Err.item c.self.invariant c.if-self.false
    c.index_mut.ensures.value c.in-Err.ensures.variant.1 c.in-Err.ensures.err.1 (omega arith) c.place_after-next.ensures c.index_mut-2.ensures.value in
    false≢true (c.in_default.ensures.variant.1 put.put.room)

pub invariant_of-self-2 : goal.invariant_of-self-2
invariant_of-self-2 g c =
    let s = c.self.inside in
    let next = c.place_after-next.result in
    let put = next_put s.chunks.items s.head s.tail s.len s.limit next c.len.result c.index_mut.result.now c.try_push_back.new.self c.index_mut-2.result.now c.in-Err.item c.self.invariant c.if-self.false
    c.index_mut.ensures.value c.in-Err.ensures.variant.1 c.in-Err.ensures.err.1 (omega arith) c.place_after-next.ensures c.index_mut-2.ensures.value in
    let written = put.written c.try_push_back-2.new.self c.in-Ok-try_push_back.ensures.ok in
    subst (λ l. IsQueueTo l s.head next (s.len + 1) s.limit) (sym written) put.put.queue

pub returns-clause-ok : goal.returns-clause-ok
returns-clause-ok g c =
    let s = c.self.inside in
    let next = c.place_after-next.result in
    let put = next_put s.chunks.items s.head s.tail s.len s.limit next c.len.result c.index_mut.result.now c.try_push_back.new.self c.index_mut-2.result.now c.in-Err.item c.self.invariant c.if-self.false
    c.index_mut.ensures.value c.in-Err.ensures.variant.1 c.in-Err.ensures.err.1 (omega arith) c.place_after-next.ensures c.index_mut-2.ensures.value in
    let written = put.written c.try_push_back-2.new.self c.in-Ok-try_push_back.ensures.ok in
    ap (λ l. buffer (items_of (circle s.head l)) s.limit) written
    ∙ ap (λ xs. buffer xs s.limit) put.put.items
    ∙ ap (λ x. buffer (items_of (circle s.head s.chunks.items) ++ x ∷ []) s.limit) c.in-Err.ensures.err.0
    ∙ ap (λ (b : Buffer g.row.T.Denot). buffer (b.items ++ c.args.item ∷ []) b.capacity) c.self.view_is

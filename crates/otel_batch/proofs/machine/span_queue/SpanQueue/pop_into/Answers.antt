use Rattle.std.proofs.Common.{arith, ◌≡◌, ◌∙◌, ◌∷◌, ◌++◌, [], None, Some, ap, sym, take, drop, slice_get, append_assoc, add-one}
use Rattle.std.proofs.lemmas.Grind.{common_steps}
use Rattle.circular_buffer.specs.Buffer.{Buffer, buffer}
use Rattle.otel_batch.proofs.Pulling.{next_item, no_item}
use Rattle.otel_batch.proofs.machine.span_queue.SpanQueue.pop_into.Goals as goal

pub returns-in_default-clause-left : goal.returns-in_default-clause-left
returns-in_default-clause-left g c =
    let s = c.args.self.now in
    let none : slice_get (drop c.loop-i._i s.items) 0 ≡ None = grind (arith, common_steps) in
    let past = no_item s.items c.loop-i._i c.args.count none (omega arith) in
    c.pop_front.ensures.items
    ∙ ap (λ (b : Buffer g.row.T.Denot). buffer (drop 1 b.items) b.capacity) c.loop-i.invariant.left
    ∙ ap (λ xs. buffer xs s.capacity) (past.0 ∙ sym past.1)

pub loop-i-preserved : goal.loop-i-preserved
loop-i-preserved g c =
    let s = c.args.self.now in
    let some : slice_get (drop c.loop-i._i s.items) 0 ≡ Some c.in-Some.item = grind (arith, common_steps) in
    let next = next_item s.items c.loop-i._i c.in-Some.item some in
    record {
      items = rw add-one (c.push_reserved.ensures.items ∙ ap (λ l. l ++ c.in-Some.item ∷ []) c.loop-i.invariant.items
          ∙ append_assoc c.args.items.now.items (take c.loop-i._i s.items) (c.in-Some.item ∷ [])
          ∙ ap (λ l. c.args.items.now.items ++ l) (sym next.0));
      left = rw add-one (c.pop_front.ensures.items
          ∙ ap (λ (b : Buffer g.row.T.Denot). buffer (drop 1 b.items) b.capacity) c.loop-i.invariant.left
          ∙ ap (λ xs. buffer xs s.capacity) next.1);
      len = grind (arith, common_steps);
      room = grind (arith, common_steps);
      capacity = grind (arith, common_steps);
    }

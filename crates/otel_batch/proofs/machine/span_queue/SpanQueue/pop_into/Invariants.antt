use Rattle.std.proofs.Common.{◌≡◌, ◌+◌, ◌-◌, ◌≤◌, ◌++◌, take, drop, length, vec_len, vec_capacity}
use Rattle.circular_buffer.specs.Buffer.{buffer}
use Rattle.otel_batch.proofs.machine.span_queue.SpanQueue.pop_into.Given as goal

abbrev pub invariant-loop-i : goal.invariant-loop-i
invariant-loop-i g l = record {
  items : l.items.items ≡ l.fn.items.items ++ take l._i l.fn.self.items;
  left : l.self ≡ buffer (drop l._i l.fn.self.items) l.fn.self.capacity;
  len : vec_len l.items ≡ length l.items.items;
  room : vec_len l.items + (l.count - l._i) ≤ vec_capacity l.items;
  capacity : vec_capacity l.items ≡ vec_capacity l.fn.items;
}

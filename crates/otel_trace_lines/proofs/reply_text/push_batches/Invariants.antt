-- The lines of the batches so far are written.
use Rattle.std.proofs.Common.{◌≡◌, ◌++◌, take, string_bytes}
use Rattle.std.specs.List.{flat_map}
use Rattle.otel_console.specs.SpanText.{span_lines}
use Rattle.otel_trace_lines.proofs.reply_text.push_batches.Given as goal

abbrev pub invariant-loop-batch : goal.invariant-loop-batch
invariant-loop-batch l = string_bytes l.text ≡ string_bytes l.fn.text ++ span_lines (flat_map (λ batch. batch.items) (take l.batch-index l.batches))

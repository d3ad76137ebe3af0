-- The lines of the spans so far are written.
use Rattle.std.proofs.Common.{◌≡◌, ◌++◌, take, string_bytes}
use Rattle.otel_console.specs.SpanText.{span_lines}
use Rattle.otel_console.proofs.span_text.push_spans.Given as goal

abbrev pub invariant-loop-span : goal.invariant-loop-span
invariant-loop-span l = string_bytes l.text ≡ string_bytes l.fn.text ++ span_lines (take l.span-index l.spans)

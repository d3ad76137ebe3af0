-- The events so far are written.
use Rattle.std.proofs.Common.{◌≡◌, ◌∷◌, ◌++◌, take, map, string_bytes}
use Rattle.std.specs.List.{join_with_byte}
use Rattle.otel_console.specs.SpanText.{event_text}
use Rattle.otel_console.proofs.span_text.push_event_list.Given as goal

abbrev pub invariant-loop-i : goal.invariant-loop-i
invariant-loop-i l = string_bytes l.text ≡ string_bytes l.fn.text ++ (91 ∷ join_with_byte 44 (map event_text (take l.i l.events)))

-- The names so far are written.
use Rattle.std.proofs.Common.{◌≡◌, ◌∷◌, ◌++◌, take, map, string_bytes}
use Rattle.std.specs.List.{join_with_byte}
use Rattle.otel_trace_steps.proofs.steps.step_texts.push_names.Given as goal

abbrev pub invariant-loop-i : goal.invariant-loop-i
invariant-loop-i l = string_bytes l.text ≡ string_bytes l.fn.text ++ (91 ∷ join_with_byte 44 (map (λ span. span.name) (take l.i l.spans)))

-- Traces beside their ids.
use Rattle.std.proofs.Common.{◌≡◌, ◌<◌, ◌∷◌, [], ℕ, List, All, length, map}
use Rattle.std.specs.List.{AllByRecursion, AllZip}
use Rattle.otel_shown.specs.Shown.{PlainShownSpan}
use Rattle.otel_picture.specs.Traces.{IsTraceAt, IsTraceOf, PlainTrace, plain_trace}
use Rattle.otel_picture.specs.declared.rows.Mark.{Mark}
use Rattle.otel_picture.specs.declared.trace.Trace.{Trace}

-- the spans of traces are there
pub are_there : (spans : List PlainShownSpan) (ids : List ℕ) (traces : List Trace)
    → AllZip (IsTraceOf spans) ids (map plain_trace traces)
    → AllByRecursion (λ trace. All (λ (mark : Mark). mark.place < length spans) trace.family.marks.items) traces
are_there spans [] [] h = tt
are_there spans [] (trace ∷ traces) h = absurd h
are_there spans (id ∷ ids) [] h = absurd h
are_there spans (id ∷ ids) (trace ∷ traces) h = (h.0.there, are_there spans ids traces h.1)

-- a trace of a group
pub of_group : (spans : List PlainShownSpan) (id trace_id : ℕ) (below places : List ℕ) (trace : PlainTrace)
    → trace_id ≡ id → places ≡ below → IsTraceAt spans trace_id places trace → IsTraceAt spans id below trace
of_group spans id trace_id below places trace e f h = rw (e, f) at h

-- The batches so far are written.
use Rattle.std.proofs.Common.{◌≡◌, ◌∷◌, ◌++◌, take, string_bytes}
use Rattle.std.specs.List.{flat_map}
use Rattle.otel_trace_steps.specs.StepTexts.{names_text}
use Rattle.otel_trace_steps.proofs.steps.step_texts.push_told.Given as goal

abbrev pub invariant-loop-batch : goal.invariant-loop-batch
invariant-loop-batch l = string_bytes l.text ≡ string_bytes l.fn.text ++ flat_map (λ batch. 32 ∷ names_text batch.items) (take l.batch-index l.batches)

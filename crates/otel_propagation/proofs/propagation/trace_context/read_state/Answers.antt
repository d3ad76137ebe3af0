use Rattle.std.proofs.Common.{◌≡◌, [], ⊎_elim, subst, ◌∙◌}
use Rattle.std.specs.Option.{option_copied}
use Rattle.otel_propagation.specs.Traceparent.{SaysState}
use Rattle.opentelemetry.specs.declared.trace.trace_state.TraceStateError.TheVariants as faults
use Rattle.otel_propagation.proofs.TraceparentLemmas.{found_fault, says_none}
use Rattle.otel_propagation.proofs.propagation.trace_context.read_state.Goals as goal

pub returns-in-Err-Memory-clause-free : goal.returns-in-Err-Memory-clause-free
returns-in-Err-Memory-clause-free c says =
    ⊎_elim
    (λ none. c.in-Err-Memory.ensures.free none)
    (λ refused. absurd (refused.2
    (found_fault _ (c.in-Err-Memory.field-0 ≡ faults.Memory) _ refused.0 c.in-Err-Memory.field-0 refused.1 c.in-Err-Memory.ensures.fault ∙ c.in-Err-Memory.field-0-is)))
    (says_none c.in-Some.text.now (subst (λ header. SaysState (option_copied header) []) c.in-Some.is says))

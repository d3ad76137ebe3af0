-- A trace that goes from service to service, each of which decides by a threshold of its own or by the parent.
use Rattle.std.specs.Prelude.{◌≡◌, ◌↔◌, ℕ, ◌%◌, true, List, [], ◌∷◌}
use Rattle.opentelemetry.specs.Plain.{PlainSpanContext}
use Rattle.opentelemetry.specs.Tracestate.{is_value}
use Rattle.otel_sampling.specs.declared.trace.sampler.SamplingDecision.TheVariants as decisions
use Rattle.otel_probability.specs.Answers.{by_threshold, child_answer}
use Rattle.otel_probability.specs.Entry.{Pairs, entry_of, entry_text, other_members}

-- what the entry of a trace state has beside the threshold is a value of a trace state
abbrev pub OthersFit : Pairs → Type 0
OthersFit state = is_value (entry_text (other_members (entry_of state))) ≡ true

-- the trace state of a trace after services that decide by these thresholds
abbrev pub state_after : List ℕ → Pairs → ℕ → Pairs
state_after [] state trace_id = state
state_after (threshold ∷ more) state trace_id =
    state_after more (by_threshold threshold state trace_id).trace_state trace_id

-- a span's context is that of a child on which a sampler by parents decided
pub record IsHop (parent child : PlainSpanContext) : Type 0 where
  pub trace_id : child.trace_id ≡ parent.trace_id
  pub sampled : (child.trace_flags % 2 ≡ 1)
      ↔ ((child_answer parent parent.trace_id).decision ≡ decisions.RecordAndSample)
  pub trace_state : child.trace_state ≡ (child_answer parent parent.trace_id).trace_state

-- contexts are each that of a child of the one before
abbrev pub AreHops : PlainSpanContext → List PlainSpanContext → Type 0
AreHops parent [] = Unit {0}
AreHops parent (child ∷ more) = IsHop parent child × AreHops child more

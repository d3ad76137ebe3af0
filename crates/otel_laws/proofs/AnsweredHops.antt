-- What a consistent sampler by parents answers below a span makes a hop.
use Rattle.std.proofs.Common.{◌≡◌, ◌↔◌, ℕ, ◌%◌, Bool, true, false, refl, sym, ap, subst, ◌∙◌, arith}
use Rattle.std.specs.Prelude.{Some, ◌==◌, if◌then◌else◌}
use Rattle.opentelemetry.specs.Plain.{PlainSpanContext}
use Rattle.otel_sampling.specs.Sampler.{active_in}
use Rattle.otel_sampling.specs.Sampling.{PlainSamplingResult, SamplingQuestion}
use Rattle.otel_sampling.specs.declared.trace.sampler.SamplingDecision.TheVariants as decisions
use Rattle.otel_pipeline.specs.Hops.{IsAnsweredChild}
use Rattle.otel_pipeline.specs.StartRequest.{start_flags, start_span_context}
use Rattle.otel_probability.specs.Answers.{bare_answer, by_parent, child_answer, consistent_state, parent_answer}
use Rattle.otel_probability.specs.Entry.{Pairs, without_threshold}
use Rattle.otel_probability.specs.Hops.{IsHop}

-- a span is sampled where it was decided so
flag_says : (parent : PlainSpanContext) (b : Bool) (kept erased : Pairs)
    → let answer = if b then bare_answer decisions.RecordAndSample kept else bare_answer decisions.Drop erased in
    (start_flags parent answer.decision % 2 ≡ 1) ↔ (answer.decision ≡ decisions.RecordAndSample)
flag_says parent true kept erased = (λ _. refl, λ _. omega arith)
flag_says parent false kept erased = (λ odd. absurd (omega (arith, odd)), λ is. absurd cc)

pub hop_of_answer : (parent child : PlainSpanContext) (threshold : ℕ) (question : SamplingQuestion)
    → question.trace_id ≡ parent.trace_id → active_in question.parent_context ≡ Some parent
    → IsAnsweredChild parent (parent_answer threshold question) child → IsHop parent child
hop_of_answer parent child threshold question same active (span_id, is) =
    let answered : parent_answer threshold question ≡ child_answer parent parent.trace_id =
    λ k. by_parent threshold (active k) (same k) in
    let context : child ≡ start_span_context parent parent.trace_id span_id (child_answer parent parent.trace_id) =
    is ∙ ap (λ (a : PlainSamplingResult). start_span_context parent parent.trace_id span_id a) answered in
    record {
      trace_id = ap (λ (c : PlainSpanContext). c.trace_id) context;
      sampled =
          subst
          (λ (c : PlainSpanContext). (c.trace_flags % 2 ≡ 1)
          ↔ ((child_answer parent parent.trace_id).decision ≡ decisions.RecordAndSample))
          (sym context)
          (flag_says parent (parent.trace_flags % 2 == 1) (consistent_state parent.trace_state parent.trace_id)
          (without_threshold parent.trace_state));
      trace_state = ap (λ (c : PlainSpanContext). c.trace_state) context;
    }

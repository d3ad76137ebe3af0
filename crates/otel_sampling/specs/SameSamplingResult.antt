-- Whether two answers of samplers are the same, part by part. The test is true exactly at equal values.
use Rattle.std.specs.Prelude.{◌≡◌, Bool, true, false, ◌&&◌, refl}
use Rattle.std.specs.Bool.{Decides}
use Rattle.std.proofs.Common.{ap}
use Rattle.std.proofs.lemmas.Bool.Decides.{Decides-like, Decides-and}
use Rattle.opentelemetry.specs.Same.{same_pairs, same_pairs_decides}
use Rattle.opentelemetry.specs.SameParts.{same_attributes, same_attributes_decides}
use Rattle.otel_sampling.specs.Sampling.{PlainSamplingResult}
use Rattle.otel_sampling.specs.declared.trace.sampler.SamplingDecision.{SamplingDecision}
use Rattle.otel_sampling.specs.declared.trace.sampler.SamplingDecision.TheVariants as decisions

-- whether two decisions are the same
abbrev pub same_decision : SamplingDecision → SamplingDecision → Bool
same_decision decisions.Drop decisions.Drop = true
same_decision decisions.RecordOnly decisions.RecordOnly = true
same_decision decisions.RecordAndSample decisions.RecordAndSample = true
same_decision _ _ = false

pub same_decision_decides : (a b : SamplingDecision) → Decides (same_decision a b) (a ≡ b)
same_decision_decides decisions.Drop decisions.Drop = (λ _. refl, λ _. refl)
same_decision_decides decisions.RecordOnly decisions.RecordOnly = (λ _. refl, λ _. refl)
same_decision_decides decisions.RecordAndSample decisions.RecordAndSample = (λ _. refl, λ _. refl)
same_decision_decides _ _ = (λ h. cc, λ e. cc)

-- whether two answers are the same
abbrev pub same_answer : PlainSamplingResult → PlainSamplingResult → Bool
same_answer a b = same_decision a.decision b.decision
    && (same_attributes a.attributes b.attributes && same_pairs a.trace_state b.trace_state)

pub same_answer_decides : (a b : PlainSamplingResult) → Decides (same_answer a b) (a ≡ b)
same_answer_decides a b =
    Decides-like (same_answer a b)
    (λ e. λ i. record { decision = e.0 i; attributes = e.1.0 i; trace_state = e.1.1 i })
    (λ e. (ap (λ x. x.decision) e, (ap (λ x. x.attributes) e, ap (λ x. x.trace_state) e)))
    (Decides-and _ _ (same_decision_decides a.decision b.decision)
    (Decides-and _ _ (same_attributes_decides a.attributes b.attributes)
    (same_pairs_decides a.trace_state b.trace_state)))

-- What the answers of consistent samplers have in common.
use Rattle.std.proofs.Common.{◌≡◌, ℕ, ◌<◌, ◌≤◌, ◌%◌, List, [], ◌∷◌, Option, Some, None, Bool, true, false, cond, eqb, leb, ltb, refl, sym, ap, ◌∙◌, arith}
use Rattle.std.proofs.lemmas.Bool.{leb-true, le-leb}
use Rattle.std.proofs.lemmas.Bool.Decides.{nat_tests}
use Rattle.std.specs.Option.{option_map_or}
use borrow.Author.Tests.{eq-eqb}
use Rattle.std.specs.List.{AllByRecursion}
use Rattle.opentelemetry.specs.Plain.{PlainSpanContext}
use Rattle.otel_sampling.specs.Agreement.{Agrees}
use Rattle.otel_sampling.specs.declared.trace.sampler.SamplingDecision.TheVariants as decisions
use Rattle.otel_probability.specs.Answers.{bare_answer, by_threshold, child_answer, consistent_state, is_consistent, keeps_trace}
use Rattle.otel_probability.specs.Entry.{Pairs, entry_of, entry_with, randomness_in, threshold_in, with_threshold, without_threshold}
use Rattle.otel_probability.specs.Hops.{AreHops, IsHop, OthersFit, state_after}
use Rattle.opentelemetry.specs.Tracestate.{is_value}
use Rattle.opentelemetry.proofs.Tracestates.{both_true}
use Rattle.otel_probability.specs.Numbers.{every_number}
use Rattle.otel_probability.proofs.States.{erased, fits_with, fits_without, handed_on, random_with, random_without, same_randomness, with_by}

-- ---- one answer

-- a threshold that is handed on is the sampler's
with_is : (threshold u : ℕ) (state : Pairs) → threshold_in (with_threshold threshold state) ≡ Some u → u ≡ threshold
with_is threshold u state h =
    let P : Pairs → Type 0 = λ s. threshold_in s ≡ Some u → u ≡ threshold in
    with_by P threshold state
    (λ marks.
    let parts = both_true (ltb threshold every_number) (is_value (entry_with threshold (entry_of state))) marks in
    let small : threshold < every_number = grind (arith, nat_tests) in
    let kept : threshold_in (with_threshold threshold state) ≡ Some threshold = handed_on threshold state small parts.1 in
    λ _. cc)
    (λ _. λ read. absurd (cc (sym (erased state) ∙ read)))
    h

answer_at : (b : Bool) (threshold u randomness : ℕ) (state : Pairs) → b ≡ leb threshold randomness
    → (cond b (bare_answer decisions.RecordAndSample (with_threshold threshold state)) (bare_answer decisions.Drop (without_threshold state))).decision ≡ decisions.RecordAndSample
    → threshold_in (cond b (bare_answer decisions.RecordAndSample (with_threshold threshold state)) (bare_answer decisions.Drop (without_threshold state))).trace_state ≡ Some u
    → u ≤ randomness
answer_at true threshold u randomness state is sampled read =
    let same : u ≡ threshold = with_is threshold u state read in
    let least : threshold ≤ randomness = leb-true threshold randomness (sym is) in
    omega (arith, same, least)
answer_at false threshold u randomness state is sampled read = absurd cc

pub sampled_at : (threshold u : ℕ) (state : Pairs) (trace_id : ℕ) → (by_threshold threshold state trace_id).decision ≡ decisions.RecordAndSample
    → threshold_in (by_threshold threshold state trace_id).trace_state ≡ Some u → u ≤ randomness_in state trace_id
sampled_at threshold u state trace_id = answer_at (keeps_trace threshold state trace_id) threshold u (randomness_in state trace_id) state refl

-- a consistent threshold is at most the randomness
consistent_at : (o : Option ℕ) (randomness u : ℕ) → option_map_or (λ t. leb t randomness) o false ≡ true → o ≡ Some u → u ≤ randomness
consistent_at None randomness u consistent read = absurd cc
consistent_at (Some t) randomness u consistent read =
    let same : t ≡ u = cc in
    let least : t ≤ randomness = leb-true t randomness consistent in
    omega (arith, same, least)

kept_at : (b : Bool) (state : Pairs) (trace_id u : ℕ) → is_consistent state trace_id ≡ b → threshold_in (cond b state (without_threshold state)) ≡ Some u
    → u ≤ randomness_in state trace_id
kept_at true state trace_id u is read = consistent_at (threshold_in state) (randomness_in state trace_id) u is read
kept_at false state trace_id u is read = absurd (cc (sym (erased state) ∙ read))

child_at_by : (b : Bool) (span : PlainSpanContext) (trace_id u : ℕ)
    → threshold_in (cond b (bare_answer decisions.RecordAndSample (consistent_state span.trace_state trace_id)) (bare_answer decisions.Drop (without_threshold span.trace_state))).trace_state ≡ Some u
    → u ≤ randomness_in span.trace_state trace_id
child_at_by true span trace_id u read = kept_at (is_consistent span.trace_state trace_id) span.trace_state trace_id u refl read
child_at_by false span trace_id u read = absurd (cc (sym (erased span.trace_state) ∙ read))

pub child_at : (span : PlainSpanContext) (trace_id u : ℕ) → threshold_in (child_answer span trace_id).trace_state ≡ Some u → u ≤ randomness_in span.trace_state trace_id
child_at span trace_id u = child_at_by (eqb (span.trace_flags % 2) 1) span trace_id u

-- ---- what is erased

pub inconsistent_child : (span : PlainSpanContext) (trace_id : ℕ) → span.trace_flags % 2 ≡ 1 → is_consistent span.trace_state trace_id ≡ false
    → child_answer span trace_id ≡ bare_answer decisions.RecordAndSample (without_threshold span.trace_state)
inconsistent_child span trace_id sampled other =
    ap (λ b. cond b (bare_answer decisions.RecordAndSample (consistent_state span.trace_state trace_id)) (bare_answer decisions.Drop (without_threshold span.trace_state)))
    (eq-eqb (span.trace_flags % 2) 1 sampled)
    ∙ ap (λ b. bare_answer decisions.RecordAndSample (cond b span.trace_state (without_threshold span.trace_state))) other

pub consistent_child : (span : PlainSpanContext) (trace_id : ℕ) → span.trace_flags % 2 ≡ 1 → is_consistent span.trace_state trace_id ≡ true
    → child_answer span trace_id ≡ bare_answer decisions.RecordAndSample span.trace_state
consistent_child span trace_id sampled same =
    ap (λ b. cond b (bare_answer decisions.RecordAndSample (consistent_state span.trace_state trace_id)) (bare_answer decisions.Drop (without_threshold span.trace_state)))
    (eq-eqb (span.trace_flags % 2) 1 sampled)
    ∙ ap (λ b. bare_answer decisions.RecordAndSample (cond b span.trace_state (without_threshold span.trace_state))) same

-- ---- over hops

by_threshold_random : (b : Bool) (threshold : ℕ) (state : Pairs) (trace_id : ℕ) → OthersFit state
    → OthersFit (cond b (bare_answer decisions.RecordAndSample (with_threshold threshold state)) (bare_answer decisions.Drop (without_threshold state))).trace_state
    × (randomness_in (cond b (bare_answer decisions.RecordAndSample (with_threshold threshold state)) (bare_answer decisions.Drop (without_threshold state))).trace_state trace_id
    ≡ randomness_in state trace_id)
by_threshold_random true threshold state trace_id fits =
    (fits_with threshold state fits, same_randomness (with_threshold threshold state) state trace_id (random_with threshold state fits))
by_threshold_random false threshold state trace_id fits =
    (fits_without state fits, same_randomness (without_threshold state) state trace_id (random_without state fits))

pub random_after : (hops : List ℕ) (state : Pairs) (trace_id : ℕ) → OthersFit state → randomness_in (state_after hops state trace_id) trace_id ≡ randomness_in state trace_id
random_after [] state trace_id fits = refl
random_after (threshold ∷ hops) state trace_id fits =
    let hop = by_threshold_random (keeps_trace threshold state trace_id) threshold state trace_id fits in
    random_after hops (by_threshold threshold state trace_id).trace_state trace_id hop.0 ∙ hop.1

pub keeps_more : (one other : List ℕ) (state : Pairs) (trace_id small great : ℕ) → OthersFit state → small ≤ great
    → keeps_trace great (state_after one state trace_id) trace_id ≡ true → keeps_trace small (state_after other state trace_id) trace_id ≡ true
keeps_more one other state trace_id small great fits least kept =
    let here : great ≤ randomness_in (state_after one state trace_id) trace_id = leb-true great (randomness_in (state_after one state trace_id) trace_id) kept in
    let this = random_after one state trace_id fits in
    let that = random_after other state trace_id fits in
    le-leb small (randomness_in (state_after other state trace_id) trace_id) (omega (arith, here, this, that, least))

hop_agrees : (root parent child : PlainSpanContext) → root.trace_flags % 2 ≡ 1 → is_consistent root.trace_state root.trace_id ≡ true → Agrees root parent → IsHop parent child → Agrees root child
hop_agrees root parent child sampled consistent agrees hop =
    let flag : parent.trace_flags % 2 ≡ 1 = agrees.sampled ∙ sampled in
    let same : is_consistent parent.trace_state parent.trace_id ≡ true =
    ap (λ s. is_consistent s parent.trace_id) agrees.trace_state ∙ ap (λ t. is_consistent root.trace_state t) agrees.trace_id ∙ consistent in
    let answer = consistent_child parent parent.trace_id flag same in
    record {
      trace_id = hop.trace_id ∙ agrees.trace_id;
      sampled = hop.sampled.1 (ap (λ a. a.decision) answer) ∙ sym sampled;
      trace_state = hop.trace_state ∙ ap (λ a. a.trace_state) answer ∙ agrees.trace_state;
    }

pub hops_agree : (root parent : PlainSpanContext) (hops : List PlainSpanContext) → root.trace_flags % 2 ≡ 1 → is_consistent root.trace_state root.trace_id ≡ true
    → Agrees root parent → AreHops parent hops → AllByRecursion (Agrees root) hops
hops_agree root parent [] sampled consistent agrees are = tt
hops_agree root parent (child ∷ hops) sampled consistent agrees are =
    let this = hop_agrees root parent child sampled consistent agrees are.0 in (this, hops_agree root child hops sampled consistent this are.1)

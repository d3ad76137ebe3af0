-- To give up the name of a span is a turn of the histories.
use Rattle.std.proofs.Common.{◌≡◌, ◌∙◌, ℕ, Bool, true, false, if◌then◌else◌, List, Option, Some, None, ap, is_some, refl, subst, sym}
use Rattle.std.specs.Option.{option_map}
use Rattle.otel_pipeline.specs.SpanHistory.{PlainSpan, SpanHistory, begun, over, span_of}
use Rattle.otel_trace_lines.specs.declared.reply.Answer.{Answer}
use Rattle.otel_trace_lines.specs.declared.reply.Answer.TheVariants as answers
use Rattle.otel_trace_session.specs.OpenSpans.{Describe, DropsSpan, Histories, NamedSpans, forget_answer, forgotten_by, forgotten_in, is_name, named, records}
use Rattle.otel_trace_session.proofs.NamedLemmas.{same_name}

-- a name was given up, whatever histories the spans had
abbrev pub Forgets : NamedSpans → List ℕ → Answer → NamedSpans → Type 0
Forgets old span answer new = (histories : Histories) → Describe histories old → (answer ≡ forget_answer (histories span)) × Describe (forgotten_in histories span) new

-- what is said of a name that has a span or none
abbrev pub given_up : Bool → Answer
given_up is_there = if is_there then answers.Ok else answers.NoSuchSpan

-- the span of the name records, and stays
pub forgets_none : (spans : NamedSpans) (span : List ℕ) → records (named spans span) ≡ true → Forgets spans span answers.StillOpen spans
forgets_none spans span is = λ histories describes. by histories describes (histories span) (sym (ap records (describes span)) ∙ is)
  where
    by : (histories : Histories) → Describe histories spans → (found : Option SpanHistory) → records (option_map span_of found) ≡ true → (answers.StillOpen ≡ forget_answer found) × Describe (forgotten_by found histories span) spans
    by histories describes None e = cc
    by histories describes (Some (over context limits)) e = cc
    by histories describes (Some (begun from edits)) e = (refl, describes)

-- a name that has no history keeps none
none_by : (histories : Histories) (old : NamedSpans) (span q : List ℕ) (b : Bool) → is_name q span ≡ b → histories span ≡ None → Describe histories old → (if b then None else named old q) ≡ option_map span_of (histories q)
none_by histories old span q true e none describes = sym (ap (option_map span_of) (ap histories (same_name q span e) ∙ none))
none_by histories old span q false e none describes = describes q

over_by : (histories : Histories) (old : NamedSpans) (q : List ℕ) (b : Bool) → Describe histories old → (if b then None else named old q) ≡ option_map span_of (if b then None else histories q)
over_by histories old q true describes = refl
over_by histories old q false describes = describes q

-- the span of the name, if there is one, does not record, and the name has none any more
pub forgets_one : (old new : NamedSpans) (span : List ℕ) → records (named old span) ≡ false → DropsSpan old span new → Forgets old span (given_up (is_some (named old span))) new
forgets_one old new span is gone = λ histories describes.
    subst (λ (found : Option PlainSpan). (given_up (is_some found) ≡ forget_answer (histories span)) × Describe (forgotten_in histories span) new) (sym (describes span))
    (by histories describes (histories span) refl (sym (ap records (describes span)) ∙ is))
  where
    by : (histories : Histories) → Describe histories old → (found : Option SpanHistory) → histories span ≡ found → records (option_map span_of found) ≡ false
        → (given_up (is_some (option_map span_of found)) ≡ forget_answer found) × Describe (forgotten_by found histories span) new
    by histories describes None there e = (refl, λ q. gone q ∙ none_by histories old span q (is_name q span) refl there describes)
    by histories describes (Some (over context limits)) there e = (refl, λ q. gone q ∙ over_by histories old q (is_name q span) describes)
    by histories describes (Some (begun from edits)) there e = cc

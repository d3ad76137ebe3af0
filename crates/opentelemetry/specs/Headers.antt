-- What headers say of a span context, whatever their form, and what is extracted of them.
use Rattle.std.specs.Prelude.{◌≡◌, ℕ, ◌<◌, List, [], Option, Some, unwrap_or}
use Rattle.opentelemetry.specs.Plain.{PlainContext, PlainSpanContext}
use Rattle.opentelemetry.specs.PlainContexts.{current_span_context}

-- neither id is zero
abbrev pub IsValid : PlainSpanContext → Type 0
IsValid c = (0 < c.trace_id) × (0 < c.span_id)

-- the text of a header; the empty one without it
abbrev pub header_text : Option (List ℕ) → List ℕ
header_text header = unwrap_or header []

-- what is extracted of headers that say span contexts so: the span context that they say; where they say none, the
-- context as it was
pub record ExtractsSaid (says : PlainSpanContext → Type 0) (cx found : PlainContext) : Type 0 where
  pub read : (c : PlainSpanContext) → says c → found ≡ record cx { span_context = Some c }
  pub as_it_was : ((c : PlainSpanContext) → ¬ (says c)) → found ≡ cx

-- that wants no memory: there is no baggage to share, and where the headers say nothing, no trace state
pub record SharesNothingUnsaid (says : PlainSpanContext → Type 0) (cx : PlainContext) : Type 0 where
  pub shares_no_baggage : cx.baggage ≡ []
  pub shares_no_state : ((c : PlainSpanContext) → ¬ (says c)) → (current_span_context cx).trace_state ≡ []

-- whatever is extracted so has this span context
abbrev pub GivesSpan : (PlainContext → PlainContext → Type 0) → PlainSpanContext → Type 0
GivesSpan extracts c = (cx found : PlainContext) → extracts cx found → found ≡ record cx { span_context = Some c }

-- The edits by which a span takes over entries of a baggage.
use Rattle.std.specs.Prelude.{◌≡◌, ℕ, ◌+◌, ◌-◌, ◌^◌, ◌⊎◌, Bool, List, ◌++◌, filter, length, map, min}
use Rattle.opentelemetry.specs.Baggage.{PlainBaggage}
use Rattle.opentelemetry.specs.Plain.{PlainContext, text}
pub use Rattle.otel_export.specs.StoredBatches.{counted_up}
use Rattle.otel_pipeline.specs.SpanHistory.{Edit, PlainSpan, after, edited, set_attribute}

-- what contracts see of the processor: which entries it takes, and how many it left out
pub record BaggageProcessor (K : Type 0) : Type 0 where
  pub keys : K
  pub left_out : ℕ

-- the edit that sets an entry as an attribute
abbrev pub entry_edit : List ℕ → List ℕ → Edit
entry_edit key value = set_attribute (record { key = key; value = text value })

-- the edits that set those entries of a baggage whose keys are taken, in its order
abbrev pub baggage_edits : (List ℕ → Bool) → PlainBaggage → List Edit
baggage_edits takes baggage = map (λ e. entry_edit e.key e.value) (filter (λ e. takes e.key) baggage)

-- a beginning of these edits was made, and the others were left out and counted
pub record MakesBeginning (edits : List Edit) (old new : PlainSpan) (count : ℕ) : Type 0 where
  pub made : List Edit
  pub left_out : List Edit
  pub all : edits ≡ made ++ left_out
  pub span : new ≡ after made old
  pub counted : count ≡ counted_up 0 (length left_out)

-- one more edit was made where none was left out before, or it is left out too
abbrev pub SetsOrCounts : Edit → ℕ → PlainSpan → PlainSpan → ℕ → Type 0
SetsOrCounts edit before old new count =
    ((before ≡ 0) × (count ≡ 0) × (new ≡ edited edit old)) ⊎ ((count ≡ counted_up before 1) × (new ≡ old))

-- what a start does: the edits of the context's baggage are made, up to one that found no memory; what is left out is
-- counted
pub record SetsBaggage {K : Type 0} (takes : K → List ℕ → Bool) (old : BaggageProcessor K) (span : PlainSpan)
    (cx : PlainContext) (span_after : PlainSpan) (new : BaggageProcessor K) : Type 0 where
  pub count : ℕ
  pub edits : MakesBeginning (baggage_edits (takes old.keys) cx.baggage) span span_after count
  pub counted : new ≡ record old { left_out = counted_up old.left_out count }

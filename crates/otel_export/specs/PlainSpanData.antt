-- What contracts see of the data of an ended span.
use Rattle.std.specs.Prelude.{ℕ, ◌-◌, ◌^◌, ◌%◌, ◌==◌, Bool, List, length, take, min}
use Rattle.std.specs.List.{flat_map}
use Rattle.opentelemetry.specs.Plain.{PlainKeyValue, PlainSpanContext, PlainStatus, PlainEvent, PlainLink, PlainScope}
use Rattle.opentelemetry.specs.declared.trace.span_kind.SpanKind.{SpanKind}

-- the events that were kept, and how many were not
pub record PlainSpanEvents : Type 0 where
  pub events : List PlainEvent
  pub dropped_count : ℕ

-- the links that were kept, and how many were not
pub record PlainSpanLinks : Type 0 where
  pub links : List PlainLink
  pub dropped_count : ℕ

-- all that was recorded of one span
pub record PlainSpanData : Type 0 where
  pub span_context : PlainSpanContext
  pub parent_span_id : ℕ
  pub parent_span_is_remote : Bool
  pub span_kind : SpanKind
  pub name : List ℕ
  pub start_time : ℕ
  pub end_time : ℕ
  pub attributes : List PlainKeyValue
  pub dropped_attributes_count : ℕ
  pub events : PlainSpanEvents
  pub links : PlainSpanLinks
  pub status : PlainStatus
  pub instrumentation_scope : PlainScope

-- whether the sampled flag is set
abbrev pub is_sampled : PlainSpanData → Bool
is_sampled span = span.span_context.trace_flags % 2 == 1

-- the spans of batches, in order
abbrev pub spans_in : List (List PlainSpanData) → List PlainSpanData
spans_in batches = flat_map (λ batch. batch) batches

-- a whole list cut at a limit: its first items
abbrev pub cut_at : {X : Type 0} → ℕ → List X → List X
cut_at limit xs = take limit xs

-- and how many others there are, at most the greatest u32
abbrev pub left_out : {X : Type 0} → ℕ → List X → ℕ
left_out limit xs = min (length xs - limit) (2 ^ 32 - 1)

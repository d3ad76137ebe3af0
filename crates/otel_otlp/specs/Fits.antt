-- What resources and ended spans have by their types alone: numbers of so many bits, and trace states of pairs.
use Rattle.std.specs.Prelude.{ℕ, ◌^◌, ◌<◌, List, FitsSigned, IsTrue, ⊤}
use Rattle.std.specs.FinMap.{entries}
use Rattle.std.specs.Float.Ieee.{Float, binary64, fits}
use Rattle.std.specs.Int.{w64}
use Rattle.std.specs.List.{AllByRecursion}
use Rattle.opentelemetry.specs.Plain.{PlainEvent, PlainKeyValue, PlainLink, PlainSpanContext}
use Rattle.opentelemetry.specs.Plain.{PlainValue, boolean, integer, text, booleans, integers, texts, double, doubles}
use Rattle.opentelemetry.specs.Tracestate.{ArePairs}
use Rattle.otel_resource.specs.Resource.{PlainResource}
use Rattle.otel_export.specs.PlainSpanData.{PlainSpanData}

-- a float is one of 64 bits
abbrev pub FloatFits : Float → Type 0
FloatFits x = IsTrue (fits binary64 x)

-- the integers of a value are in the range of i64, and its floats are f64
abbrev pub ValueFits : PlainValue → Type 0
ValueFits (boolean truth) = ⊤
ValueFits (integer number) = FitsSigned w64 number
ValueFits (text bytes) = ⊤
ValueFits (booleans truths) = ⊤
ValueFits (integers numbers) = AllByRecursion (FitsSigned w64) numbers
ValueFits (texts many) = ⊤
ValueFits (double x) = FloatFits x
ValueFits (doubles xs) = AllByRecursion FloatFits xs

-- the value of an attribute fits
abbrev pub AttributeFits : PlainKeyValue → Type 0
AttributeFits attribute = ValueFits attribute.value

-- the value of a pair fits
abbrev pub PairFits : List ℕ × PlainValue → Type 0
PairFits pair = ValueFits pair.1

-- ids of 128 and 64 bits, flags of 8 bits, and a trace state of pairs of a key and a value
pub record ContextFits (context : PlainSpanContext) : Type 0 where
  pub trace_id : context.trace_id < 2 ^ 128
  pub span_id : context.span_id < 2 ^ 64
  pub trace_flags : context.trace_flags < 2 ^ 8
  pub trace_state : ArePairs context.trace_state

-- a moment of 64 bits, a count of 32 bits, and attributes that fit
pub record EventFits (event : PlainEvent) : Type 0 where
  pub timestamp : event.timestamp < 2 ^ 64
  pub attributes : AllByRecursion AttributeFits event.attributes
  pub dropped_attributes_count : event.dropped_attributes_count < 2 ^ 32

-- a context and attributes that fit, and a count of 32 bits
pub record LinkFits (link : PlainLink) : Type 0 where
  pub span_context : ContextFits link.span_context
  pub attributes : AllByRecursion AttributeFits link.attributes
  pub dropped_attributes_count : link.dropped_attributes_count < 2 ^ 32

-- the id of a parent and moments of 64 bits, counts of 32 bits, and parts that fit
pub record SpanFits (span : PlainSpanData) : Type 0 where
  pub span_context : ContextFits span.span_context
  pub parent_span_id : span.parent_span_id < 2 ^ 64
  pub start_time : span.start_time < 2 ^ 64
  pub end_time : span.end_time < 2 ^ 64
  pub attributes : AllByRecursion AttributeFits span.attributes
  pub dropped_attributes_count : span.dropped_attributes_count < 2 ^ 32
  pub events : AllByRecursion EventFits span.events.events
  pub dropped_events_count : span.events.dropped_count < 2 ^ 32
  pub links : AllByRecursion LinkFits span.links.links
  pub dropped_links_count : span.links.dropped_count < 2 ^ 32
  pub scope_attributes : AllByRecursion AttributeFits span.instrumentation_scope.attributes

-- the values of a resource fit
abbrev pub ResourceFits : PlainResource → Type 0
ResourceFits resource = AllByRecursion PairFits (entries resource.attributes)

-- a batch and its resource fit
abbrev pub RequestFits : PlainResource → List PlainSpanData → Type 0
RequestFits resource batch = ResourceFits resource × AllByRecursion SpanFits batch

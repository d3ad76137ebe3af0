-- Which steps of a batch queue lines spell: a line is a word alone, a word and a producer, or a word, a producer and
-- the name of a span, with single spaces between.
use Rattle.std.specs.Prelude.{◌≡◌, ◌≢◌, ◌⊎◌, ℕ, false, List, [], ◌∷◌, ◌++◌, None, Some, codes, IsUtf8}
use Rattle.opentelemetry.specs.Plain.{unset}
use Rattle.opentelemetry.specs.declared.trace.span_kind.SpanKind.TheVariants as kinds
use Rattle.otel_resource.specs.Resource.{empty_resource}
use Rattle.otel_export.specs.PlainSpanData.{PlainSpanData}
use Rattle.otel_batch.specs.declared.machine.step.Step.TheVariants as steps
use Rattle.otel_trace_lines.specs.Lines.{IsField}
use Rattle.otel_trace_lines.specs.Numbers.{decimal_in}
use Rattle.otel_trace_steps.specs.declared.steps.step_lines.Order.{Order}
use Rattle.otel_trace_steps.specs.declared.steps.step_lines.Order.TheVariants as orders

-- the span that a line offers: it has a name and flags, and nothing else
abbrev pub named_span : List ℕ → ℕ → PlainSpanData
named_span name flags = record {
  span_context = record { trace_id = 0; span_id = 0; trace_flags = flags; is_remote = false; trace_state = [] };
  parent_span_id = 0;
  parent_span_is_remote = false;
  span_kind = kinds.Internal;
  name = name;
  start_time = 0;
  end_time = 0;
  attributes = [];
  dropped_attributes_count = 0;
  events = record { events = []; dropped_count = 0 };
  links = record { links = []; dropped_count = 0 };
  status = unset;
  instrumentation_scope = record { name = []; version = None; schema_url = None; attributes = [] };
}

-- a word that is a whole line, and its order
abbrev pub IsWord : List ℕ → Order → Type 0
IsWord word orders.State = word ≡ codes "state"
IsWord word (orders.Step (steps.PostResource resource)) = (word ≡ codes "resource") × (resource ≡ empty_resource)
IsWord word (orders.Step steps.Take) = word ≡ codes "take"
IsWord word (orders.Step steps.Tick) = word ≡ codes "tick"
IsWord word (orders.Step steps.Clear) = word ≡ codes "clear"
IsWord word (orders.Step steps.Load) = word ≡ codes "load"
IsWord word (orders.Step steps.Pull) = word ≡ codes "pull"
IsWord word (orders.Step steps.HandOver) = word ≡ codes "hand"
IsWord word (orders.Step steps.Subtract) = word ≡ codes "subtract"
IsWord word (orders.Step steps.Finish) = word ≡ codes "finish"
IsWord word (orders.Step steps.Close) = word ≡ codes "close"
IsWord word _ = ⊥

-- a word in front of a producer, and their order
abbrev pub IsOfProducer : List ℕ → ℕ → Order → Type 0
IsOfProducer word p (orders.Step (steps.Send q)) = (word ≡ codes "send") × (q ≡ p)
IsOfProducer word p (orders.Step (steps.Undo q)) = (word ≡ codes "undo") × (q ≡ p)
IsOfProducer word p (orders.Step (steps.Ask q)) = (word ≡ codes "ask") × (q ≡ p)
IsOfProducer word p (orders.Step (steps.Post q)) = (word ≡ codes "post") × (q ≡ p)
IsOfProducer word p (orders.Step (steps.Reset q)) = (word ≡ codes "reset") × (q ≡ p)
IsOfProducer word p (orders.Step (steps.RequestFlush q)) = (word ≡ codes "flush") × (q ≡ p)
IsOfProducer word p (orders.Step (steps.RequestShutdown q)) = (word ≡ codes "shutdown") × (q ≡ p)
IsOfProducer word p (orders.Step (steps.Collect q)) = (word ≡ codes "collect") × (q ≡ p)
IsOfProducer word p _ = ⊥

-- the word of an offer, and the flags of its span
abbrev pub OffersWith : List ℕ → ℕ → Type 0
OffersWith word flags =
    ((word ≡ codes "offer") × (flags ≡ 1)) ⊎ ((word ≡ codes "offer-unsampled") × (flags ≡ 0))

-- a word in front of a producer and a name, and their order
abbrev pub IsOffer : List ℕ → ℕ → List ℕ → Order → Type 0
IsOffer word p name (orders.Step (steps.Offer q span)) =
    (q ≡ p) × ((flags : ℕ) × OffersWith word flags × (span ≡ named_span name flags))
IsOffer word p name _ = ⊥

-- a word and a producer's number
abbrev pub TakesProducer : List ℕ → List ℕ → Order → Type 0
TakesProducer word digits order = (p : ℕ) × (decimal_in digits ≡ Some p) × IsOfProducer word p order

-- a word, a producer's number and a name
abbrev pub TakesName : List ℕ → List ℕ → List ℕ → Order → Type 0
TakesName word digits name order = (p : ℕ) × (decimal_in digits ≡ Some p) × IsField name × IsOffer word p name order

-- a word and what stands after its space
abbrev pub TakesFields : List ℕ → List ℕ → Order → Type 0
TakesFields word fields order = TakesProducer word fields order
    ⊎ ((digits name : List ℕ) × (fields ≡ digits ++ 32 ∷ name) × TakesName word digits name order)

-- a line reads as an order
abbrev pub ReadsOrder : List ℕ → Order → Type 0
ReadsOrder line order = IsUtf8 line × (IsWord line order
    ⊎ ((word fields : List ℕ) × IsField word × (line ≡ word ++ 32 ∷ fields) × TakesFields word fields order))

-- one of the orders of this kind offers a span
abbrev pub SomeOffer : (Order → Type 0) → Type 0
SomeOffer reads = (producer : ℕ) × ((span : PlainSpanData) × reads (orders.Step (steps.Offer producer span)))

-- a bad line: not empty, and it reads as no order
abbrev pub IsBadOrder : List ℕ → Type 0
IsBadOrder line = (line ≢ []) × ((order : Order) → ReadsOrder line order → ⊥)

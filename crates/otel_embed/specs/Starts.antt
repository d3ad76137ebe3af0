-- How a span of a host starts.
use Rattle.std.specs.Prelude.{◌≡◌, ◌==◌, ◌⊎◌, ℕ, List, [], Some, None, MatchBool, slice_get}
use Rattle.opentelemetry.specs.Plain.{PlainContext, PlainKeyValue, PlainScope}
use Rattle.opentelemetry.specs.PlainContexts.{root_cx}
use Rattle.opentelemetry.specs.PlainSpanBuilder.{PlainSpanBuilder}
use Rattle.opentelemetry.specs.declared.trace.span_kind.SpanKind.{SpanKind}
use Rattle.otel_pipeline.specs.Calls.{Calls}
use Rattle.otel_pipeline.specs.StartRequest.{StartRequest, start_request}
use Rattle.otel_embed.specs.Flows.{MayStart}
use Rattle.otel_embed.specs.Keys.{OpenedSpan, OpenedSpans, SameSpans, context_of, span_at}
use Rattle.otel_embed.specs.KeyedSpans.{StartsAt}
use Rattle.otel_embed.specs.Pipelines.{PipelineState, taken}

-- the context of a start under a parent: that in which the span of its key is active, and for 0 that of a root
abbrev pub IsContextUnder : OpenedSpans → ℕ → PlainContext → Type 0
IsContextUnder spans parent cx = MatchBool (parent == 0) (cx ≡ root_cx)
    ((found : OpenedSpan) × (span_at spans parent ≡ Some found) × (cx ≡ context_of found))

-- how a host asks for a span to start: its tracer by number, its kind, its moment and its name
pub record AskedStart : Type 0 where
  pub tracer : ℕ
  pub kind : SpanKind
  pub moment : ℕ
  pub name : List ℕ

abbrev pub asked_start : ℕ → SpanKind → ℕ → List ℕ → AskedStart
asked_start tracer kind moment name = record { tracer = tracer; kind = kind; moment = moment; name = name }

-- what a span of a host begins with
abbrev pub host_builder : List ℕ → SpanKind → List PlainKeyValue → PlainSpanBuilder
host_builder name kind attributes = record {
  name = name;
  span_kind = Some kind;
  start_time = None;
  attributes = Some attributes;
  events = None;
  links = None;
}

module _ {P S G : Type 0} (calls : Calls P S G) where
  -- a host's span was started in a context of which this is so, with the attributes that were gathered
  pub record StartsIn (InContext : PlainContext → Type 0) (old : PipelineState P S G) (asked : AskedStart) (key : ℕ)
      (new : PipelineState P S G) : Type 0 where
    pub cx : PlainContext
    pub scope : PlainScope
    pub in_context : InContext cx
    pub by_tracer : slice_get old.scopes asked.tracer ≡ Some scope
    pub starts : StartsAt calls.processor calls.sampler calls.ids old.flow.provider old.spans
        (start_request scope (host_builder asked.name asked.kind old.gathered) cx asked.moment) key
        new.flow.provider new.spans
    pub rest : new ≡ record old
        { flow = record old.flow { provider = new.flow.provider }; spans = new.spans; gathered = [] }

  -- a start that was refused: the open spans stay, and of the provider at most ids were drawn
  pub record RefusesIn (old new : PipelineState P S G) : Type 0 where
    pub spans : SameSpans old.spans new.spans
    pub provider : (new.flow.provider ≡ old.flow.provider)
        ⊎ ((request : StartRequest) × MayStart calls.sampler calls.ids old.flow.provider request new.flow.provider)
    pub rest : new ≡ record old
        { flow = record old.flow { provider = new.flow.provider }; spans = new.spans; gathered = [] }

  -- a start that was refused, and left what was gathered
  pub record RefusesBeside (old new : PipelineState P S G) : Type 0 where
    pub refuses : RefusesIn old (taken new)
    pub gathered : new.gathered ≡ old.gathered

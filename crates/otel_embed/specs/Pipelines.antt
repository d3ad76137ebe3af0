-- A pipeline, and what its calls do to it.
use Rattle.std.specs.Prelude.{◌≡◌, ◌++◌, ◌+◌, ◌-◌, ◌%◌, ◌^◌, ◌<◌, ℕ, length, min, is_some}
use Rattle.std.specs.Prelude.{List, [], ◌∷◌, Some, None}
use Rattle.opentelemetry.specs.Carrier.{Texts}
use Rattle.opentelemetry.specs.Plain.{PlainContext, PlainKeyValue, PlainScope}
use Rattle.opentelemetry.specs.PlainContexts.{current_span_context}
use Rattle.otel_resource.specs.Resource.{PlainResource}
use Rattle.otel_pipeline.specs.Ending.{EndIsInfallible, Ends}
use Rattle.otel_pipeline.specs.Provider.{ProviderState}
use Rattle.otel_pipeline.specs.SpanEdits.{new_link}
use Rattle.otel_pipeline.specs.SpanHistory.{Edit, add_link}
use Rattle.otel_pipeline.specs.declared.trace.span_processor.SpanProcessor.{Ghosts}
use Rattle.otel_embed.specs.Flows.{Flow}
use Rattle.otel_embed.specs.Headers.{IsContextOf, PlainHeaders, SetsContext, header_lines}
use Rattle.otel_embed.specs.HeldLines.{no_lines}
use Rattle.otel_embed.specs.Keys.{Closes, EditsAt, OpenedSpan, OpenedSpans, SameSpans, context_of, span_at}
use Rattle.otel_embed.specs.declared.span_calls.SpanIdentity.{SpanIdentity}

-- a pipeline: its flow, the scopes of its tracers, its open spans, the attributes that were gathered for what comes
-- next, and how many spans its processor refused when memory ran out
pub record PipelineState (P S G : Type 0) : Type 0 where
  pub flow : Flow P S G
  pub scopes : List PlainScope
  pub spans : OpenedSpans
  pub gathered : List PlainKeyValue
  pub refusals : ℕ

-- a pipeline over a provider, without spans and lines
abbrev pub new_pipeline : {P S G : Type 0} → ProviderState P S G → PlainResource → List PlainScope
    → PipelineState P S G
new_pipeline provider resource scopes = record {
  flow = record { provider = provider; resource = resource; lines = no_lines };
  scopes = scopes;
  spans = record { entries = []; next_key = 1 };
  gathered = [];
  refusals = 0;
}

-- a pipeline whose gathered attributes were taken for what comes next
abbrev pub taken : {P S G : Type 0} → PipelineState P S G → PipelineState P S G
taken pipeline = record pipeline { gathered = [] }

-- the pipeline that goes on in the child of a fork, in place of one: as another that was opened anew, with its tracers and
-- their numbers, and with keys that it did not use
abbrev pub gone_on : {P S G : Type 0} → PipelineState P S G → PipelineState P S G → PipelineState P S G
gone_on old fresh =
    record fresh { scopes = old.scopes; spans = record { entries = []; next_key = old.spans.next_key } }

-- a call did this with other attributes in place of those that were gathered, which stay
pub record InPlaceOfGathered {P S G : Type 0} (AreGiven : List PlainKeyValue → Type 0)
    (Does : PipelineState P S G → PipelineState P S G → Type 0) (old new : PipelineState P S G) : Type 0 where
  pub given : List PlainKeyValue
  pub are : AreGiven given
  pub between : PipelineState P S G
  pub does : Does (record old { gathered = given }) between
  pub rest : new ≡ record between { gathered = old.gathered }

-- a span was edited; nothing else changed
pub record EditsSpan {P S G : Type 0} (old : PipelineState P S G) (key : ℕ) (edits : List Edit)
    (new : PipelineState P S G) : Type 0 where
  pub edited : EditsAt old.spans key edits new.spans
  pub rest : new ≡ record old { spans = new.spans }

-- a call that was refused: the open spans stay, and all else
pub record Stays {P S G : Type 0} (old new : PipelineState P S G) : Type 0 where
  pub spans : SameSpans old.spans new.spans
  pub rest : new ≡ record old { spans = new.spans }

-- a span has ended, and what it recorded was delivered
pub record EndsSpan {P S G : Type 0} (calls : Ghosts P) (old : PipelineState P S G) (key moment : ℕ)
    (new : PipelineState P S G) : Type 0 where
  pub refused : ℕ
  pub found : OpenedSpan
  pub ends : Ends calls old.flow.provider found.span moment refused new.flow.provider
  pub closes : Closes old.spans key found new.spans
  pub counts : new.refusals ≡ min (old.refusals + refused) (2 ^ 64 - 1)
  pub rest : new ≡ record old {
    flow = record old.flow { provider = new.flow.provider };
    spans = new.spans;
    refusals = new.refusals;
  }

-- the end of the span that is open under this key needs no memory
abbrev pub EndNeedsNone : {P S G : Type 0} → PipelineState P S G → ℕ → Type 0
EndNeedsNone pipeline key = (found : OpenedSpan) × (span_at pipeline.spans key ≡ Some found)
    × EndIsInfallible found.span pipeline.flow.provider

-- a span is not open any more, and nothing was delivered
pub record Abandons {P S G : Type 0} (old : PipelineState P S G) (key : ℕ) (new : PipelineState P S G) : Type 0 where
  pub found : OpenedSpan
  pub closes : Closes old.spans key found new.spans
  pub rest : new ≡ record old { spans = new.spans }

-- a tracer for a library was added after those that were there
pub record AddsTracer {P S G : Type 0} (old : PipelineState P S G) (scope : PlainScope) (number : ℕ)
    (new : PipelineState P S G) : Type 0 where
  pub number_is : number ≡ length old.scopes
  pub rest : new ≡ record old { scopes = old.scopes ++ scope ∷ [] }

-- who the span of a key is, by ids of 128 bits and of 64, and whether it records what it is told
pub record Identifies {P S G : Type 0} (pipeline : PipelineState P S G) (key : ℕ) (who : SpanIdentity) : Type 0 where
  pub found : OpenedSpan
  pub is_open : span_at pipeline.spans key ≡ Some found
  pub trace_id : who.trace_id ≡ found.span.span_context.trace_id % 2 ^ 128
  pub span_id : who.span_id ≡ found.span.span_context.span_id % 2 ^ 64
  pub trace_flags : who.trace_flags ≡ found.span.span_context.trace_flags
  pub is_recording : who.is_recording ≡ is_some found.span.recorded

-- a span has one more link, to another open span, with the attributes that were gathered
pub record LinksTo {P S G : Type 0} (old : PipelineState P S G) (key linked : ℕ) (new : PipelineState P S G)
    : Type 0 where
  pub target : OpenedSpan
  pub is_open : span_at old.spans linked ≡ Some target
  pub links : EditsSpan (taken old) key (add_link (new_link target.span.span_context old.gathered) ∷ []) new

-- the headers that hand a span on are set
pub record SetsHeadersOf {P S G : Type 0} (pipeline : PipelineState P S G) (key : ℕ) (old new : Texts) : Type 0 where
  pub found : OpenedSpan
  pub is_open : span_at pipeline.spans key ≡ Some found
  pub sets : SetsContext (context_of found) old new

-- the lines of the headers that hand a span on
pub record SaysHeaders {P S G : Type 0} (pipeline : PipelineState P S G) (key : ℕ) (lines : List ℕ) : Type 0 where
  pub texts : Texts
  pub sets : SetsHeadersOf pipeline key (λ _. None) texts
  pub are_lines : lines ≡ header_lines texts

-- a span has one more link, to the span that the headers of a host name, with the attributes that were gathered
pub record LinksToRemote {P S G : Type 0} (old : PipelineState P S G) (key : ℕ) (headers : PlainHeaders)
    (new : PipelineState P S G) : Type 0 where
  pub cx : PlainContext
  pub says : IsContextOf headers cx
  pub is_valid : (0 < (current_span_context cx).trace_id) × (0 < (current_span_context cx).span_id)
  pub links : EditsSpan (taken old) key (add_link (new_link (current_span_context cx) old.gathered) ∷ []) new

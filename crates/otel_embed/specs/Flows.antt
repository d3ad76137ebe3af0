-- What spans flow through, and what a call does to that.
use Rattle.std.specs.Prelude.{◌≡◌, ◌⊎◌, ◌++◌, ℕ, Bool, List, [], Result, MatchBool}
use Rattle.otel_resource.specs.Resource.{PlainResource}
use Rattle.otel_export.specs.declared.error.OTelSdkError.{OTelSdkError}
use Rattle.otel_sampling.specs.declared.trace.sampler.ShouldSample as sampling
use Rattle.otel_sampling.specs.declared.trace.id_generator.GivesIds as drawing
use Rattle.otel_pipeline.specs.Calls.{Calls}
use Rattle.otel_pipeline.specs.Deliveries.{Delivery}
use Rattle.otel_pipeline.specs.Ending.{Ends, deliveries}
use Rattle.otel_pipeline.specs.FirstProcessor.{TakesShown, batches_of_first}
use Rattle.otel_pipeline.specs.Provider.{Flushes, ProviderState, RunsDue, ShutsDown, shut_answer}
use Rattle.otel_pipeline.specs.SpanHistory.{PlainSpan, SpanHistory}
use Rattle.otel_pipeline.specs.StartRequest.{StartRequest}
use Rattle.otel_pipeline.specs.Starting.{RefusesStart, Starts}
use Rattle.otel_otlp.specs.Otlp.{otlp_lines}
use Rattle.otel_embed.specs.HeldLines.{LinesHeld}

-- what spans flow through: the provider, whose first processor keeps what was exported; the resource under which that
-- becomes lines; and the lines that were not handed out yet
pub record Flow (P S G : Type 0) : Type 0 where
  pub provider : ProviderState P S G
  pub resource : PlainResource
  pub lines : LinesHeld

-- what a start that is refused may have done to a provider: nothing, or ids were drawn; no processor was asked
abbrev pub MayStart : {P S G : Type 0} → sampling.Ghosts S → drawing.Ghosts G → ProviderState P S G → StartRequest
    → ProviderState P S G → Type 0
MayStart sampler ids old request new = (new ≡ old) ⊎ RefusesStart sampler ids old request new

-- what a call did to the flow of a pipeline: nothing; a start was asked for; a span ended at a moment, at a provider that
-- was shut or open, and so many processors refused it; a flush; what is due at a moment; a shutdown; these bytes were
-- handed out
pub data Did : Type 0 where
  rested : Did
  started : StartRequest → Did
  ended : Bool → PlainSpan → ℕ → ℕ → Did
  flushed : Did
  ran : ℕ → Did
  shut : Did
  drained : List ℕ → Did

-- what was delivered to the processors, and what was handed out
abbrev pub delivered_by : Did → List Delivery
delivered_by (ended was_shut span moment refused) = deliveries was_shut moment span.recorded refused
delivered_by _ = []

abbrev pub handed_by : Did → List ℕ
handed_by (drained bytes) = bytes
handed_by _ = []

-- all lines that a flow holds: those that were not handed out, and those of the batches that are kept
abbrev pub lines_held : {P S G : Type 0} → Calls P S G → Flow P S G → List ℕ
lines_held calls flow =
    flow.lines.bytes ++ otlp_lines flow.resource (batches_of_first calls.keeps flow.provider.processors)

module _ {P S G : Type 0} (calls : Calls P S G) where
  -- what a flush, a run of what is due or a shutdown does to a provider, which answers this
  abbrev pub Answers : Did → Result (Unit {0}) OTelSdkError → ProviderState P S G → ProviderState P S G → Type 0
  Answers flushed answer old new = Flushes calls.processor old answer new
  Answers (ran moment) answer old new = RunsDue calls.processor calls.timer moment old answer new
  Answers shut answer old new = MatchBool old.is_shut
      ((answer ≡ shut_answer old.is_disabled old.processors) × (new ≡ old))
      (ShutsDown calls.processor old 5_000_000_000 answer new)
  Answers _ answer old new = ⊥

  -- what is done to a provider
  abbrev pub DoesToProvider : Did → ProviderState P S G → ProviderState P S G → Type 0
  DoesToProvider rested old new = new ≡ old
  DoesToProvider (started request) old new =
      ((history : SpanHistory) × Starts calls.processor calls.sampler calls.ids old request history new)
      ⊎ MayStart calls.sampler calls.ids old request new
  DoesToProvider (ended was_shut span moment refused) old new =
      (was_shut ≡ old.is_shut) × Ends calls.processor old span moment refused new
  DoesToProvider flushed old new = (answer : Result (Unit {0}) OTelSdkError) × Answers flushed answer old new
  DoesToProvider (ran moment) old new =
      (answer : Result (Unit {0}) OTelSdkError) × Answers (ran moment) answer old new
  DoesToProvider shut old new = (answer : Result (Unit {0}) OTelSdkError) × Answers shut answer old new
  DoesToProvider (drained bytes) old new =
      (new ≡ old) ⊎ TakesShown calls.processor calls.queues calls.keeps old new

  -- what is done to lines: they stay; but what is handed out and what is left are those that there were
  abbrev pub DoesToLines : Did → Flow P S G → Flow P S G → Type 0
  DoesToLines (drained bytes) old new = bytes ++ lines_held calls new ≡ lines_held calls old
  DoesToLines _ old new = new.lines ≡ old.lines

  -- what a call did to a flow
  pub record DoesTo (did : Did) (old new : Flow P S G) : Type 0 where
    pub provider : DoesToProvider did old.provider new.provider
    pub resource : new.resource ≡ old.resource
    pub lines : DoesToLines did old new

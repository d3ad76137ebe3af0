-- Where the spans of a pipeline are, over every list of calls.
use Rattle.std.specs.Prelude.{◌≡◌, ◌++◌, ℕ, List, [], ◌∷◌, Result, Some, drop, length}
use Rattle.std.specs.List.{flat_map}
use Rattle.otel_export.specs.PlainSpanData.{PlainSpanData, spans_in}
use Rattle.otel_export.specs.StoredBatches.{StoredBatches, all_stored}
use Rattle.otel_export.specs.declared.error.OTelSdkError.{OTelSdkError}
use Rattle.otel_export.specs.declared.trace.exporter_box.ExporterOf.{ExporterOf}
use Rattle.otel_export.specs.declared.trace.exporter_box.ExporterOf.TheVariants as exporters
use Rattle.otel_export.specs.declared.trace.no_exporter.NoExporter.{NoExporter}
use Rattle.otel_pipeline.specs.Calls.{Calls}
use Rattle.otel_pipeline.specs.Deliveries.{EachFollows}
use Rattle.otel_pipeline.specs.FirstProcessor.{stored_of_first}
use Rattle.otel_pipeline.specs.SpanHistory.{Edit}
use Rattle.otel_pipeline.specs.StartRequest.{StartRequest}
use Rattle.otel_processors.specs.declared.trace.no_processor.NoProcessor.{NoProcessor}
use Rattle.otel_processors.specs.declared.trace.processor.ProcessorOf.{ProcessorOf}
use Rattle.otel_processors.specs.declared.trace.processor.ProcessorOf.TheVariants as kinds
use Rattle.otel_otlp.specs.Otlp.{otlp_lines}
use Rattle.otel_embed.specs.Flows.{Answers, Did, DoesTo, Flow, delivered_by, drained, ended, handed_by, lines_held, rested, started}
use Rattle.otel_embed.specs.Drains.{Drains}
use Rattle.otel_embed.specs.Keys.{OpenedSpan, span_at}
use Rattle.otel_embed.specs.KeyedSpans.{StartsAt}
use Rattle.otel_embed.specs.Pipelines.{EditsSpan, EndsSpan, PipelineState}
use Rattle.otel_embed.specs.Starts.{RefusesIn}

module _ {P S G : Type 0} (calls : Calls P S G) where
  -- calls did this to a flow, one after another
  abbrev pub DoAll : List Did → Flow P S G → Flow P S G → Type 0
  DoAll [] old new = new ≡ old
  DoAll (did ∷ others) old new = (between : Flow P S G) × DoesTo calls did old between × DoAll others between new

  -- over calls: each processor follows what the ends delivered; the batches that the first one's exporter stored
  -- meanwhile come after those that it stored before; and what was handed out, followed by the lines that are still held,
  -- is the lines that were held and the lines of these batches, in order and each once
  pub record Conserves (dids : List Did) (old new : Flow P S G) : Type 0 where
    pub follows : EachFollows calls.processor (flat_map delivered_by dids) old.provider.processors
        new.provider.processors
    pub more : List (List PlainSpanData)
    pub stored : all_stored (stored_of_first calls.keeps new.provider.processors)
        ≡ all_stored (stored_of_first calls.keeps old.provider.processors) ++ more
    pub lines : flat_map handed_by dids ++ lines_held calls new ≡ lines_held calls old ++ otlp_lines old.resource more
    pub resource : new.resource ≡ old.resource

  -- the same for every list of calls
  abbrev pub CallsConserve : Type 0
  CallsConserve = (dids : List Did) (old new : Flow P S G) → DoAll dids old new → Conserves dids old new

  -- the flow of a pipeline has another provider, and is otherwise as it was
  abbrev pub FlowStays : PipelineState P S G → PipelineState P S G → Type 0
  FlowStays old new = new.flow ≡ record old.flow { provider = new.flow.provider }

  -- what each call of a pipeline does to its flow: a start, as it was asked for; a start that was refused, which delivers
  -- nothing; an edit; an end; a call of the provider that answers; and a drain, which hands out
  -- what it writes into the buffer
  pub record CallsDo : Type 0 where
    pub starts : (old new : PipelineState P S G) (request : StartRequest) (key : ℕ)
        → StartsAt calls.processor calls.sampler calls.ids old.flow.provider old.spans request key new.flow.provider
        new.spans → FlowStays old new → DoesTo calls (started request) old.flow new.flow
    pub refuses : (old new : PipelineState P S G) → RefusesIn calls old new
        → (did : Did) × (delivered_by did ≡ []) × (handed_by did ≡ []) × DoesTo calls did old.flow new.flow
    pub edits : (old new : PipelineState P S G) (key : ℕ) (edits : List Edit) → EditsSpan old key edits new
        → DoesTo calls rested old.flow new.flow
    pub ends : (old new : PipelineState P S G) (key moment : ℕ) → EndsSpan calls.processor old key moment new
        → (found : OpenedSpan) × (refused : ℕ) × (span_at old.spans key ≡ Some found)
        × DoesTo calls (ended old.flow.provider.is_shut found.span moment refused) old.flow new.flow
    pub answers : (old new : PipelineState P S G) (did : Did) (answer : Result (Unit {0}) OTelSdkError)
        → Answers calls did answer old.flow.provider new.flow.provider → FlowStays old new
        → DoesTo calls did old.flow new.flow
    pub drains : (old new : PipelineState P S G) (buffer filled : List ℕ) (count : ℕ)
        → Drains calls old buffer count filled new
        → (handed : List ℕ) × (filled ≡ handed ++ drop (length handed) buffer)
        × DoesTo calls (drained handed) old.flow new.flow

-- what a host's processor exports to, and such a processor
abbrev pub HostedExporter : Type 0
HostedExporter = ExporterOf StoredBatches NoExporter

abbrev pub Hosted : Type 0
Hosted = ProcessorOf HostedExporter NoProcessor

-- whether an exporter is the one in memory
abbrev pub KeepsInMemory : HostedExporter → Type 0
KeepsInMemory (exporters.Memory _) = Unit {0}
KeepsInMemory (exporters.Custom _) = ⊥

-- whether a processor is a simple one or one with a queue, over an exporter in memory
abbrev pub IsInMemory : Hosted → Type 0
IsInMemory (kinds.Simple simple) = KeepsInMemory simple.exporter
IsInMemory (kinds.Batch batch) = KeepsInMemory batch.machine.exporter
IsInMemory (kinds.Custom _) = ⊥

-- the spans that wait in the queue of a processor
abbrev pub queued : Hosted → List PlainSpanData
queued (kinds.Simple _) = []
queued (kinds.Batch batch) = batch.machine.waiting
queued (kinds.Custom _) = []

-- what a processor over an exporter in memory says that was heard is, until a batch is lost, the spans of the batches that
-- are stored, and then those that wait, in order and each once
abbrev pub HearsWhatItHolds : {S G : Type 0} → Calls Hosted S G → Hosted → Type 0
HearsWhatItHolds calls p = IsInMemory p → (calls.keeps.stored p).lost ≡ 0
    → (calls.processor.told p).heard ≡ Some (spans_in (all_stored (calls.keeps.stored p)) ++ queued p)

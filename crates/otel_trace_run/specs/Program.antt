-- The provider that the modes of traces are asked for, and what a session under it does with the streams. Of the bytes
-- of a stream it speaks where the stream tells them.
use Rattle.std.specs.Prelude.{◌≡◌, ◌⊎◌, ℕ, Bool, true, false, List, [], ◌∷◌, Option, None, slice_get}
use Rattle.std.specs.Io.KnownBytes.{Appends}
use Rattle.rand_xoshiro.specs.SplitMix64.{splitmix_seed}
use Rattle.rand_xoshiro.specs.Xoshiro256.{of_seed}
use Rattle.otel_resource.specs.DetectedResource.{IsDetected, PlainResourceStrings}
use Rattle.otel_sampling.specs.Limits.{default_limits}
use Rattle.otel_resource.specs.Resource.{PlainResource}
use Rattle.otel_sampling.specs.Sampler.{plan, always_on, parent_based}
use Rattle.otel_sampling.specs.declared.trace.sampler.SamplerOf.{SamplerOf}
use Rattle.otel_batch.specs.PlainBatchConfig.{PlainBatchConfig, cut_to_queue, default_batch_config}
use Rattle.otel_export.specs.PlainSpanData.{PlainSpanData}
use Rattle.otel_export.specs.StoredBatches.{StoredBatches, none_stored}
use Rattle.otel_export.specs.declared.trace.exporter_box.ExporterOf.{ExporterOf}
use Rattle.otel_export.specs.declared.trace.exporter_box.ExporterOf.TheVariants as exporters
use Rattle.otel_pipeline.specs.Provider.{ProviderState}
use Rattle.otel_pipeline.specs.SimpleProcessor.{first_simple}
use Rattle.otel_processors.specs.BatchProcessor.{first_processor}
use Rattle.otel_processors.specs.declared.trace.processor.ProcessorOf.{ProcessorOf}
use Rattle.otel_processors.specs.declared.trace.processor.ProcessorOf.TheVariants as kinds
use Rattle.otel_trace_lines.specs.ReplyForm.{reply_lines}
use Rattle.otel_trace_session.specs.Calls.{Calls}
use Rattle.otel_trace_run.specs.Arguments.{PlainMode, otlp, picture, steps, trace}
use Rattle.otel_trace_run.specs.OtlpRuns.{Encoded, ExportsAll, ExportsSome}
use Rattle.otel_trace_run.specs.PictureRuns.{DrawsAll, DrawsSome, HasNoSpan, HasSpan, Painting}
use Rattle.otel_trace_run.specs.StepRuns.{StepsBegun, StepsSized}
use Rattle.otel_trace_run.specs.Streams.{EndsAs, EndsWith, Streams}
use Rattle.otel_trace_run.specs.TraceRuns.{TracesBegun, TracesWhole}
use Rattle.otel_trace_run.specs.declared.mode.Asked.{Asked}
use Rattle.otel_trace_run.specs.declared.mode.AskedExport.{AskedExport}
use Rattle.otel_trace_run.specs.declared.mode.AskedProcessor.{AskedProcessor}
use Rattle.otel_trace_run.specs.declared.mode.AskedProcessor.TheVariants as asks
use Rattle.otel_trace_run.specs.declared.picture.PictureForm.{PictureForm}
use Rattle.otel_trace_run.specs.declared.run_end.RunEnd.{RunEnd}

-- what the program's processors are: one that exports into memory, each span as it ends or in batches, or one of any
-- other kind
abbrev pub MemoryProcessor : Type 0 → Type 0 → Type 0
MemoryProcessor C D = ProcessorOf (ExporterOf StoredBatches C) D

-- an exporter in memory that has no batch yet
abbrev pub new_memory : {C : Type 0} → ExporterOf StoredBatches C
new_memory = exporters.Memory none_stored

-- the processor that is asked for, over such an exporter: an open simple one, or a batch processor of these sizes in
-- whose queue nothing waits, eager or not. A batch has no more spans than may wait
abbrev pub processor_of : {C D : Type 0} → (is_eager : Bool) → AskedProcessor → MemoryProcessor C D
processor_of is_eager asks.Simple = kinds.Simple (first_simple new_memory)
processor_of is_eager (asks.Batch queue batch) =
    let config : PlainBatchConfig =
    record default_batch_config { max_queue_size = queue; max_export_batch_size = batch } in
    kinds.Batch (record (first_processor new_memory (cut_to_queue config)) { is_eager = is_eager })

-- a provider of one processor, whose ids come from a seed: a root is sampled, and a child as its parent is, and each
-- span is kept within the limits that nobody chose
pub record SamplesRoots {P E : Type 0} (seed : ℕ) (processor : P) (provider : ProviderState P (SamplerOf E) (List ℕ))
    : Type 0 where
  pub processors : provider.processors ≡ processor ∷ []
  pub sampler : plan provider.sampler ≡ parent_based always_on
  pub id_generator : provider.id_generator ≡ of_seed (splitmix_seed 32 seed)
  pub span_limits : provider.span_limits ≡ default_limits
  pub is_open : provider.is_shut ≡ false

-- the provider that is asked for, over an eager batch processor or another
abbrev pub IsProviderOf : {C D E : Type 0} → (is_eager : Bool) → Asked
    → ProviderState (MemoryProcessor C D) (SamplerOf E) (List ℕ) → Type 0
IsProviderOf is_eager asked provider = SamplesRoots asked.seed (processor_of is_eager asked.processor) provider

-- the strings that describe the resource: an attributes string, if one is given
abbrev pub strings_given : List (List ℕ) → PlainResourceStrings
strings_given given = record { attributes = slice_get given 0; service_name = None; program_name = None }

module _ {C D E : Type 0} (calls : Calls (MemoryProcessor C D) (SamplerOf E) (List ℕ)) (asked : Asked) where
  -- the output was given what a session writes for the whole input, under the provider that is asked for
  abbrev pub TracesAsked : Streams → Option ℕ → Type 0
  TracesAsked s bad_line = (provider : ProviderState (MemoryProcessor C D) (SamplerOf E) (List ℕ))
      × IsProviderOf false asked provider × TracesWhole calls reply_lines provider s bad_line

  -- the output was given a beginning of what such a session writes for a beginning of the input; or nothing, where
  -- there was no memory for the provider
  abbrev pub BeginsAsked : Streams → Type 0
  BeginsAsked s = Appends s.output s.output_after []
      ⊎ ((provider : ProviderState (MemoryProcessor C D) (SamplerOf E) (List ℕ))
      × IsProviderOf false asked provider × TracesBegun calls reply_lines provider s)

  -- the output was given the picture of the spans that a session exported over the whole input, under the provider that
  -- is asked for, and of these spans this holds
  abbrev pub DrawsAsked : Painting → (List PlainSpanData → Type 0) → Streams → Option ℕ → Type 0
  DrawsAsked Paints Holds s bad_line = (provider : ProviderState (MemoryProcessor C D) (SamplerOf E) (List ℕ))
      × IsProviderOf true asked provider × DrawsAll calls Paints provider Holds s bad_line

  -- the output was given a beginning of such a picture, or nothing
  abbrev pub BeginsDrawing : Painting → Streams → Type 0
  BeginsDrawing Paints s = Appends s.output s.output_after []
      ⊎ ((provider : ProviderState (MemoryProcessor C D) (SamplerOf E) (List ℕ))
      × IsProviderOf true asked provider × DrawsSome calls Paints provider s)

-- the requests of a resource, in the encoding that is asked for
abbrev pub requests_of : AskedExport → PlainResource → Encoded
requests_of export resource = record { encoding = export.encoding; resource = resource }

module _ {C D E : Type 0} (calls : Calls (MemoryProcessor C D) (SamplerOf E) (List ℕ)) (export : AskedExport) where
  -- the output was given the requests of the batches that a session exported over the whole input, under the provider
  -- that is asked for, of the resource that the strings describe
  abbrev pub ExportsAsked : List (List ℕ) → Streams → Option ℕ → Type 0
  ExportsAsked given s bad_line = (resource : PlainResource) × IsDetected (strings_given given) resource
      × (provider : ProviderState (MemoryProcessor C D) (SamplerOf E) (List ℕ))
      × IsProviderOf true export.asked provider × ExportsAll calls (requests_of export resource) provider s bad_line

  -- the output was given a beginning of the requests of the batches that such a session exported so far; or nothing,
  -- where there was no memory for the resource or the provider
  abbrev pub BeginsExporting : List (List ℕ) → Streams → Type 0
  BeginsExporting given s = Appends s.output s.output_after []
      ⊎ ((resource : PlainResource) × IsDetected (strings_given given) resource
      × (provider : ProviderState (MemoryProcessor C D) (SamplerOf E) (List ℕ))
      × IsProviderOf true export.asked provider × ExportsSome calls (requests_of export resource) provider s)

-- whether the lines of a mode are commands: in `steps` they are none
abbrev pub reads_commands : PlainMode → Bool
reads_commands (trace asked) = true
reads_commands (steps sizes) = false
reads_commands (otlp export given) = true
reads_commands (picture asked form) = true

-- whether a mode says why a line is bad: in those whose texts are fixed it does not
abbrev pub says_reasons : PlainMode → Bool
says_reasons (trace asked) = false
says_reasons (steps sizes) = false
says_reasons (otlp export given) = true
says_reasons (picture asked form) = true

module _ {C D E : Type 0} (calls : Calls (MemoryProcessor C D) (SamplerOf E) (List ℕ))
    (paints : PictureForm → Painting) where
  -- the output was given all that a mode has for the whole input
  abbrev pub GivesWhole : PlainMode → Streams → Option ℕ → Type 0
  GivesWhole (trace asked) s bad_line = TracesAsked calls asked s bad_line
  GivesWhole (steps sizes) s bad_line = StepsSized sizes s bad_line
  GivesWhole (otlp export given) s bad_line = ExportsAsked calls export given s bad_line
  GivesWhole (picture asked form) s bad_line = DrawsAsked calls asked (paints form) (HasSpan bad_line) s bad_line

  -- the same of a mode that draws, where there is no span to draw
  abbrev pub GivesEmpty : PlainMode → Streams → Type 0
  GivesEmpty (trace asked) s = ⊥
  GivesEmpty (steps sizes) s = ⊥
  GivesEmpty (otlp export given) s = ⊥
  GivesEmpty (picture asked form) s = DrawsAsked calls asked (paints form) HasNoSpan s None

  -- the output was given a beginning of that
  abbrev pub GivesBeginning : PlainMode → Streams → Type 0
  GivesBeginning (trace asked) s = BeginsAsked calls asked s
  GivesBeginning (steps sizes) s = StepsBegun sizes s
  GivesBeginning (otlp export given) s = BeginsExporting calls export given s
  GivesBeginning (picture asked form) s = BeginsDrawing calls asked (paints form) s

  -- what a run of a mode did, by how it ended
  abbrev pub RunsTo : PlainMode → Streams → RunEnd → Type 0
  RunsTo mode s end =
      EndsAs (reads_commands mode) (GivesWhole mode s) (GivesEmpty mode s) (GivesBeginning mode s) s end

  -- a run of a mode, by its status, and by what is said on the stream of faults: nothing, or a text
  abbrev pub Runs : PlainMode → Streams → Type 0 → (List ℕ → Type 0) → ℕ → Type 0
  Runs mode s Silent Says status = EndsWith (reads_commands mode) (GivesWhole mode s) (GivesEmpty mode s)
      (GivesBeginning mode s) Silent (says_reasons mode) Says s status

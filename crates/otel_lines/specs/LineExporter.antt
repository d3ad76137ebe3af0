-- An exporter that writes each batch to a stream, in a form.
use Rattle.std.specs.Prelude.{◌≡◌, ℕ, Bool, true, false, List, [], ◌∷◌, Option, Some, None, Result, Ok, Err, map}
use Rattle.std.specs.List.{flat_map}
use Rattle.std.specs.Option.{option_map}
use Rattle.std.specs.Bool.{MatchBool}
use Rattle.std.specs.Io.KnownBytes.{Appends}
use Rattle.otel_resource.specs.Resource.{PlainResource}
use Rattle.otel_export.specs.ExporterCalls.{TakesResource, shutdown_answer}
use Rattle.otel_export.specs.PlainSpanData.{PlainSpanData}
use Rattle.otel_export.specs.Telling.{and_then_told}
use Rattle.otel_export.specs.declared.error.OTelSdkError.{OTelSdkError}
use Rattle.otel_export.specs.declared.error.OTelSdkError.TheVariants as errors
use Rattle.otel_lines.specs.Form.{Form}
use Rattle.otel_lines.specs.LineStream.{LineStream, WritesBatch}

-- a batch that was written, and the resource of its spans
pub record LinedBatch : Type 0 where
  pub resource : PlainResource
  pub batch : List PlainSpanData

-- the writer as it was at first (a list of one), the stream, the batches that were written until one was not, the
-- resource of the spans to come (none where there was no memory for the last one), and whether it is shut
pub record StreamExporter (W : Type 0) : Type 0 where
  pub begun : List W
  pub stream : LineStream W
  pub written : Option (List LinedBatch)
  pub resource : Option PlainResource
  pub is_shut : Bool

-- an exporter that is new: its spans are of the resource that says nothing
abbrev pub new_exporter : {W : Type 0} → W → PlainResource → StreamExporter W
new_exporter writer resource = record {
  begun = writer ∷ [];
  stream = record { writer = writer; is_cut = false };
  written = Some [];
  resource = Some resource;
  is_shut = false;
}

-- the batches that were written, and their bytes, each under its resource
abbrev pub batches_in : List LinedBatch → List (List PlainSpanData)
batches_in lined = map (λ line. line.batch) lined

abbrev pub lines_in : Form → List LinedBatch → List ℕ
lines_in form lined = flat_map (λ line. form.bytes line.resource line.batch) lined

-- it tells the batches that it has written, until one was not
abbrev pub told_by : {W : Type 0} → StreamExporter W → Option (List (List PlainSpanData))
told_by exporter = option_map batches_in exporter.written

-- the batches that were written after an export, by its answer
abbrev pub written_after : Option PlainResource → List PlainSpanData → Result (Unit {0}) OTelSdkError
    → Option (List LinedBatch) → Option (List LinedBatch)
written_after (Some resource) batch (Ok _) written =
    and_then_told written ((record { resource = resource; batch = batch }) ∷ [])
written_after None batch answer written = None
written_after resource batch (Err _) written = None

module _ {W : Type 0} (form : Form) (contents : W → Option (List ℕ)) where
  -- nothing is written where the resource found no memory
  abbrev pub WritesOf : Option PlainResource → LineStream W → List PlainSpanData → Result (Unit {0}) OTelSdkError
      → LineStream W → Type 0
  WritesOf (Some resource) old batch answer new = WritesBatch contents form resource old batch answer new
  WritesOf None old batch answer new = (answer ≡ Err errors.OutOfMemory) × (new ≡ old)

  -- what an export does to the stream: an exporter that is shut writes nothing
  abbrev pub ExportsTo : StreamExporter W → List PlainSpanData → Result (Unit {0}) OTelSdkError → LineStream W
      → Type 0
  ExportsTo old batch answer new =
      MatchBool old.is_shut ((answer ≡ Err errors.AlreadyShutdown) × (new ≡ old.stream))
      (WritesOf old.resource old.stream batch answer new)

  -- what an export does
  pub record Exports (old : StreamExporter W) (batch : List PlainSpanData) (answer : Result (Unit {0}) OTelSdkError)
      (new : StreamExporter W) : Type 0 where
    pub stream : ExportsTo old batch answer new.stream
    pub written : new.written ≡ written_after old.resource batch answer old.written
    pub rest : new ≡ record old { stream = new.stream; written = new.written }

  -- while it tells, the stream holds what it held at first and then the bytes of the batches that were written, the
  -- last of them whole
  abbrev pub HoldsBatches : List W → LineStream W → Option (List LinedBatch) → Type 0
  HoldsBatches begun stream None = Unit {0}
  HoldsBatches begun stream (Some lined) = (first : W) × (begun ≡ first ∷ []) × (stream.is_cut ≡ false)
      × Appends (contents first) (contents stream.writer) (lines_in form lined)

-- what a shutdown does: nothing is written after it, and a second one says so
abbrev pub Shuts : {W : Type 0} → StreamExporter W → Result (Unit {0}) OTelSdkError → StreamExporter W → Type 0
Shuts old answer new = (answer ≡ shutdown_answer old.is_shut) × (new ≡ record old { is_shut = true })

-- what it does with a resource
abbrev pub GoesUnder : {W : Type 0} → StreamExporter W → PlainResource → StreamExporter W → Type 0
GoesUnder old resource new = TakesResource (λ given. record old { resource = given }) resource new

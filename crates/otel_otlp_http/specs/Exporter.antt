-- The exporter that posts each batch.
use Rattle.std.specs.Prelude.{◌≡◌, ◌⊎◌, ℕ, Bool, true, false, List, [], ◌∷◌, ◌++◌, Option, Some, None, Result, Err}
use Rattle.std.specs.Prelude.{if◌then◌else◌}
use Rattle.std.specs.Bool.{MatchBool}
use Rattle.otel_resource.specs.Resource.{PlainResource}
use Rattle.otel_export.specs.ExporterCalls.{TakesResource, shutdown_answer}
use Rattle.otel_export.specs.declared.error.OTelSdkError.{OTelSdkError}
use Rattle.otel_export.specs.declared.error.OTelSdkError.TheVariants as errors
use Rattle.otel_export.specs.PlainSpanData.{PlainSpanData}
use Rattle.otel_export.specs.Telling.{and_then_told}
use Rattle.otel_http_post.specs.Endpoint.{PlainEndpoint}
use Rattle.otel_otlp_protobuf.specs.declared.encoding.Encoding.{Encoding}
use Rattle.otel_otlp_http.specs.declared.failure.ExportFailure.{ExportFailure}
use Rattle.otel_otlp_http.specs.declared.failure.ExportFailure.TheVariants as failures
use Rattle.otel_otlp_http.specs.Attempts.{Asked, Attempts, Connection, asking, over}
use Rattle.otel_otlp_http.specs.Failures.{AnswersFor, is_kept}

-- where it sends and how, over which stream and whether over it; the batches that were taken until one was not, those
-- that it keeps and for how many more it has room, why the last export failed and what the other side said of that, the
-- resource of the spans to come (none where there was no memory for the last one), and whether it is shut
pub record HttpExporter (S : Type 0) : Type 0 where
  pub endpoint : PlainEndpoint
  pub encoding : Encoding
  pub stream : S
  pub is_open : Bool
  pub taken : Option (List (List PlainSpanData))
  pub unsent : List (List PlainSpanData)
  pub room : ℕ
  pub failure : Option ExportFailure
  pub reason : List ℕ
  pub resource : Option PlainResource
  pub is_shut : Bool

-- an exporter that is new: its spans are of the resource that says nothing
abbrev pub new_exporter : {S : Type 0} → PlainEndpoint → Encoding → S → PlainResource → HttpExporter S
new_exporter endpoint encoding stream resource = record {
  endpoint = endpoint;
  encoding = encoding;
  stream = stream;
  is_open = true;
  taken = Some [];
  unsent = [];
  room = 0;
  failure = None;
  reason = [];
  resource = Some resource;
  is_shut = false;
}

-- it tells the batches that were taken, until one was not
abbrev pub told_by : {S : Type 0} → HttpExporter S → Option (List (List PlainSpanData))
told_by exporter = exporter.taken

-- the batches that were taken after an export, by why it failed
abbrev pub taken_after : Option ExportFailure → List PlainSpanData → Option (List (List PlainSpanData))
    → Option (List (List PlainSpanData))
taken_after None batch taken = and_then_told taken (batch ∷ [])
taken_after (Some failure) batch taken = None

-- the batches that are kept after an export: this one after the others, where it is asked for later, or was never
-- answered or sent whole
abbrev pub unsent_after : Option ExportFailure → List PlainSpanData → List (List PlainSpanData)
    → List (List PlainSpanData)
unsent_after failure batch unsent = if is_kept failure then unsent ++ batch ∷ [] else unsent

-- what an exporter sends of a batch, and over what
abbrev pub asked_of : {S : Type 0} → HttpExporter S → List PlainSpanData → Asked (Option PlainResource)
asked_of exporter batch = asking exporter.endpoint exporter.encoding exporter.resource batch

abbrev pub connection_of : {S : Type 0} → HttpExporter S → Connection S
connection_of exporter = over exporter.stream exporter.is_open

module _ {S : Type 0} (contents remaining : S → Option (List ℕ)) where
  -- a batch was tried
  pub record Tries (old : HttpExporter S) (batch : List PlainSpanData) (answer : Result (Unit {0}) OTelSdkError)
      (new : HttpExporter S) : Type 0 where
    pub stream :
        Attempts contents remaining (asked_of old batch) (connection_of old) new.failure new.reason (connection_of new)
    pub answer_is : AnswersFor new.failure new.reason answer
    pub taken : new.taken ≡ taken_after new.failure batch old.taken
    pub unsent : new.unsent ≡ unsent_after new.failure batch old.unsent
    pub rest : new ≡ record old {
      stream = new.stream;
      is_open = new.is_open;
      taken = new.taken;
      unsent = new.unsent;
      room = new.room;
      failure = new.failure;
      reason = new.reason;
    }

  -- a batch for which there was neither room nor memory is lost, and nothing is sent
  pub record Loses (old : HttpExporter S) (answer : Result (Unit {0}) OTelSdkError) (new : HttpExporter S) : Type 0
    where
      pub full : old.room ≡ 0
      pub answer_is : answer ≡ Err errors.OutOfMemory
      pub rest : new ≡ record old { taken = None; failure = Some failures.Lost; reason = [] }

  -- after a shutdown nothing is sent
  pub record Declines (old : HttpExporter S) (answer : Result (Unit {0}) OTelSdkError) (new : HttpExporter S) : Type 0
    where
      pub answer_is : answer ≡ Err errors.AlreadyShutdown
      pub rest : new ≡ record old { taken = None }

  -- what an export does
  abbrev pub Exports : HttpExporter S → List PlainSpanData → Result (Unit {0}) OTelSdkError → HttpExporter S → Type 0
  Exports old batch answer new =
      MatchBool old.is_shut (Declines old answer new) (Loses old answer new ⊎ Tries old batch answer new)

-- what a shutdown does: nothing is sent after it, and a second one says so
abbrev pub Shuts : {S : Type 0} → HttpExporter S → Result (Unit {0}) OTelSdkError → HttpExporter S → Type 0
Shuts old answer new = (answer ≡ shutdown_answer old.is_shut) × (new ≡ record old { is_shut = true })

-- what it does with a resource
abbrev pub GoesUnder : {S : Type 0} → HttpExporter S → PlainResource → HttpExporter S → Type 0
GoesUnder old resource new = TakesResource (λ given. record old { resource = given }) resource new

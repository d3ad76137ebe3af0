-- What the mode `otlp` does with its streams: each batch that a session exports is a request.
use Rattle.std.specs.Prelude.{◌≡◌, ℕ, List, Option, drop, length, sum_by, true}
use Rattle.std.proofs.Common.{inl, inr}
use Rattle.std.specs.Io.KnownBytes.{Appends}
use Rattle.otel_resource.specs.Resource.{PlainResource}
use Rattle.otel_export.specs.PlainSpanData.{PlainSpanData}
use Rattle.otel_export.specs.Streams.{AppendsBeginning}
use Rattle.otel_trace_lines.specs.ReplyForm.{Form}
use Rattle.otel_trace_lines.specs.declared.dialect.Dialect.TheVariants as dialects
use Rattle.otel_otlp.specs.Otlp.{otlp_lines}
use Rattle.otel_otlp_protobuf.specs.NamedRequest.{delimited_requests}
use Rattle.otel_pipeline.specs.Provider.{ProviderState}
use Rattle.otel_trace_run.specs.Streams.{EndsAs, Streams}
use Rattle.otel_trace_run.specs.TraceRuns.{TracesBegun, TracesSome, TracesWhole}
use Rattle.otel_otlp_protobuf.specs.declared.encoding.Encoding.{Encoding}
use Rattle.otel_otlp_protobuf.specs.declared.encoding.Encoding.TheVariants as encodings
use Rattle.otel_trace_run.specs.declared.run_end.RunEnd.{RunEnd}
use Rattle.otel_trace_session.specs.Calls.{Calls, stored_of_first}
use Rattle.otel_trace_session.specs.Shown.{all_stored}
use Rattle.otel_trace_session.specs.Turns.{SessionState}

-- how requests are written, and the resource that they are of
pub record Encoded : Type 0 where
  pub encoding : Encoding
  pub resource : PlainResource

-- the requests of batches of a resource, in an encoding
abbrev pub in_encoding : Encoding → PlainResource → List (List PlainSpanData) → List ℕ
in_encoding encodings.Json resource batches = otlp_lines resource batches
in_encoding encodings.Protobuf resource batches = delimited_requests resource batches

abbrev pub encoded : Encoded → List (List PlainSpanData) → List ℕ
encoded requests batches = in_encoding requests.encoding requests.resource batches

-- lines by the extended grammar, and replies as the requests of their batches; an answer is not written, and a dropped
-- span is a failure, since nothing else would tell it
abbrev pub otlp_form : Encoded → Form
otlp_form requests = record {
  dialect = dialects.Extended;
  reply = λ reply. encoded requests reply.exported;
  rest = λ batches. encoded requests batches;
  minds_drops = true;
}

-- the batches that the first processor's exporter stored since
abbrev pub exported_since : {P S G : Type 0} → Calls P S G → ProviderState P S G → ProviderState P S G
    → List (List PlainSpanData)
exported_since calls begun closed = drop (length (all_stored (stored_of_first calls.keeps begun.processors)))
    (all_stored (stored_of_first calls.keeps closed.processors))

module _ {P S G : Type 0} (calls : Calls P S G) (form : Form) where
  -- where the provider stands after a session of which a beginning was written: after the commands whose replies those
  -- are, or after its close
  abbrev pub session_reaches : (begun : SessionState P S G) (s : Streams) → TracesSome calls form begun s
      → ProviderState P S G
  session_reaches begun s (inl carried) = carried.after.provider
  session_reaches begun s (inr closed) = closed.1.closes.provider

  -- the same of a run under a provider: as it was, where there was no session
  abbrev pub run_reaches : (provider : ProviderState P S G) (s : Streams) → TracesBegun calls form provider s
      → ProviderState P S G
  run_reaches provider s (inl nothing) = provider
  run_reaches provider s (inr traced) = session_reaches traced.0 s traced.2

module _ {P S G : Type 0} (calls : Calls P S G) (requests : Encoded) where
  -- one session carried out the whole input, up to its first bad line, and closed; the output was given the requests of
  -- all batches that it exported, in order. No span was dropped at a full queue
  pub record ExportsAll (provider : ProviderState P S G) (s : Streams) (bad_line : Option ℕ) : Type 0 where
    pub traces : TracesWhole calls (otlp_form requests) provider s bad_line
    pub written : Appends s.output s.output_after
        (encoded requests (exported_since calls provider traces.2.finishes.closes.provider))
    pub drops_none : sum_by calls.queues.dropped_over traces.2.finishes.closes.provider.processors ≡ 0

  -- the same of a run that failed: the output was given a beginning of the requests of all batches that its session
  -- exported so far, in order
  pub record ExportsSome (provider : ProviderState P S G) (s : Streams) : Type 0 where
    pub traces : TracesBegun calls (otlp_form requests) provider s
    pub written : AppendsBeginning s.output s.output_after (encoded requests
        (exported_since calls provider (run_reaches calls (otlp_form requests) provider s traces)))

  -- what a session did whose batches are written, by how it ended
  abbrev pub ExportsUnder : ProviderState P S G → Streams → RunEnd → Type 0
  ExportsUnder provider s end = EndsAs true (ExportsAll provider s) ⊥ (ExportsSome provider s) s end

-- The requests of replies, and of what is left at a close, are those of all batches that a session exported.
use Rattle.std.proofs.Common.{◌≡◌, ◌++◌, ◌∙◌, ℕ, List, [], ◌∷◌, Option, Some, None, Result, Ok, Err, inl, inr, ap, arith, drop, length, true}
use Rattle.std.proofs.Common.{append_assoc, length-append, map, refl, subst, sym}
use Rattle.std.proofs.Math.Seq.{drop-append_seam}
use Rattle.std.specs.Io.KnownBytes.{Appends}
use Rattle.std.specs.List.{flat_map}
use Rattle.otel_export.proofs.StreamLemmas.{appends_all, appends_longer}
use Rattle.otel_export.specs.Streams.{AppendsBeginning}
use Rattle.otel_resource.specs.DetectedResource.{IsDetected}
use Rattle.otel_resource.specs.Resource.{PlainResource}
use Rattle.otel_sampling.specs.declared.trace.sampler.SamplerOf.{SamplerOf}
use Rattle.otel_export.specs.declared.error.OTelSdkError.{OTelSdkError}
use Rattle.otel_export.specs.PlainSpanData.{PlainSpanData}
use Rattle.otel_pipeline.specs.ProcessorKeeps.{OnlyAppends}
use Rattle.otel_export.specs.StoredBatches.{StoredBatches}
use Rattle.otel_trace_lines.specs.Commands.{PlainCommand, plain_commands}
use Rattle.otel_trace_lines.specs.PlainReply.{PlainReply}
use Rattle.otel_trace_lines.specs.ReplyForm.{texts}
use Rattle.otel_otlp.specs.Otlp.{otlp_line, otlp_lines, otlp_text}
use Rattle.otel_otlp_protobuf.specs.NamedRequest.{delimited_bytes, delimited_requests, request_bytes}
use Rattle.otel_protobuf.proofs.Varints.{varint_some}
use Rattle.otel_protobuf.specs.Wire.{after_length, varint_bytes}
use Rattle.otel_pipeline.specs.Provider.{ProviderState}
use Rattle.otel_trace_run.specs.OtlpRuns.{Encoded, ExportsAll, ExportsSome, encoded, exported_since, in_encoding, otlp_form}
use Rattle.otel_trace_run.specs.OtlpRuns.{session_reaches}
use Rattle.otel_trace_run.specs.Program.{BeginsExporting, ExportsAsked, IsProviderOf, MemoryProcessor, requests_of, strings_given}
use Rattle.otel_trace_run.specs.Streams.{EndsAs, Streams}
use Rattle.otel_trace_run.specs.TraceRuns.{CarriesOutSome, ClosesSome, TracesBegun, TracesSome, TracesWhole}
use Rattle.otel_trace_run.specs.declared.mode.AskedExport.{AskedExport}
use Rattle.otel_otlp_protobuf.specs.declared.encoding.Encoding.{Encoding}
use Rattle.otel_otlp_protobuf.specs.declared.encoding.Encoding.TheVariants as encodings
use Rattle.otel_trace_run.specs.declared.run_end.RunEnd.{RunEnd}
use Rattle.otel_trace_run.specs.declared.run_end.RunEnd.TheVariants as ends
use Rattle.otel_trace_run.proofs.TraceEnds.{all_begun, whole_begun}
use Rattle.otel_trace_session.specs.Calls.{Calls, batches_of_first, stored_of_first}
use Rattle.otel_trace_session.specs.Closing.{Closes, or_no_memory}
use Rattle.otel_trace_session.specs.Shown.{all_stored, exported_in, session_stored}
use Rattle.otel_trace_session.specs.Turns.{BeginsUnder, SessionState, TookTurns}
use Rattle.otel_trace_session.specs.OpenSpans.{Describe, NamedSpans}
use Rattle.otel_trace_session.specs.ProviderTurns.{ShutsIfOpen}
use Rattle.otel_trace_session.proofs.ShownLemmas.{all_shown, closes_rest}
use Rattle.otel_pipeline.proofs.FirstKeeps.{taken_all}

-- the bytes of some items, and of others after them
each_joined : {X : Type 0} (bytes : X → List ℕ) (first second : List X)
    → flat_map bytes (first ++ second) ≡ flat_map bytes first ++ flat_map bytes second
each_joined bytes [] second = refl
each_joined bytes (x ∷ first) second =
    ap (λ bs. bytes x ++ bs) (each_joined bytes first second)
    ∙ sym (append_assoc (bytes x) (flat_map bytes first) (flat_map bytes second))

-- the requests of batches, and of others after them
joined_in : (encoding : Encoding) (resource : PlainResource) (first second : List (List PlainSpanData))
    → in_encoding encoding resource (first ++ second)
    ≡ in_encoding encoding resource first ++ in_encoding encoding resource second
joined_in encodings.Json resource first second = each_joined (otlp_line resource) first second
joined_in encodings.Protobuf resource first second = each_joined (delimited_bytes resource) first second

requests_joined : (requests : Encoded) (first second : List (List PlainSpanData))
    → encoded requests (first ++ second) ≡ encoded requests first ++ encoded requests second
requests_joined requests first second = joined_in requests.encoding requests.resource first second

-- no batch has no request
none_in : (encoding : Encoding) (resource : PlainResource) → in_encoding encoding resource [] ≡ []
none_in encodings.Json resource = refl
none_in encodings.Protobuf resource = refl

-- replies in that form are the requests of their batches
texts_are_requests : (requests : Encoded) (replies : List PlainReply)
    → texts (otlp_form requests) replies ≡ encoded requests (exported_in replies)
texts_are_requests requests [] = sym (none_in requests.encoding requests.resource)
texts_are_requests requests (reply ∷ replies) =
    ap (λ bs. encoded requests reply.exported ++ bs) (texts_are_requests requests replies)
    ∙ sym (requests_joined requests reply.exported (exported_in replies))

-- out of memory is not Ok
never_well : (said : Result (Unit {0}) OTelSdkError) → Ok tt ≡ or_no_memory said → ⊥
never_well (Ok done) e = cc
never_well (Err error) e = cc

-- no history describes no spans
pub nothing_described : (spans : NamedSpans) → spans ≡ [] → Describe (λ _. None) spans
nothing_described spans none = subst (λ (s : NamedSpans). Describe (λ _. None) s) (sym none) (λ q. refl)

module _ {P S G : Type 0} (calls : Calls P S G) (law : OnlyAppends calls.processor calls.timer calls.keeps.stored) where
  -- what the replies of a new session showed, and what is left once its provider is shut down, is all that was stored
  -- since
  pub since_begun : (provider : ProviderState P S G) (begun after : SessionState P S G) (closed : ProviderState P S G)
      (commands : List PlainCommand) (replies : List PlainReply) (said : Result (Unit {0}) OTelSdkError)
      → BeginsUnder calls provider begun → TookTurns calls begun (λ _. None) commands replies after
      → ShutsIfOpen calls.processor after.provider said closed
      → exported_in replies ++ batches_of_first calls.keeps closed.processors ≡ exported_since calls provider closed
  since_begun provider begun after closed commands replies said begins took shuts =
      let before = all_stored (stored_of_first calls.keeps provider.processors) in
      let rest = exported_in replies ++ batches_of_first calls.keeps closed.processors in
      let taken : (session_stored calls.keeps begun).taken ≡ before =
      ap (λ (s : StoredBatches). s.taken) (taken_all calls provider.processors begun.provider.processors begins.takes.first) in
      let all : all_stored (stored_of_first calls.keeps closed.processors) ≡ before ++ rest =
      closes_rest calls law begun after closed (λ _. None) commands replies said took shuts
      ∙ ap (λ (l : List (List PlainSpanData)). l ++ rest) taken in
      sym (ap (λ (l : List (List PlainSpanData)). drop (length before) l) all ∙ drop-append_seam before rest)

module _ {P S G : Type 0} (calls : Calls P S G)
    (law : OnlyAppends calls.processor calls.timer calls.keeps.stored) (requests : Encoded) where
  -- what a close that went well appended
  closing_requests : (session : SessionState P S G) (before now : List ℕ)
      → (closed : Closes calls (otlp_form requests) session before (Ok tt) now)
      → now ≡ before ++ encoded requests (batches_of_first calls.keeps closed.provider.processors)
  closing_requests session before now closed = elim closed.writes [
    | inl h ↦ h.written
    | inr h ↦ absurd (never_well closed.shutdown h.answers)
  ]

  exports_all : (provider : ProviderState P S G) (s : Streams) (bad_line : Option ℕ)
      → TracesWhole calls (otlp_form requests) provider s bad_line → ExportsAll calls requests provider s bad_line
  exports_all provider s bad_line h =
      let f = h.2.finishes in
      let took = f.feeds.these.ran.took (λ _. None) (nothing_described h.0.spans h.1.spans) in
      let left = batches_of_first calls.keeps f.closes.provider.processors in
      let all = since_begun calls law provider h.0 f.after f.closes.provider (plain_commands f.feeds.these.commands)
      f.feeds.replies f.closes.shutdown h.1 took f.closes.shuts in
      let text : h.2.text ≡ encoded requests (exported_since calls provider f.closes.provider) =
      closing_requests f.after f.written h.2.text f.closes
      ∙ ap (λ bs. bs ++ encoded requests left) (f.feeds.written ∙ texts_are_requests requests f.feeds.replies)
      ∙ sym (requests_joined requests (exported_in f.feeds.replies) left) ∙ ap (encoded requests) all in
      record { traces = h; written = subst (Appends s.output s.output_after) text h.2.written; drops_none = f.drops_none refl }

  -- replies to commands own the batches that were exported so far, but for those that are kept
  since_taken : (provider : ProviderState P S G) (begun after : SessionState P S G) (commands : List PlainCommand)
      (replies : List PlainReply) → BeginsUnder calls provider begun
      → TookTurns calls begun (λ _. None) commands replies after
      → exported_in replies ++ batches_of_first calls.keeps after.provider.processors
      ≡ exported_since calls provider after.provider
  since_taken provider begun after commands replies begins took =
      let before = all_stored (stored_of_first calls.keeps provider.processors) in
      let kept = batches_of_first calls.keeps after.provider.processors in
      let rest = exported_in replies ++ kept in
      let shows = all_shown calls begun after (λ _. None) took.after commands took.turns replies took.replied_to took.are_turns in
      let taken : (session_stored calls.keeps begun).taken ≡ before =
      ap (λ (s : StoredBatches). s.taken) (taken_all calls provider.processors begun.provider.processors begins.takes.first) in
      let all : all_stored (stored_of_first calls.keeps after.provider.processors) ≡ before ++ rest =
      ap (λ (l : List (List PlainSpanData)). l ++ kept) (shows.shown ∙ ap (λ (l : List (List PlainSpanData)). l ++ exported_in replies) taken)
      ∙ append_assoc before (exported_in replies) kept in
      sym (ap (λ (l : List (List PlainSpanData)). drop (length before) l) all ∙ drop-append_seam before rest)

  -- the requests of some batches are a beginning of those of them and of others
  requests_begin : (first second all : List (List PlainSpanData)) (a b : Option (List ℕ)) → first ++ second ≡ all
      → AppendsBeginning a b (encoded requests first) → AppendsBeginning a b (encoded requests all)
  requests_begin first second all a b e h =
      subst (AppendsBeginning a b) (sym (requests_joined requests first second) ∙ ap (encoded requests) e)
      (appends_longer a b (encoded requests first) (encoded requests second) h)

  -- a beginning of the replies is one of the requests
  replies_begin : (provider : ProviderState P S G) (begun : SessionState P S G) (s : Streams)
      → BeginsUnder calls provider begun
      → (h : CarriesOutSome calls (otlp_form requests) begun s.input (AppendsBeginning s.output s.output_after))
      → AppendsBeginning s.output s.output_after (encoded requests (exported_since calls provider h.after.provider))
  replies_begin provider begun s begins h =
      let took = h.ran.took (λ _. None) (nothing_described begun.spans begins.spans) in
      requests_begin (exported_in h.replies) (batches_of_first calls.keeps h.after.provider.processors) (exported_since calls provider h.after.provider)
      s.output s.output_after (since_taken provider begun h.after (plain_commands h.commands) h.replies begins took)
      (subst (AppendsBeginning s.output s.output_after) (texts_are_requests requests h.replies) h.written)

  -- what was replied and what a close appended, or nothing, is a beginning of the requests of what was exported
  closes_begin : (provider : ProviderState P S G) (begun : SessionState P S G) (s : Streams) (bad_line : Option ℕ)
      → BeginsUnder calls provider begun → (h : ClosesSome calls (otlp_form requests) begun s bad_line)
      → AppendsBeginning s.output s.output_after (encoded requests (exported_since calls provider h.closes.provider))
  closes_begin provider begun s bad_line begins h =
      let replies = h.feeds.replies in
      let left = batches_of_first calls.keeps h.closes.provider.processors in
      let took = h.feeds.these.ran.took (λ _. None) (nothing_described begun.spans begins.spans) in
      let all = since_begun calls law provider begun h.after h.closes.provider (plain_commands h.feeds.these.commands)
      replies h.closes.shutdown begins took h.closes.shuts in
      let replied = h.feeds.written ∙ texts_are_requests requests replies in
      elim h.closes.writes [
        | inl w ↦ subst (AppendsBeginning s.output s.output_after)
            (w.written ∙ ap (λ bs. bs ++ encoded requests left) replied
            ∙ sym (requests_joined requests (exported_in replies) left) ∙ ap (encoded requests) all) h.written
        | inr w ↦ requests_begin (exported_in replies) left (exported_since calls provider h.closes.provider) s.output s.output_after all
            (subst (AppendsBeginning s.output s.output_after) (w.written ∙ replied) h.written)
      ]

  -- either way
  begins_requests : (provider : ProviderState P S G) (begun : SessionState P S G) (s : Streams)
      → BeginsUnder calls provider begun → (h : TracesSome calls (otlp_form requests) begun s)
      → AppendsBeginning s.output s.output_after
      (encoded requests (exported_since calls provider (session_reaches calls (otlp_form requests) begun s h)))
  begins_requests provider begun s begins (inl h) = replies_begin provider begun s begins h
  begins_requests provider begun s begins (inr h) = closes_begin provider begun s h.0 begins h.1

  exports_some : (provider : ProviderState P S G) (s : Streams) → TracesBegun calls (otlp_form requests) provider s
      → ExportsSome calls requests provider s
  exports_some provider s (inl nothing) = record { traces = inl nothing; written = ([], _, refl, nothing) }
  exports_some provider s (inr h) = record { traces = inr h; written = begins_requests provider h.0 s h.1 h.2 }

  pub exports_as : (provider : ProviderState P S G) (s : Streams) (end : RunEnd)
      → EndsAs true (TracesWhole calls (otlp_form requests) provider s) ⊥ (TracesBegun calls (otlp_form requests) provider s) s end
      → EndsAs true (ExportsAll calls requests provider s) ⊥ (ExportsSome calls requests provider s) s end
  exports_as provider s ends.Done h = (exports_all provider s None h.0, h.1)
  exports_as provider s ends.Empty h = absurd h.0
  exports_as provider s (ends.BadLine line reason) h = (exports_all provider s (Some line) h.0, h.1)
  exports_as provider s ends.Failed h = exports_some provider s h

-- where no request is written, there is no batch
pub no_batch : {X : Type 0} (items : X → List PlainSpanData) (encoding : Encoding) (resource : PlainResource)
    (batches : List X) → in_encoding encoding resource (map items batches) ≡ [] → batches ≡ []
no_batch items encoding resource [] e = refl
no_batch items encodings.Json resource (batch ∷ batches) e =
    let text = otlp_text resource (items batch) in
    let more = otlp_lines resource (map items batches) in
    let lengths = ap length e in
    absurd (omega (arith, lengths, length-append (text ++ 10 ∷ []) more, length-append text (10 ∷ [])))
no_batch items encodings.Protobuf resource (batch ∷ batches) e =
    let bytes = request_bytes resource (items batch) in
    let more = delimited_requests resource (map items batches) in
    let lengths = ap length e in
    absurd (omega (arith, lengths, length-append (after_length bytes) more, length-append (varint_bytes (length bytes)) bytes, varint_some (length bytes)))

module _ {C D E : Type 0} (calls : Calls (MemoryProcessor C D) (SamplerOf E) (List ℕ)) (export : AskedExport)
    (given : List (List ℕ)) (resource : PlainResource) where
  -- what is exported of this resource under the provider that is asked for
  pub exports_asked : (provider : ProviderState (MemoryProcessor C D) (SamplerOf E) (List ℕ)) (s : Streams) (end : RunEnd)
      → IsDetected (strings_given given) resource → IsProviderOf true export.asked provider
      → EndsAs true (ExportsAll calls (requests_of export resource) provider s) ⊥
      (ExportsSome calls (requests_of export resource) provider s) s end
      → EndsAs true (ExportsAsked calls export given s) ⊥ (BeginsExporting calls export given s) s end
  exports_asked provider s ends.Done is of h = ((resource, is, provider, of, h.0), h.1)
  exports_asked provider s ends.Empty is of h = absurd h.0
  exports_asked provider s (ends.BadLine line reason) is of h = ((resource, is, provider, of, h.0), h.1)
  exports_asked provider s ends.Failed is of h = inr (resource, is, provider, of, h)

module _ {P S G : Type 0} (calls : Calls P S G) (requests : Encoded) where
  -- what was exported whole is a beginning
  exported_some : (provider : ProviderState P S G) (s : Streams) (bad_line : Option ℕ)
      → ExportsAll calls requests provider s bad_line → ExportsSome calls requests provider s
  unfolding whole_begun all_begun
  exported_some provider s bad_line h = record {
    traces = whole_begun calls (otlp_form requests) provider s bad_line h.traces;
    written = appends_all s.output s.output_after _ h.written;
  }

module _ {C D E : Type 0} (calls : Calls (MemoryProcessor C D) (SamplerOf E) (List ℕ)) where
  -- what was exported whole is a beginning
  pub exporting_begun : (export : AskedExport) (given : List (List ℕ)) (s : Streams) (bad_line : Option ℕ)
      → ExportsAsked calls export given s bad_line → BeginsExporting calls export given s
  exporting_begun export given s bad_line (resource, is, provider, of, h) =
      inr (resource, is, provider, of, exported_some calls (requests_of export resource) provider s bad_line h)

-- Each call keeps account of spans and of lines, and so does every list of calls.
use Rattle.std.proofs.Common.{◌≡◌, ◌∙◌, ◌⊎◌, inl, inr, ℕ, Bool, List, [], ◌∷◌, ◌++◌, map, Result, Ok, MatchBool, ◌||◌, true, false, refl, sym, ap, subst, append_assoc, append-nil}
use Rattle.std.specs.List.{flat_map}
use Rattle.std.proofs.lemmas.List.Concat.{flat_map-append}
use Rattle.otel_resource.specs.Resource.{PlainResource}
use Rattle.otel_export.specs.declared.error.OTelSdkError.{OTelSdkError}
use Rattle.otel_export.specs.PlainSpanData.{PlainSpanData}
use Rattle.otel_export.specs.StoredBatches.{StoredBatches, all_stored}
use Rattle.otel_pipeline.specs.Calls.{Calls}
use Rattle.otel_pipeline.specs.Deliveries.{Delivery, EachFollows}
use Rattle.otel_pipeline.specs.Each.{error_count}
use Rattle.otel_pipeline.specs.Ending.{deliveries}
use Rattle.otel_pipeline.specs.FirstProcessor.{stored_of_first}
use Rattle.otel_pipeline.specs.ProcessorKeeps.{OnlyAppends}
use Rattle.otel_pipeline.specs.Provider.{FlushesProcessor, ProviderState, RunsProcessor, ShutsDown, ShutsProcessor, shut_answer}
use Rattle.otel_pipeline.specs.SpanHistory.{span_of}
use Rattle.otel_pipeline.specs.StartRequest.{StartRequest}
use Rattle.otel_pipeline.specs.Starting.{OnlyDraws}
use Rattle.otel_pipeline.proofs.EndLemmas.{ends_followed}
use Rattle.otel_pipeline.proofs.FirstKeeps.{AddsToFirst, adds_nothing, delivers_grow, flush_grows, run_grows, shutdown_grows, started_stores, stored_adds, taken_all, taken_told}
use Rattle.otel_pipeline.proofs.Following.{EachFollows-append, EachFollows-asked, EachFollows-same}
use Rattle.otel_pipeline.proofs.Starting.{answers_told, refused_draws}
use Rattle.otel_otlp.specs.Otlp.{otlp_line, otlp_lines}
use Rattle.otel_embed.specs.Conserved.{CallsConserve, DoAll}
use Rattle.otel_embed.specs.HeldLines.{LinesHeld}
use Rattle.otel_embed.specs.Flows.{Did, rested, started, ended, flushed, ran, shut, drained, DoesTo, DoesToProvider, Flow, MayStart, delivered_by, handed_by, lines_held}

abbrev Batches : Type 0
Batches = List (List PlainSpanData)

abbrev Bytes : Type 0
Bytes = List ℕ

module _ {P S G : Type 0} (calls : Calls P S G) where
  abbrev stored : Flow P S G → StoredBatches
  stored flow = stored_of_first calls.keeps flow.provider.processors

  -- from a flow to another these deliveries were followed, and these bytes handed out
  record Carries (delivered : List Delivery) (handed : Bytes) (old new : Flow P S G) : Type 0 where
    follows : EachFollows calls.processor delivered old.provider.processors new.provider.processors
    more : Batches
    stores : all_stored (stored new) ≡ all_stored (stored old) ++ more
    lines : handed ++ lines_held calls new ≡ lines_held calls old ++ otlp_lines old.resource more
    resource : new.resource ≡ old.resource

  carries_none : (flow : Flow P S G) → Carries [] [] flow flow
  carries_none flow = record {
    follows = EachFollows-same calls.processor flow.provider.processors flow.provider.processors refl;
    more = [];
    stores = sym (append-nil (all_stored (stored flow)));
    lines = sym (append-nil (lines_held calls flow));
    resource = refl;
  }

  carries_more : (d e : List Delivery) (h k : Bytes) (a b c : Flow P S G) → Carries d h a b → Carries e k b c → Carries (d ++ e) (h ++ k) a c
  carries_more d e h k a b c first second = record {
    follows = EachFollows-append calls.processor d e a.provider.processors b.provider.processors c.provider.processors first.follows second.follows;
    more = first.more ++ second.more;
    stores = second.stores ∙ ap (λ (l : Batches). l ++ second.more) first.stores ∙ append_assoc (all_stored (stored a)) first.more second.more;
    lines = append_assoc h k (lines_held calls c)
        ∙ ap (λ (l : Bytes). h ++ l) second.lines
        ∙ sym (append_assoc h (lines_held calls b) (otlp_lines b.resource second.more))
        ∙ ap (λ (l : Bytes). l ++ otlp_lines b.resource second.more) first.lines
        ∙ append_assoc (lines_held calls a) (otlp_lines a.resource first.more) (otlp_lines b.resource second.more)
        ∙ ap (λ (r : PlainResource). lines_held calls a ++ (otlp_lines a.resource first.more ++ otlp_lines r second.more)) first.resource
        ∙ ap (λ (l : Bytes). lines_held calls a ++ l) (sym (flat_map-append (otlp_line a.resource) first.more second.more));
    resource = second.resource ∙ first.resource;
  }

  -- a call that hands nothing out, and after which batches are kept that came after those before
  adds_carry : (delivered : List Delivery) (old new : Flow P S G) → EachFollows calls.processor delivered old.provider.processors new.provider.processors
      → AddsToFirst calls.keeps old.provider.processors new.provider.processors → new.lines ≡ old.lines → new.resource ≡ old.resource → Carries delivered [] old new
  adds_carry delivered old new follows adds lines resource = record {
    follows = follows;
    more = adds.1.0;
    stores = ap (λ (l : Batches). l ++ (stored new).batches) adds.0 ∙ ap (λ (l : Batches). (stored old).taken ++ l) adds.1.1
        ∙ sym (append_assoc (stored old).taken (stored old).batches adds.1.0);
    lines = ap (λ (l : LinesHeld). l.bytes ++ otlp_lines new.resource (stored new).batches) lines
        ∙ ap (λ (r : PlainResource). old.lines.bytes ++ otlp_lines r (stored new).batches) resource
        ∙ ap (λ (l : Batches). old.lines.bytes ++ otlp_lines old.resource l) adds.1.1
        ∙ ap (λ (l : Bytes). old.lines.bytes ++ l) (flat_map-append (otlp_line old.resource) (stored old).batches adds.1.0)
        ∙ sym (append_assoc old.lines.bytes (otlp_lines old.resource (stored old).batches) (otlp_lines old.resource adds.1.0));
    resource = resource;
  }

  -- a call after which the processors are as before
  rests_carry : (old new : Flow P S G) → new.provider.processors ≡ old.provider.processors → new.lines ≡ old.lines → new.resource ≡ old.resource → Carries [] [] old new
  rests_carry old new same lines resource = adds_carry [] old new
      (EachFollows-same calls.processor old.provider.processors new.provider.processors (ap (map calls.processor.told) same))
      (adds_nothing calls.keeps old.provider.processors new.provider.processors same) lines resource

  refused_same : (old new : ProviderState P S G) (request : StartRequest) → MayStart calls.sampler calls.ids old request new → new.processors ≡ old.processors
  refused_same old new request (inl e) = ap (λ (p : ProviderState P S G). p.processors) e
  refused_same old new request (inr h) = by (refused_draws calls.processor calls.sampler calls.ids old new request h)
    where
      by : (new ≡ old) ⊎ OnlyDraws calls.sampler calls.ids old request.builder request.cx request.now new → new.processors ≡ old.processors
      by (inl e) = ap (λ (p : ProviderState P S G). p.processors) e
      by (inr draws) = ap (λ (p : ProviderState P S G). p.processors) draws.rest

  module _ (law : OnlyAppends calls.processor calls.timer calls.keeps.stored) where
    start_carries : (request : StartRequest) (old new : Flow P S G) → DoesToProvider calls (started request) old.provider new.provider → new.lines ≡ old.lines → new.resource ≡ old.resource → Carries [] [] old new
    start_carries request old new (inl (history, starts)) lines resource = adds_carry [] old new
        (EachFollows-same calls.processor old.provider.processors new.provider.processors
        (answers_told calls.processor calls.sampler calls.ids old.provider new.provider request (Ok (span_of history)) (history, refl, starts)))
        (stored_adds calls.keeps old.provider.processors new.provider.processors (started_stores calls law (old.provider.is_shut || request.cx.telemetry_suppressed) old.provider new.provider request history starts))
        lines resource
    start_carries request old new (inr refuses) lines resource = rests_carry old new (refused_same old.provider new.provider request refuses) lines resource

    shutdown_follows : (is_shut : Bool) (again answer : Result (Unit {0}) OTelSdkError) (old new : ProviderState P S G)
        → MatchBool is_shut ((answer ≡ again) × (new ≡ old)) (ShutsDown calls.processor old 5_000_000_000 answer new) → EachFollows calls.processor [] old.processors new.processors
    shutdown_follows true again answer old new h = EachFollows-same calls.processor old.processors new.processors (ap (λ (p : ProviderState P S G). map calls.processor.told p.processors) h.1)
    shutdown_follows false again answer old new h = EachFollows-asked calls.processor (ShutsProcessor calls.processor 5_000_000_000) (λ p r q asked. asked.told) old.processors new.processors h.failed h.asked

    carries_one : (did : Did) (old new : Flow P S G) → DoesTo calls did old new → Carries (delivered_by did) (handed_by did) old new
    carries_one rested old new h = rests_carry old new (ap (λ (p : ProviderState P S G). p.processors) h.provider) h.lines h.resource
    carries_one (started request) old new h = start_carries request old new h.provider h.lines h.resource
    carries_one (ended was_shut span moment refused) old new h = adds_carry (deliveries was_shut moment span.recorded refused) old new
        (subst (λ (b : Bool). EachFollows calls.processor (deliveries b moment span.recorded refused) old.provider.processors new.provider.processors) (sym h.provider.0)
        (ends_followed calls.processor old.provider new.provider span moment refused h.provider.1))
        (delivers_grow calls law old.provider.is_shut moment span.recorded old.provider.processors new.provider.processors refused h.provider.1.delivers)
        h.lines h.resource
    carries_one flushed old new h = adds_carry [] old new
        (EachFollows-asked calls.processor (FlushesProcessor calls.processor) (λ p r q asked. asked.told) old.provider.processors new.provider.processors (error_count h.provider.1.asked.0) (h.provider.1.asked.0, refl, h.provider.1.asked.2))
        (flush_grows calls law old.provider new.provider h.provider.0 h.provider.1) h.lines h.resource
    carries_one (ran moment) old new h = adds_carry [] old new
        (EachFollows-asked calls.processor (RunsProcessor calls.processor calls.timer moment) (λ p r q asked. asked.told) old.provider.processors new.provider.processors h.provider.1.failed h.provider.1.asked)
        (run_grows calls law moment old.provider new.provider h.provider.0 h.provider.1) h.lines h.resource
    carries_one shut old new h = adds_carry [] old new
        (shutdown_follows old.provider.is_shut (shut_answer old.provider.is_disabled old.provider.processors) h.provider.0 old.provider new.provider h.provider.1)
        (shutdown_grows calls law (shut_answer old.provider.is_disabled old.provider.processors) old.provider.is_shut old.provider new.provider h.provider.0 h.provider.1) h.lines h.resource
    carries_one (drained bytes) old new h = drain_carries bytes old new h.provider h.lines h.resource
      where
        drain_carries : (bytes : Bytes) (old new : Flow P S G) → DoesToProvider calls (drained bytes) old.provider new.provider
            → bytes ++ lines_held calls new ≡ lines_held calls old → new.resource ≡ old.resource → Carries [] bytes old new
        drain_carries bytes old new (inl same) lines resource = record {
          follows = EachFollows-same calls.processor old.provider.processors new.provider.processors (ap (λ (p : ProviderState P S G). map calls.processor.told p.processors) same);
          more = [];
          stores = ap (λ (p : ProviderState P S G). all_stored (stored_of_first calls.keeps p.processors)) same
              ∙ sym (append-nil (all_stored (stored old)));
          lines = lines ∙ sym (append-nil (lines_held calls old));
          resource = resource;
        }
        drain_carries bytes old new (inr takes) lines resource = record {
          follows = EachFollows-same calls.processor old.provider.processors new.provider.processors (taken_told calls old.provider.processors new.provider.processors takes.first);
          more = [];
          stores = ap all_stored (taken_all calls old.provider.processors new.provider.processors takes.first);
          lines = lines ∙ sym (append-nil (lines_held calls old));
          resource = resource;
        }

    all_carry : (dids : List Did) (old new : Flow P S G) → DoAll calls dids old new → Carries (flat_map delivered_by dids) (flat_map handed_by dids) old new
    all_carry [] old new h = subst (λ (f : Flow P S G). Carries [] [] old f) (sym h) (carries_none old)
    all_carry (did ∷ dids) old new (between, one, others) =
        carries_more (delivered_by did) (flat_map delivered_by dids) (handed_by did) (flat_map handed_by dids) old between new (carries_one did old between one) (all_carry dids between new others)

    pub calls_conserve : CallsConserve calls
    calls_conserve dids old new h =
        let c = all_carry dids old new h in
        record { follows = c.follows; more = c.more; stored = c.stores; lines = c.lines; resource = c.resource }

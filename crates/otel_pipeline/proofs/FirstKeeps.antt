-- The batches that the first processor of a provider keeps over the calls of the pipeline, and how many it loses.
use Rattle.std.proofs.Common.{◌≡◌, ◌∙◌, ℕ, List, [], ◌∷◌, map, Option, Some, None, Result, Bool, true, false, MatchBool, refl, ap}
use Rattle.opentelemetry.specs.Plain.{PlainContext}
use Rattle.otel_export.specs.declared.error.OTelSdkError.{OTelSdkError}
use Rattle.otel_sampling.specs.declared.trace.sampler.SamplingDecision.{SamplingDecision}
use Rattle.otel_sampling.specs.declared.trace.sampler.SamplingDecision.TheVariants as decisions
use Rattle.otel_export.specs.PlainSpanData.{PlainSpanData}
use Rattle.otel_export.specs.KeptBatches.{OnlyAdds, adds_none}
use Rattle.otel_pipeline.specs.Calls.{Calls}
use Rattle.otel_pipeline.specs.Each.{Each}
use Rattle.otel_pipeline.specs.Ending.{Delivers, DeliversIf, TakesAndTells}
use Rattle.otel_export.specs.StoredBatches.{all_taken}
use Rattle.otel_pipeline.specs.FirstProcessor.{TakesFirst, losses_of_first, stored_of_first}
use Rattle.otel_pipeline.specs.ProcessorKeeps.{OnlyAppends}
use Rattle.otel_pipeline.specs.Provider.{unstarted_context, FlushesProcessor, ProviderState, RunsDue, RunsProcessor, Flushes, ShutsDown, ShutsProcessor}
use Rattle.otel_pipeline.specs.SpanHistory.{PlainSpan, SpanStart, SpanHistory, over}
use Rattle.otel_pipeline.specs.StartRequest.{StartRequest}
use Rattle.otel_pipeline.specs.Starting.{PassesThrough, DecidesStart, StartsOpen}
use Rattle.otel_pipeline.specs.declared.trace.span_processor.SpanProcessor.{Ghosts}
use Rattle.otel_pipeline.specs.declared.trace.timed.Timed as timing
use Rattle.otel_pipeline.specs.declared.trace.keeps_batches.KeepsBatches as keeping

-- batches are kept after those that were kept
abbrev pub AddsToFirst : {P : Type 0} → keeping.Ghosts P → List P → List P → Type 0
AddsToFirst keeps old new = OnlyAdds (stored_of_first keeps old) (stored_of_first keeps new)

-- none was stored, and none was lost
abbrev pub StoresNothing : {P : Type 0} → keeping.Ghosts P → List P → List P → Type 0
StoresNothing keeps old new = stored_of_first keeps new ≡ stored_of_first keeps old

-- where none was stored, none was taken back
pub stored_adds : {P : Type 0} (keeps : keeping.Ghosts P) (old new : List P) → StoresNothing keeps old new → AddsToFirst keeps old new
stored_adds keeps old new = adds_none (stored_of_first keeps old) (stored_of_first keeps new)

pub adds_nothing : {P : Type 0} (keeps : keeping.Ghosts P) (old new : List P) → new ≡ old → AddsToFirst keeps old new
adds_nothing keeps old new e = stored_adds keeps old new (ap (stored_of_first keeps) e)

pub stores_nothing : {P : Type 0} (keeps : keeping.Ghosts P) (old new : List P) → new ≡ old → StoresNothing keeps old new
stores_nothing keeps old new = ap (stored_of_first keeps)

module _ {P : Type 0} (calls : Ghosts P) (timer : timing.Ghosts P) (keeps : keeping.Ghosts P) (law : OnlyAppends calls timer keeps.stored) where
  -- what the first processor keeps where each took part in a start
  passed_keeps : (cx : PlainContext) (s t : PlainSpan) (ps qs : List P) → PassesThrough calls cx s ps qs t → StoresNothing keeps ps qs
  passed_keeps cx s t [] [] h = stores_nothing keeps [] [] refl
  passed_keeps cx s t [] (q ∷ qs) h = absurd h
  passed_keeps cx s t (p ∷ ps) [] h = absurd h
  passed_keeps cx s t (p ∷ ps) (q ∷ qs) h = law.starts p s cx h.0 q h.1.gives

  -- the same where the sampler decided
  decided_keeps : (decision : SamplingDecision) (cx : PlainContext) (from : SpanStart) (ps qs : List P) (history : SpanHistory) → DecidesStart calls decision cx from ps qs history → StoresNothing keeps ps qs
  decided_keeps decisions.Drop cx from ps qs history h = stores_nothing keeps ps qs h.1
  decided_keeps decisions.RecordOnly cx from ps qs history h = passed_keeps cx _ _ ps qs h.passes
  decided_keeps decisions.RecordAndSample cx from ps qs history h = passed_keeps cx _ _ ps qs h.passes

  -- what it keeps where each was asked
  each_adds : {E : Type 0} (G : P → Result (Unit {0}) E → P → Type 0) → ((p : P) (r : Result (Unit {0}) E) (q : P) → G p r q → OnlyAdds (keeps.stored p) (keeps.stored q))
      → (ps qs : List P) (rs : List (Result (Unit {0}) E)) → Each G ps rs qs → AddsToFirst keeps ps qs
  each_adds G adds [] [] [] h = adds_nothing keeps [] [] refl
  each_adds G adds [] (q ∷ qs) [] h = absurd h
  each_adds G adds [] qs (r ∷ rs) h = absurd h
  each_adds G adds (p ∷ ps) qs [] h = absurd h
  each_adds G adds (p ∷ ps) [] (r ∷ rs) h = absurd h
  each_adds G adds (p ∷ ps) (q ∷ qs) (r ∷ rs) h = adds p r q h.0

module _ {P S G : Type 0} (calls : Calls P S G) (law : OnlyAppends calls.processor calls.timer calls.keeps.stored) where
  pub started_stores : (starts_nothing : Bool) (old new : ProviderState P S G) (request : StartRequest) (history : SpanHistory)
      → MatchBool starts_nothing ((history ≡ over (unstarted_context old request.cx) old.span_limits) × (new ≡ old)) (StartsOpen calls.processor calls.sampler calls.ids old request history new)
      → StoresNothing calls.keeps old.processors new.processors
  started_stores true old new request history h = stores_nothing calls.keeps old.processors new.processors (ap (λ (r : ProviderState P S G). r.processors) h.1)
  started_stores false old new request history h = decided_keeps calls.processor calls.timer calls.keeps law h.answer.decision request.cx _ old.processors new.processors history h.decided

  pub delivery_grows : (is_shut : Bool) (span : PlainSpanData) (ps qs : List P) (refused : ℕ) → Delivers calls.processor is_shut span ps qs refused → AddsToFirst calls.keeps ps qs
  delivery_grows true span ps qs refused h = adds_nothing calls.keeps ps qs h.0
  delivery_grows false span ps qs refused h = each_adds calls.processor calls.timer calls.keeps law (TakesAndTells calls.processor span) (λ p r q asked. law.ends p span r q asked.gives) ps qs h.0 h.2

  pub shutdown_grows : (again : Result (Unit {0}) OTelSdkError) (is_shut : Bool) (old new : ProviderState P S G)
      (said : Result (Unit {0}) OTelSdkError) → MatchBool is_shut ((said ≡ again) × (new ≡ old)) (ShutsDown calls.processor old 5_000_000_000 said new) → AddsToFirst calls.keeps old.processors new.processors
  shutdown_grows again true old new said h = adds_nothing calls.keeps old.processors new.processors (ap (λ (p : ProviderState P S G). p.processors) h.1)
  shutdown_grows again false old new said h = each_adds calls.processor calls.timer calls.keeps law (ShutsProcessor calls.processor 5_000_000_000) (λ p r q asked. law.shuts p 5_000_000_000 r q asked.gives) old.processors new.processors h.asked.0 h.asked.2

  pub flush_grows : (old new : ProviderState P S G) (answer : Result (Unit {0}) OTelSdkError) → Flushes calls.processor old answer new → AddsToFirst calls.keeps old.processors new.processors
  flush_grows old new answer h = each_adds calls.processor calls.timer calls.keeps law (FlushesProcessor calls.processor) (λ p r q asked. law.flushes p r q asked.gives) old.processors new.processors h.asked.0 h.asked.2

  pub run_grows : (now : ℕ) (old new : ProviderState P S G) (answer : Result (Unit {0}) OTelSdkError) → RunsDue calls.processor calls.timer now old answer new → AddsToFirst calls.keeps old.processors new.processors
  run_grows now old new answer h = each_adds calls.processor calls.timer calls.keeps law (RunsProcessor calls.processor calls.timer now) (λ p r q asked. law.runs p now r q asked.gives) old.processors new.processors h.asked.0 h.asked.2

  -- the end of a span that may not be recording
  pub delivers_grow : (is_shut : Bool) (moment : ℕ) (recorded : Option PlainSpanData) (ps qs : List P) (refused : ℕ) → DeliversIf calls.processor is_shut moment recorded ps qs refused → AddsToFirst calls.keeps ps qs
  delivers_grow is_shut moment None ps qs refused h = adds_nothing calls.keeps ps qs h.0
  delivers_grow is_shut moment (Some recorded) ps qs refused h = delivery_grows is_shut _ ps qs refused h

-- to take the batches of the first processor changes nothing that one tells, and then what it has stored is all taken
module _ {P S G : Type 0} (calls : Calls P S G) where
  abbrev Takes : List P → List P → Type 0
  Takes ps qs = TakesFirst calls.processor calls.queues calls.keeps ps qs

  pub taken_told : (ps qs : List P) → Takes ps qs → map calls.processor.told qs ≡ map calls.processor.told ps
  taken_told [] qs h = ap (map calls.processor.told) h
  taken_told (p ∷ ps) [] h = absurd h
  taken_told (p ∷ ps) (q ∷ qs) h =
      ap (λ (l : List P). calls.processor.told q ∷ map calls.processor.told l) h.2 ∙ ap (λ t. t ∷ map calls.processor.told ps) h.0.told

  pub taken_all : (ps qs : List P) → Takes ps qs → stored_of_first calls.keeps qs ≡ all_taken (stored_of_first calls.keeps ps)
  taken_all [] qs h = ap (stored_of_first calls.keeps) h
  taken_all (p ∷ ps) [] h = absurd h
  taken_all (p ∷ ps) (q ∷ qs) h = h.0.taken

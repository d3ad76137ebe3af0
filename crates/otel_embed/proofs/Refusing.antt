-- What a refused call leaves of a pipeline.
use Rattle.std.proofs.Common.{◌≡◌, ◌∙◌, ℕ, List, [], Result, Ok, Err, OnErr, ap, inr, refl, subst, sym}
use Rattle.opentelemetry.specs.Plain.{PlainContext, PlainKeyValue}
use Rattle.otel_pipeline.specs.Calls.{Calls}
use Rattle.otel_pipeline.specs.Provider.{ProviderState}
use Rattle.otel_pipeline.specs.StartRequest.{StartRequest}
use Rattle.otel_embed.specs.Keys.{OpenedSpans, SameSpans}
use Rattle.otel_embed.specs.Flows.{MayStart}
use Rattle.otel_embed.specs.Pipelines.{PipelineState, taken}
use Rattle.otel_embed.specs.Starts.{AskedStart, RefusesIn, StartsIn}

-- a start that is refused
pub start_refused : {P S G E : Type 0} (calls : Calls P S G) (answer : Result ℕ E) (old : PipelineState P S G) (request : StartRequest) (spans : OpenedSpans) (provider : ProviderState P S G)
    → OnErr answer (SameSpans old.spans spans) → OnErr answer (MayStart calls.sampler calls.ids old.flow.provider request provider)
    → OnErr answer (RefusesIn calls old (record old { flow = record old.flow { provider = provider }; spans = spans; gathered = [] }))
start_refused calls (Ok _) old request spans provider same asked = tt
start_refused calls (Err _) old request spans provider same asked = record { spans = same; provider = inr (request, asked); rest = refl }

module _ {P S G : Type 0} (calls : Calls P S G) where
  -- a start after what was gathered was taken, which is refused
  pub refused_after : (old between new : PipelineState P S G) → between ≡ taken old → new.gathered ≡ between.gathered
      → RefusesIn calls between (record new { gathered = [] }) → RefusesIn calls old new
  refused_after old between new e same refuses =
      let h = subst (λ (b : PipelineState P S G). RefusesIn calls b (record new { gathered = [] })) e refuses in
      let none : new.gathered ≡ [] = same ∙ ap (λ (b : PipelineState P S G). b.gathered) e in
      let whole : new ≡ record new { gathered = [] } = λ k. record new { gathered = none k } in
      record { spans = h.spans; provider = h.provider; rest = whole ∙ h.rest }

  -- and one that is not, in a context of which something is so, with what was gathered
  pub started_after : (InContext : PlainContext → Type 0) (old between new : PipelineState P S G) (attributes : List PlainKeyValue) (cx : PlainContext)
      (asked : AskedStart) (key : ℕ)
      → between ≡ taken old → new.gathered ≡ between.gathered → attributes ≡ old.gathered → InContext cx
      → StartsIn calls (λ found. found ≡ cx) (record between { gathered = attributes }) asked key (record new { gathered = [] })
      → StartsIn calls InContext old asked key new
  started_after InContext old between new attributes cx asked key e same given in_context starts =
      let one = subst (λ (b : PipelineState P S G). StartsIn calls (λ found. found ≡ cx) (record b { gathered = attributes }) asked key (record new { gathered = [] })) e starts in
      let h = subst (λ (a : List PlainKeyValue). StartsIn calls (λ found. found ≡ cx) (record (taken old) { gathered = a }) asked key (record new { gathered = [] })) given one in
      let none : new.gathered ≡ [] = same ∙ ap (λ (b : PipelineState P S G). b.gathered) e in
      let whole : new ≡ record new { gathered = [] } = λ k. record new { gathered = none k } in
      record {
        cx = h.cx;
        scope = h.scope;
        in_context = subst InContext (sym h.in_context) in_context;
        by_tracer = h.by_tracer;
        starts = h.starts;
        rest = whole ∙ h.rest;
      }

-- What each call of a pipeline does to its flow.
use Rattle.std.proofs.Common.{◌≡◌, ◌∙◌, ◌⊎◌, ◌≤◌, ◌<◌, inl, inr, ℕ, List, [], ◌++◌, Result, refl, ap, sym, subst, append_assoc, append-nil, drop, length, take}
use Rattle.std.proofs.lemmas.Bool.{cases_lt}
use Rattle.std.proofs.lemmas.List.{length-take-le, take-append-drop}
use Rattle.otel_export.specs.declared.error.OTelSdkError.{OTelSdkError}
use Rattle.otel_export.specs.StoredBatches.{StoredBatches}
use Rattle.otel_otlp.specs.Otlp.{otlp_lines}
use Rattle.otel_pipeline.specs.Calls.{Calls}
use Rattle.otel_pipeline.specs.FirstProcessor.{TakesShown, batches_of_first}
use Rattle.otel_pipeline.specs.Provider.{ProviderState}
use Rattle.otel_pipeline.proofs.FirstKeeps.{taken_all}
use Rattle.otel_pipeline.specs.StartRequest.{StartRequest}
use Rattle.otel_embed.specs.Conserved.{CallsDo, FlowStays}
use Rattle.otel_embed.specs.Drains.{Collects, Drains}
use Rattle.otel_embed.specs.Flows.{Answers, Did, DoesTo, DoesToProvider, Flow, MayStart, delivered_by, ended, handed_by, lines_held, rested, started, flushed, ran, shut, drained}
use Rattle.otel_embed.specs.HeldLines.{HandsOutIfFits, LinesHeld}
use Rattle.otel_embed.specs.Pipelines.{PipelineState}

module _ {P S G : Type 0} (calls : Calls P S G) where
  keeps_resource : (old new : PipelineState P S G) → FlowStays calls old new → new.flow.resource ≡ old.flow.resource
  keeps_resource old new e = ap (λ (f : Flow P S G). f.resource) e

  keeps_lines : (old new : PipelineState P S G) → FlowStays calls old new → new.flow.lines ≡ old.flow.lines
  keeps_lines old new e = ap (λ (f : Flow P S G). f.lines) e

  answers_do : (old new : PipelineState P S G) (did : Did) (answer : Result (Unit {0}) OTelSdkError)
      → Answers calls did answer old.flow.provider new.flow.provider → FlowStays calls old new → DoesTo calls did old.flow new.flow
  answers_do old new flushed answer h e = record { provider = (answer, h); resource = keeps_resource old new e; lines = keeps_lines old new e }
  answers_do old new (ran moment) answer h e = record { provider = (answer, h); resource = keeps_resource old new e; lines = keeps_lines old new e }
  answers_do old new shut answer h e = record { provider = (answer, h); resource = keeps_resource old new e; lines = keeps_lines old new e }
  answers_do old new rested answer h e = absurd h
  answers_do old new (started _) answer h e = absurd h
  answers_do old new (ended _ _ _ _) answer h e = absurd h
  answers_do old new (drained _) answer h e = absurd h

  refuses_do : (old new : PipelineState P S G) → FlowStays calls old new
      → (new.flow.provider ≡ old.flow.provider) ⊎ ((request : StartRequest) × MayStart calls.sampler calls.ids old.flow.provider request new.flow.provider)
      → (did : Did) × (delivered_by did ≡ []) × (handed_by did ≡ []) × DoesTo calls did old.flow new.flow
  refuses_do old new e (inl same) = (rested, refl, refl, record { provider = same; resource = keeps_resource old new e; lines = keeps_lines old new e })
  refuses_do old new e (inr (request, may)) =
      (started request, refl, refl, record { provider = inr may; resource = keeps_resource old new e; lines = keeps_lines old new e })

  -- collected lines are those that were held, and those of what was kept
  collected_does : (old new : PipelineState P S G) → Collects calls old new
      → DoesToProvider calls (drained []) old.flow.provider new.flow.provider × (lines_held calls new.flow ≡ lines_held calls old.flow)
      × (new.flow.resource ≡ old.flow.resource)
  collected_does old new (inl (none, takes, is)) = (
    inr takes,
    ap (λ (f : Flow P S G). f.lines.bytes ++ otlp_lines f.resource (batches_of_first calls.keeps new.flow.provider.processors)) (ap (λ (p : PipelineState P S G). p.flow) is)
        ∙ ap (λ (s : StoredBatches). otlp_lines old.flow.resource (batches_of_first calls.keeps old.flow.provider.processors) ++ otlp_lines old.flow.resource s.batches)
        (taken_all calls old.flow.provider.processors new.flow.provider.processors takes.first)
        ∙ append-nil (otlp_lines old.flow.resource (batches_of_first calls.keeps old.flow.provider.processors))
        ∙ ap (λ (l : List ℕ). l ++ otlp_lines old.flow.resource (batches_of_first calls.keeps old.flow.provider.processors)) (sym none),
    ap (λ (p : PipelineState P S G). p.flow.resource) is,
  )
  collected_does old new (inr (_, is)) = (
    inl (ap (λ (p : PipelineState P S G). p.flow.provider) is),
    ap (λ (p : PipelineState P S G). lines_held calls p.flow) is,
    ap (λ (p : PipelineState P S G). p.flow.resource) is,
  )

  -- what a drain hands out, and that it and what is left are the lines that were collected
  handed_does : (collected : LinesHeld) (count : ℕ) (buffer filled : List ℕ) (new : LinesHeld) → (length buffer < count) ⊎ (count ≤ length buffer)
      → HandsOutIfFits collected count buffer filled new → count ≤ length collected.bytes
      → (handed : List ℕ) × (filled ≡ handed ++ drop (length handed) buffer) × (handed ++ new.bytes ≡ collected.bytes)
  handed_does collected count buffer filled new (inl too_long) hands within =
      let stays = hands.too_long too_long in ([], stays.0, ap (λ (l : LinesHeld). l.bytes) stays.1)
  handed_does collected count buffer filled new (inr fits) hands within =
      let out = hands.fits fits in
      let handed = take count collected.bytes in (
        handed,
        out.filled_is ∙ ap (λ (n : ℕ). handed ++ drop n buffer) (sym (length-take-le count collected.bytes within)),
        ap (λ (l : List ℕ). handed ++ l) out.bytes ∙ take-append-drop count collected.bytes,
      )

  drains_do : (old new : PipelineState P S G) (buffer filled : List ℕ) (count : ℕ) → Drains calls old buffer count filled new
      → (handed : List ℕ) × (filled ≡ handed ++ drop (length handed) buffer) × DoesTo calls (drained handed) old.flow new.flow
  drains_do old new buffer filled count drains =
      let collected = drains.collected in
      let flow = ap (λ (p : PipelineState P S G). p.flow) drains.rest in
      let does = collected_does old collected drains.collects in
      let (handed, into, left) = handed_does collected.flow.lines count buffer filled new.flow.lines (cases_lt (length buffer) count) drains.hands drains.within in
      let kept = otlp_lines collected.flow.resource (batches_of_first calls.keeps collected.flow.provider.processors) in (
        handed,
        into,
        record {
          provider = subst (λ (p : ProviderState P S G). (p ≡ old.flow.provider) ⊎ TakesShown calls.processor calls.queues calls.keeps old.flow.provider p) (sym (ap (λ (f : Flow P S G). f.provider) flow)) does.0;
          resource = ap (λ (f : Flow P S G). f.resource) flow ∙ does.2;
          lines = ap (λ (f : Flow P S G). handed ++ (new.flow.lines.bytes ++ otlp_lines f.resource (batches_of_first calls.keeps f.provider.processors))) flow
              ∙ sym (append_assoc handed new.flow.lines.bytes kept) ∙ ap (λ (l : List ℕ). l ++ kept) left ∙ does.1;
        },
      )

  pub calls_do : CallsDo calls
  calls_do = record {
    starts = λ old new request key h e. record { provider = inl (h.history, h.starts); resource = keeps_resource old new e; lines = keeps_lines old new e };
    refuses = λ old new h. refuses_do old new (ap (λ (p : PipelineState P S G). p.flow) h.rest) h.provider;
    edits = λ old new key edits h. record {
      provider = ap (λ (p : PipelineState P S G). p.flow.provider) h.rest;
      resource = ap (λ (p : PipelineState P S G). p.flow.resource) h.rest;
      lines = ap (λ (p : PipelineState P S G). p.flow.lines) h.rest;
    };
    ends = λ old new key moment h. (
      h.found,
      h.refused,
      h.closes.was_there,
      record {
        provider = (refl, h.ends);
        resource = ap (λ (p : PipelineState P S G). p.flow.resource) h.rest;
        lines = ap (λ (p : PipelineState P S G). p.flow.lines) h.rest;
      },
    );
    answers = answers_do;
    drains = drains_do;
  }

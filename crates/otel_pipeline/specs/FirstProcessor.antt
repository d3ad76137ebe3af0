-- The first processor of a provider, whose exporter may keep its batches until they are taken.
use Rattle.std.specs.Prelude.{◌≡◌, ℕ, List, [], ◌∷◌, slice_get}
use Rattle.std.specs.Option.{option_map_or}
use Rattle.otel_export.specs.PlainSpanData.{PlainSpanData}
use Rattle.otel_export.specs.StoredBatches.{StoredBatches, none_stored}
use Rattle.otel_pipeline.specs.ProcessorKeeps.{TakesBatches}
use Rattle.otel_pipeline.specs.Provider.{ProviderState}
use Rattle.otel_pipeline.specs.declared.trace.span_processor.SpanProcessor.{Ghosts}
use Rattle.otel_pipeline.specs.declared.trace.counts_left_spans.CountsLeftSpans as leaving
use Rattle.otel_pipeline.specs.declared.trace.keeps_batches.KeepsBatches as keeping

-- what the first of these processors has stored: the batches that it keeps, those that were taken, and how many it lost
-- when memory ran out
abbrev pub stored_of_first : {P : Type 0} → keeping.Ghosts P → List P → StoredBatches
stored_of_first keeps processors = option_map_or keeps.stored (slice_get processors 0) none_stored

abbrev pub batches_of_first : {P : Type 0} → keeping.Ghosts P → List P → List (List PlainSpanData)
batches_of_first keeps processors = (stored_of_first keeps processors).batches

abbrev pub losses_of_first : {P : Type 0} → keeping.Ghosts P → List P → ℕ
losses_of_first keeps processors = (stored_of_first keeps processors).lost

module _ {P : Type 0} (calls : Ghosts P) (queues : leaving.Ghosts P) (keeps : keeping.Ghosts P) where
  -- the first of these processors has its batches taken, and the others stay
  abbrev pub TakesFirst : List P → List P → Type 0
  TakesFirst [] qs = qs ≡ []
  TakesFirst (p ∷ ps) [] = ⊥
  TakesFirst (p ∷ ps) (q ∷ qs) = TakesBatches calls queues keeps.stored p q × keeps.take_gives p q × (qs ≡ ps)

  -- a provider whose first processor has its batches taken is otherwise as it was
  pub record TakesShown {S G : Type 0} (old new : ProviderState P S G) : Type 0 where
    pub first : TakesFirst old.processors new.processors
    pub rest : new ≡ record old { processors = new.processors }

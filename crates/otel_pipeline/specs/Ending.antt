-- What the end of a span delivers, and to whom.
use Rattle.std.specs.Prelude.{◌≡◌, ◌≤◌, ◌⊎◌, ℕ, Bool, true, false, List, [], ◌∷◌, length, Option, Some, None, Result}
use Rattle.std.specs.Prelude.{IsNone, IsTrue}
use Rattle.std.specs.declared.alloc.AllocError.{AllocError}
use Rattle.otel_export.specs.PlainSpanData.{PlainSpanData}
use Rattle.otel_pipeline.specs.SpanHistory.{PlainSpan, ended_at}
use Rattle.otel_pipeline.specs.Provider.{ProviderState}
use Rattle.otel_pipeline.specs.ProcessorTelling.{TakesSpan}
use Rattle.otel_pipeline.specs.Deliveries.{Delivery}
use Rattle.otel_pipeline.specs.Each.{AsksAll}
use Rattle.otel_pipeline.specs.declared.trace.span_processor.SpanProcessor.{Ghosts}

module _ {P : Type 0} (calls : Ghosts P) where
  -- a processor that was given a span answers as its call can, and tells it
  pub record TakesAndTells (span : PlainSpanData) (old : P) (answer : Result (Unit {0}) AllocError)
      (new : P) : Type 0 where
    pub gives : calls.end_gives old span answer new
    pub told : TakesSpan (calls.told old) span answer (calls.told new)

  -- what an end does to the processors of a provider: nothing where it is shut; else each is given the data, and n
  -- refuse it
  abbrev pub Delivers : Bool → PlainSpanData → List P → List P → ℕ → Type 0
  Delivers true span ps qs n = (qs ≡ ps) × (n ≡ 0)
  Delivers false span ps qs n = AsksAll (TakesAndTells span) ps qs n

  -- the same of a span that may not be recording
  abbrev pub DeliversIf : Bool → ℕ → Option PlainSpanData → List P → List P → ℕ → Type 0
  DeliversIf shut moment None ps qs n = (qs ≡ ps) × (n ≡ 0)
  DeliversIf shut moment (Some recorded) ps qs n = Delivers shut (ended_at moment recorded) ps qs n

  -- what the end of a span at a moment does to its provider: so many processors refuse what it delivers, and all but the
  -- processors stays
  pub record Ends {S G : Type 0} (old : ProviderState P S G) (span : PlainSpan) (moment refused : ℕ)
      (new : ProviderState P S G) : Type 0 where
    pub delivers : DeliversIf old.is_shut moment span.recorded old.processors new.processors refused
    pub rest : new ≡ record old { processors = new.processors }

-- an end that needs no memory: of a span that does not record, at a shut provider, or at one processor at most
abbrev pub EndIsInfallible : {P S G : Type 0} → PlainSpan → ProviderState P S G → Type 0
EndIsInfallible span provider =
    IsNone span.recorded ⊎ (IsTrue provider.is_shut ⊎ (length provider.processors ≤ 1))

-- the deliveries of an end that has this data: none at a shut provider
abbrev pub end_delivers : Bool → PlainSpanData → ℕ → List Delivery
end_delivers true span refused = []
end_delivers false span refused = record { span = span; refused = refused } ∷ []

-- the same of a span that may not be recording
abbrev pub deliveries : Bool → ℕ → Option PlainSpanData → ℕ → List Delivery
deliveries shut moment None n = []
deliveries shut moment (Some recorded) n = end_delivers shut (ended_at moment recorded) n

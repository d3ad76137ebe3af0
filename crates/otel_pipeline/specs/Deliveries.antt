-- What is delivered to the processors of a provider, and what of it each tells.
use Rattle.std.specs.Prelude.{◌≡◌, ℕ, ◌+◌, ◌<◌, ◌⊎◌, List, [], ◌∷◌, ◌++◌, map, Bool, true, false, IsTrue, IsFalse}
use Rattle.std.specs.List.{AllZip}
use Rattle.otel_export.specs.PlainSpanData.{PlainSpanData, is_sampled}
use Rattle.otel_export.specs.Telling.{Tells}
use Rattle.otel_pipeline.specs.ProcessorTelling.{ProcessorTelling, CountsUp}
use Rattle.otel_pipeline.specs.declared.trace.span_processor.SpanProcessor.{Ghosts}

-- what an end delivers to each processor, and how many of them refused it
pub record Delivery : Type 0 where
  pub span : PlainSpanData
  pub refused : ℕ

-- the spans of a list of deliveries
abbrev pub spans_of : List Delivery → List PlainSpanData
spans_of deliveries = map (λ delivery. delivery.span) deliveries

-- one delivery in front of others, of which `Others` says what reaches a processor: a sampled span reaches it, or it
-- counts as missed, or the processor refused it, which one that takes all does not
abbrev pub ReachesFirst : (is_sampled takes_all : Bool) → Delivery → (List PlainSpanData → ℕ → Type 0)
    → List PlainSpanData → ℕ → Type 0
ReachesFirst true takes_all delivery Others reached missed =
    ((rest : List PlainSpanData) × (reached ≡ delivery.span ∷ rest) × Others rest missed)
    ⊎ ((IsFalse takes_all × (0 < delivery.refused) × Others reached missed)
    ⊎ ((fewer : ℕ) × (missed ≡ fewer + 1) × Others reached fewer))
ReachesFirst false takes_all delivery Others reached missed = Others reached missed

-- the spans that reach an open processor of a list of deliveries, and how many it missed at a full queue: the sampled
-- ones, each once and in order, but for missed ones and, where it does not take all, those that it refused
abbrev pub Reaches : (takes_all : Bool) → List Delivery → List PlainSpanData → ℕ → Type 0
Reaches takes_all [] reached missed = (reached ≡ []) × (missed ≡ 0)
Reaches takes_all (delivery ∷ deliveries) reached missed =
    ReachesFirst (is_sampled delivery.span) takes_all delivery (Reaches takes_all deliveries) reached missed

-- an open processor before and after deliveries: what reached it is heard, and what it missed counts as dropped
pub record Hears (before : ProcessorTelling) (deliveries : List Delivery) (after : ProcessorTelling) : Type 0 where
  pub reached : List PlainSpanData
  pub missed : ℕ
  pub reaches : Reaches before.takes_all deliveries reached missed
  pub heard : Tells before.heard reached after.heard
  pub dropped : CountsUp before.dropped missed after.dropped
  pub takes_all : after.takes_all ≡ before.takes_all

-- a processor before and after deliveries. It tells their spans. It was open for the first of them, which it hears, and
-- shut for the others, of which it hears nothing
pub record Follows (before : ProcessorTelling) (deliveries : List Delivery) (after : ProcessorTelling) : Type 0 where
  pub spans : Tells before.spans (spans_of deliveries) after.spans
  pub while_open : List Delivery
  pub while_shut : List Delivery
  pub whole : deliveries ≡ while_open ++ while_shut
  pub still_open : IsTrue after.is_open → while_shut ≡ []
  pub was_shut : IsFalse before.is_open → while_open ≡ []
  pub hears : Hears before while_open after
  pub never_reopens : IsTrue after.is_open → IsTrue before.is_open

-- each processor was given the same deliveries
abbrev pub EachFollows : {P : Type 0} → Ghosts P → List Delivery → List P → List P → Type 0
EachFollows calls deliveries ps qs = AllZip (λ p q. Follows (calls.told p) deliveries (calls.told q)) ps qs

-- each processor that was open before them hears all of these deliveries
abbrev pub EachOpenHears : {P : Type 0} → Ghosts P → List Delivery → List P → List P → Type 0
EachOpenHears calls deliveries ps qs =
    AllZip (λ p q. IsTrue (calls.told p).is_open → Hears (calls.told p) deliveries (calls.told q)) ps qs

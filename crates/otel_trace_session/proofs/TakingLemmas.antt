-- To take the batches of the first processor changes nothing that a processor tells or counts, nor who is open.
use Rattle.std.proofs.Common.{◌≡◌, ◌∙◌, ◌++◌, suc, List, [], ◌∷◌, ℕ, All, map, append-nil, inl, inr, refl, sum_by, sym, ap, subst, arith}
use Rattle.std.proofs.lemmas.List.Elements.{All-cons}
use Rattle.std.proofs.lemmas.List.Sums.{sum_by-cons}
use Rattle.otel_export.specs.PlainSpanData.{PlainSpanData}
use Rattle.otel_export.specs.StoredBatches.{StoredBatches, all_taken}
use Rattle.otel_pipeline.specs.Deliveries.{Delivery, EachFollows, EachOpenHears}
use Rattle.otel_pipeline.specs.ProcessorKeeps.{TakesBatches}
use Rattle.otel_pipeline.specs.Provider.{ProviderState}
use Rattle.otel_pipeline.specs.declared.trace.span_processor.SpanProcessor.{Ghosts}
use Rattle.otel_pipeline.proofs.FirstKeeps.{taken_all, taken_told}
use Rattle.otel_pipeline.proofs.Following.{EachFollows-append, EachFollows-same, hears_no_delivery, hears_on, stays_same}
use Rattle.otel_trace_session.specs.Calls.{Calls, stored_of_first}
use Rattle.otel_trace_session.specs.Taking.{TakesFirst, TakesKept}
use Rattle.otel_trace_session.specs.Turn.{Course}
use Rattle.otel_trace_session.specs.Turns.{Replied}

-- none waits at any processor
abbrev pub NoneWaits : {P : Type 0} → Ghosts P → List P → Type 0
NoneWaits calls processors = All (λ p. (calls.told p).waiting ≡ 0) processors

-- where none is kept, all that is stored was taken
none_kept : (stored : StoredBatches) → stored.batches ≡ [] → stored ≡ all_taken stored
none_kept stored none =
    let taken = stored.taken in
    let whole : taken ≡ taken ++ stored.batches = sym (append-nil taken) ∙ ap (λ (l : List (List PlainSpanData)). taken ++ l) (sym none) in
    ap (λ (l : List (List PlainSpanData)). record stored { taken = l }) whole
    ∙ ap (λ (l : List (List PlainSpanData)). record stored { taken = taken ++ stored.batches; batches = l }) none

module _ {P S G : Type 0} (calls : Calls P S G) where
  abbrev Takes : List P → List P → Type 0
  Takes ps qs = TakesFirst calls.processor calls.queues calls.keeps ps qs

  taken_empty : (ps qs : List P) → Takes ps qs → NoneWaits calls.processor ps → NoneWaits calls.processor qs
  taken_empty [] qs h none = subst (NoneWaits calls.processor) (sym h) none
  taken_empty (p ∷ ps) [] h none = absurd h
  taken_empty (p ∷ ps) (q ∷ qs) h none =
      subst (λ (l : List P). NoneWaits calls.processor (q ∷ l)) (sym h.2)
      (All-cons (λ x. (calls.processor.told x).waiting ≡ 0) q ps (ap (λ t. t.waiting) h.0.told ∙ none 0 p (omega arith))
      (λ k d within. none (suc k) d (omega (arith, within))))

  -- as many are counted
  taken_counts : (count : P → ℕ) → ((p q : P) → TakesBatches calls.processor calls.queues calls.keeps.stored p q → count q ≡ count p) → (ps qs : List P) → Takes ps qs → sum_by count qs ≡ sum_by count ps
  taken_counts count same [] qs h = ap (sum_by count) h
  taken_counts count same (p ∷ ps) [] h = absurd h
  taken_counts count same (p ∷ ps) (q ∷ qs) h =
      let one = same p q h.0 in
      rw (sum_by-cons count q qs, sum_by-cons count p ps, one, h.2) refl

  -- what is so of the processors where none is kept, and where the batches are taken
  kept_counts : (count : P → ℕ) → ((p q : P) → TakesBatches calls.processor calls.queues calls.keeps.stored p q → count q ≡ count p) → (old new : ProviderState P S G) → TakesKept calls old new
      → sum_by count new.processors ≡ sum_by count old.processors
  kept_counts count same old new (inl takes) = taken_counts count same old.processors new.processors takes.first
  kept_counts count same old new (inr (none, rests)) = ap (λ (p : ProviderState P S G). sum_by count p.processors) rests

  pub kept_open : (old new : ProviderState P S G) → TakesKept calls old new → sum_by calls.queues.open_over new.processors ≡ sum_by calls.queues.open_over old.processors
  kept_open = kept_counts calls.queues.open_over (λ p q h. h.open_over)

  pub kept_dropped : (old new : ProviderState P S G) → TakesKept calls old new → sum_by calls.queues.dropped_over new.processors ≡ sum_by calls.queues.dropped_over old.processors
  kept_dropped = kept_counts calls.queues.dropped_over (λ p q h. h.dropped_over)

  -- all that is stored was taken then
  pub kept_taken : (old new : ProviderState P S G) → TakesKept calls old new → stored_of_first calls.keeps new.processors ≡ all_taken (stored_of_first calls.keeps old.processors)
  kept_taken old new (inl takes) = taken_all calls old.processors new.processors takes.first
  kept_taken old new (inr (none, rests)) =
      ap (λ (p : ProviderState P S G). stored_of_first calls.keeps p.processors) rests ∙ none_kept (stored_of_first calls.keeps old.processors) none

  kept_told : (old new : ProviderState P S G) → TakesKept calls old new → map calls.processor.told new.processors ≡ map calls.processor.told old.processors
  kept_told old new (inl takes) = taken_told calls old.processors new.processors takes.first
  kept_told old new (inr (none, rests)) = ap (λ (p : ProviderState P S G). map calls.processor.told p.processors) rests

  kept_empty : (old new : ProviderState P S G) → TakesKept calls old new → NoneWaits calls.processor old.processors → NoneWaits calls.processor new.processors
  kept_empty old new (inl takes) = taken_empty old.processors new.processors takes.first
  kept_empty old new (inr (none, rests)) = subst (λ (p : ProviderState P S G). NoneWaits calls.processor p.processors) (sym rests)

  pub kept_shut : (old new : ProviderState P S G) → TakesKept calls old new → new.is_shut ≡ old.is_shut
  kept_shut old new (inl takes) = ap (λ (p : ProviderState P S G). p.is_shut) takes.rest
  kept_shut old new (inr (none, rests)) = ap (λ (p : ProviderState P S G). p.is_shut) rests

  kept_sampler : (old new : ProviderState P S G) → TakesKept calls old new → new.sampler ≡ old.sampler
  kept_sampler old new (inl takes) = ap (λ (p : ProviderState P S G). p.sampler) takes.rest
  kept_sampler old new (inr (none, rests)) = ap (λ (p : ProviderState P S G). p.sampler) rests

  module _ (course next : Course P S G) (replied : Replied calls course next) where
    pub replied_told : map calls.processor.told next.provider.processors ≡ map calls.processor.told course.provider.processors
    replied_told = kept_told course.provider next.provider replied.takes

    pub replied_empty : NoneWaits calls.processor course.provider.processors → NoneWaits calls.processor next.provider.processors
    replied_empty = kept_empty course.provider next.provider replied.takes

    pub replied_shut : next.provider.is_shut ≡ course.provider.is_shut
    replied_shut = kept_shut course.provider next.provider replied.takes

    pub replied_sampler : next.provider.sampler ≡ course.provider.sampler
    replied_sampler = kept_sampler course.provider next.provider replied.takes

    pub replied_follows : (ds : List Delivery) (qs : List P) → EachFollows calls.processor ds next.provider.processors qs → EachFollows calls.processor ds course.provider.processors qs
    replied_follows ds qs h =
        EachFollows-append calls.processor [] ds course.provider.processors next.provider.processors qs
        (EachFollows-same calls.processor course.provider.processors next.provider.processors replied_told) h

    pub replied_hears : (ds : List Delivery) (qs : List P) → EachOpenHears calls.processor ds next.provider.processors qs → EachOpenHears calls.processor ds course.provider.processors qs
    replied_hears ds qs h =
        hears_on calls.processor [] ds course.provider.processors next.provider.processors qs
        (hears_no_delivery calls.processor course.provider.processors next.provider.processors (EachFollows-same calls.processor course.provider.processors next.provider.processors replied_told))
        (stays_same calls.processor course.provider.processors next.provider.processors replied_told) h

-- What follows of an end.
use Rattle.std.proofs.Common.{◌≡◌, ℕ, Bool, List, [], Option, Some, None, IsNone, ◌∙◌, ap, refl, subst}
use Rattle.otel_export.specs.PlainSpanData.{PlainSpanData}
use Rattle.otel_pipeline.specs.Deliveries.{EachFollows}
use Rattle.otel_pipeline.specs.Ending.{Delivers, DeliversIf, Ends, deliveries}
use Rattle.otel_pipeline.specs.Provider.{ProviderState}
use Rattle.otel_pipeline.specs.SpanHistory.{PlainSpan, SpanStart, Edit, after, data_of, recording}
use Rattle.otel_pipeline.specs.declared.trace.span_processor.SpanProcessor.{Ghosts}
use Rattle.otel_pipeline.proofs.Following.{delivered_follows}
use Rattle.otel_pipeline.proofs.SpanLaws.{recorded_is}

module _ {P : Type 0} (calls : Ghosts P) where
  -- where nothing was recorded, the processors stay
  delivers_none : (shut : Bool) (moment : ℕ) (recorded : Option PlainSpanData) (ps qs : List P) (n : ℕ) → DeliversIf calls shut moment recorded ps qs n → IsNone recorded → qs ≡ ps
  delivers_none shut moment None ps qs n delivers none = delivers.0
  delivers_none shut moment (Some recorded) ps qs n delivers none = cc

module _ {P S G : Type 0} (calls : Ghosts P) where
  -- each processor follows what an end delivers
  pub ends_followed : (old new : ProviderState P S G) (span : PlainSpan) (moment refused : ℕ) → Ends calls old span moment refused new
      → EachFollows calls (deliveries old.is_shut moment span.recorded refused) old.processors new.processors
  ends_followed old new span moment refused ends = delivered_follows calls old.is_shut moment span.recorded old.processors new.processors refused ends.delivers

  -- where a span is what its start and its edits made, its end delivers the data of that history
  pub ends_whole : (old new : ProviderState P S G) (span : PlainSpan) (moment refused : ℕ) (start : SpanStart) (edits : List Edit) → Ends calls old span moment refused new
      → span ≡ after edits (recording start []) → Delivers calls old.is_shut (data_of start edits moment) old.processors new.processors refused
  ends_whole old new span moment refused start edits ends is =
      subst (λ (recorded : Option PlainSpanData). DeliversIf calls old.is_shut moment recorded old.processors new.processors refused) (recorded_is span start edits span.recorded refl is) ends.delivers

  -- where nothing was recorded, the provider stays
  pub ends_unasked : (old new : ProviderState P S G) (span : PlainSpan) (moment refused : ℕ) → Ends calls old span moment refused new → IsNone span.recorded → new ≡ old
  ends_unasked old new span moment refused ends none =
      ends.rest ∙ ap (λ (ps : List P). record old { processors = ps }) (delivers_none calls old.is_shut moment span.recorded old.processors new.processors refused ends.delivers none)

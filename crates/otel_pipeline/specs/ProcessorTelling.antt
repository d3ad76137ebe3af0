-- What a processor says that it was given, and what reached its exporter or waits in front of it.
use Rattle.std.specs.Prelude.{◌≡◌, ℕ, ◌+◌, ◌-◌, ◌^◌, ◌&&◌, ◌<◌, ◌≤◌, ◌⊎◌, Bool, true, false, List, [], ◌∷◌, Option}
use Rattle.std.specs.Prelude.{Some, None, Result, Ok, Err, IsOk, IsTrue}
use Rattle.otel_export.specs.PlainSpanData.{PlainSpanData, is_sampled, spans_in}
use Rattle.otel_export.specs.Telling.{Tells}

-- the spans that a processor tells itself; the spans that its exporter heard, followed by those that wait in front of
-- it, or nothing; how many spans wait there; how many found the queue full; whether it takes every span that is handed
-- to it, with no answer that refuses one; and whether it still takes spans to export
pub record ProcessorTelling : Type 0 where
  pub spans : Option (List PlainSpanData)
  pub heard : Option (List PlainSpanData)
  pub waiting : ℕ
  pub dropped : ℕ
  pub takes_all : Bool
  pub is_open : Bool

-- a processor that tells nothing
abbrev pub silent : ProcessorTelling
silent = record { spans = None; heard = None; waiting = 0; dropped = 0; takes_all = false; is_open = false }

-- a processor tells that no span waits in front of its exporter. One that is silent tells so whatever it holds
abbrev pub TellsNoneWaiting : ProcessorTelling → Type 0
TellsNoneWaiting telling = telling.waiting ≡ 0

-- the spans of the batches that an exporter tells
abbrev pub spans_told : Option (List (List PlainSpanData)) → Option (List PlainSpanData)
spans_told None = None
spans_told (Some batches) = Some (spans_in batches)

-- a count before and after so many more; it stops at the greatest u64
pub record CountsUp (before more after : ℕ) : Type 0 where
  pub no_fewer : before ≤ after
  pub no_more : after ≤ before + more
  pub exact : after < 2 ^ 64 - 1 → after ≡ before + more
  pub stops : before < 2 ^ 64 → after < 2 ^ 64

-- no span was heard, and none was dropped
pub record HearsNothing (before after : ProcessorTelling) : Type 0 where
  pub heard : after.heard ≡ before.heard
  pub dropped : after.dropped ≡ before.dropped

-- one span was heard, or waits to be
pub record HearsOne (before : ProcessorTelling) (span : PlainSpanData) (after : ProcessorTelling) : Type 0 where
  pub heard : Tells before.heard (span ∷ []) after.heard
  pub dropped : after.dropped ≡ before.dropped

-- one span found the queue full
pub record DropsOne (before after : ProcessorTelling) : Type 0 where
  pub heard : after.heard ≡ before.heard
  pub dropped : CountsUp before.dropped 1 after.dropped

-- a span that is due, as told here, was handed to a processor: it was heard or dropped, unless the answer refused it
abbrev pub HandsOver : {T E : Type 0} → Bool → ProcessorTelling → PlainSpanData → Result T E → ProcessorTelling → Type 0
HandsOver true before span (Ok _) after = HearsOne before span after ⊎ DropsOne before after
HandsOver true before span (Err _) after = HearsNothing before after
HandsOver false before span answer after = HearsNothing before after

-- an ended span was given to a processor: it is due where it is sampled and the processor open, and one that takes all
-- does not refuse it
pub record TakesSpan {T E : Type 0} (before : ProcessorTelling) (span : PlainSpanData) (answer : Result T E)
    (after : ProcessorTelling) : Type 0 where
  pub spans : Tells before.spans (span ∷ []) after.spans
  pub handed : HandsOver (before.is_open && is_sampled span) before span answer after
  pub not_refused : IsTrue before.takes_all → IsOk answer
  pub takes_all : after.takes_all ≡ before.takes_all
  pub is_open : after.is_open ≡ before.is_open

-- a processor was asked to flush or to shut down: no span is told anew, a telling may end, and an open one may close
pub record TakesNothing (before after : ProcessorTelling) : Type 0 where
  pub spans : after.spans ≡ before.spans
  pub heard : Tells before.heard [] after.heard
  pub dropped : after.dropped ≡ before.dropped
  pub takes_all : after.takes_all ≡ before.takes_all
  pub never_reopens : IsTrue after.is_open → IsTrue before.is_open

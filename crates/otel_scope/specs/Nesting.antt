-- Spans that work made in spans, and when each of them was.
use Rattle.std.specs.Prelude.{◌≡◌, ◌⊎◌, ◌≤◌, ℕ, Bool, Option, Some, None}
use Rattle.opentelemetry.specs.PlainSpanBuilder.{PlainSpanBuilder}
use Rattle.otel_sampling.specs.declared.trace.sampler.ShouldSample as sampling
use Rattle.otel_sampling.specs.declared.trace.id_generator.GivesIds as drawing
use Rattle.otel_pipeline.specs.SpanHistory.{PlainSpan}
use Rattle.otel_pipeline.specs.declared.trace.span_processor.SpanProcessor.{Ghosts}
use Rattle.otel_scope.specs.Currents.{settled}
use Rattle.otel_scope.specs.Tracings.{Ends, Enters, Leaves, Starts}
use Rattle.otel_scope.specs.declared.current.Current.{Current}
use Rattle.otel_scope.specs.declared.tracing.Tracing.{Tracing}

-- a clock that does not go back: a reading tells a moment that is not before the last one, and is then the last one
pub record GoesForward {C : Type 0} (tells : C → ℕ → C → Type 0) (last : C → ℕ) : Type 0 where
  pub goes : (old : C) (moment : ℕ) (new : C) → tells old moment new → (last old ≤ moment) × (last new ≡ moment)

-- the spans that work made one after the other: of each when it started and ended, and those that the work in it made
pub data SpansMade : Type 0 where
  none : SpansMade
  made : ℕ → ℕ → SpansMade → SpansMade → SpansMade

-- each lies within these moments and does not end before it starts, and those in it lie within its own
abbrev pub LieWithin : ℕ → ℕ → SpansMade → Type 0
LieWithin from to none = Unit {0}
LieWithin from to (made start end inner more) =
    (from ≤ start) × (start ≤ end) × (end ≤ to) × LieWithin start end inner × LieWithin from to more

module _ {P S G C T : Type 0} (calls : Ghosts P) (sampler : sampling.Ghosts S) (ids : drawing.Ghosts G)
    (tells : C → ℕ → C → Type 0) where
  -- a span that was given no moment of its own starts at this one, which the clock tells, and becomes current
  pub record StartsAt (start : ℕ) (old new : Tracing P S G C T) : Type 0 where
    pub begun : PlainSpanBuilder
    pub is_now : begun.start_time ≡ None
    pub starts : Starts calls sampler ids tells old begun new
    pub told : starts.answers.0 ≡ start

  -- the span that is current ends at this moment, which the clock tells
  pub record EndsAt (end : ℕ) (old new : Tracing P S G C T) : Type 0 where
    pub span : PlainSpan
    pub is_current : old.current.span ≡ Some span
    pub outer : Current
    pub failed : Bool
    pub ends : Ends calls tells old (settled failed span) outer new
    pub told : ends.end ≡ end

  module _ (last : C → ℕ) where
    -- some time goes by, a span starts, the work in it is done, and it ends; then other work is done
    pub record MakesOne (start end : ℕ) (inner more : Tracing P S G C T → Tracing P S G C T → Type 0)
        (old new : Tracing P S G C T) : Type 0 where
      pub before : Tracing P S G C T
      pub waits : last old.clock ≤ last before.clock
      pub entered : Tracing P S G C T
      pub starts : StartsAt start before entered
      pub left : Tracing P S G C T
      pub works : inner entered left
      pub after : Tracing P S G C T
      pub ends : EndsAt end left after
      pub goes_on : more after new

    -- work makes these spans, each by a start and an end at the scope, and whatever else it does leaves no earlier
    -- moment
    abbrev pub Makes : SpansMade → Tracing P S G C T → Tracing P S G C T → Type 0
    Makes none old new = last old.clock ≤ last new.clock
    Makes (made start end inner more) old new = MakesOne start end (Makes inner) (Makes more) old new

    -- a start of a span that was given no moment of its own was asked for, then work made these spans, and what was
    -- then current ended
    pub record WorksAround (within : SpansMade) (old new : Tracing P S G C T) : Type 0 where
      pub asked : Option PlainSpanBuilder
      pub is_now : (builder : PlainSpanBuilder) → asked ≡ Some builder → builder.start_time ≡ None
      pub entered : Tracing P S G C T
      pub enters : Enters calls sampler ids tells old asked entered
      pub left : Tracing P S G C T
      pub works : Makes within entered left
      pub failed : Bool
      pub leaves : Leaves calls tells left old.current failed new

    -- a span was made, in which these were, or these alone
    abbrev pub MakesAround : SpansMade → Tracing P S G C T → Tracing P S G C T → Type 0
    MakesAround within old new =
        ((start end : ℕ) × Makes (made start end within none) old new) ⊎ Makes within old new

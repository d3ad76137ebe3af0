-- Spans that work made in spans lie within them.
use Rattle.std.proofs.Common.{◌≡◌, ℕ, ◌≤◌, Bool, Option, Some, None, Result, Ok, Err, refl, sym, ◌∙◌, ap, subst, arith, inl, inr, ◌⊎◌}
use Rattle.otel_sampling.specs.declared.trace.sampler.ShouldSample as sampling
use Rattle.otel_sampling.specs.declared.trace.id_generator.GivesIds as drawing
use Rattle.opentelemetry.specs.PlainSpanBuilder.{PlainSpanBuilder}
use Rattle.otel_pipeline.specs.SpanHistory.{PlainSpan}
use Rattle.otel_pipeline.specs.declared.trace.span_processor.SpanProcessor.{Ghosts}
use Rattle.otel_scope.specs.Tracings.{Enters, LeavesFor}
use Rattle.otel_scope.specs.declared.current.Current.{Current}
use Rattle.otel_scope.specs.Nesting.{EndsAt, GoesForward, LieWithin, Makes, MakesOne, SpansMade, StartsAt, made, none}
use Rattle.otel_scope.specs.declared.tracing.Tracing.{Tracing}

-- what lies within moments lies within moments that are farther apart
lie_wider : (spans : SpansMade) (from to earlier later : ℕ) → earlier ≤ from → to ≤ later → LieWithin from to spans
    → LieWithin earlier later spans
lie_wider none from to earlier later early late lie = tt
lie_wider (made start end inner more) from to earlier later early late lie =
    let begins : from ≤ start = lie.0 in
    let over : end ≤ to = lie.2 in
    (omega arith, lie.1, omega arith, lie.3, lie_wider more from to earlier later early late lie.4)

module _ {P S G C T : Type 0} (calls : Ghosts P) (sampler : sampling.Ghosts S) (ids : drawing.Ghosts G)
    (tells : C → ℕ → C → Type 0) (last : C → ℕ) (forward : GoesForward tells last) where
  -- a start tells the last moment
  start_is_last : (start : ℕ) (old new : Tracing P S G C T) → StartsAt calls sampler ids tells start old new
      → (last old.clock ≤ start) × (last new.clock ≡ start)
  start_is_last start old new at =
      let goes : (last old.clock ≤ at.starts.answers.0) × (last new.clock ≡ at.starts.answers.0) =
      forward.goes old.clock at.starts.answers.0 new.clock at.starts.answers.1 in
      let first : last old.clock ≤ at.starts.answers.0 = goes.0 in
      let told : at.starts.answers.0 ≡ start = at.told in
      (omega (arith, first, told), goes.1 ∙ told)

  end_is_last : (end : ℕ) (old new : Tracing P S G C T) → EndsAt calls sampler ids tells end old new
      → (last old.clock ≤ end) × (last new.clock ≡ end)
  end_is_last end old new at =
      let goes : (last old.clock ≤ at.ends.end) × (last new.clock ≡ at.ends.end) =
      forward.goes old.clock at.ends.end new.clock at.ends.told in
      let first : last old.clock ≤ at.ends.end = goes.0 in
      let told : at.ends.end ≡ end = at.told in
      (omega (arith, first, told), goes.1 ∙ told)

  -- work leaves no earlier moment
  makes_later : (spans : SpansMade) (old new : Tracing P S G C T) → Makes calls sampler ids tells last spans old new
      → last old.clock ≤ last new.clock
  makes_later none old new makes = makes
  makes_later (made start end inner more) old new makes =
      let waits : last old.clock ≤ last makes.before.clock = makes.waits in
      let starts : (last makes.before.clock ≤ start) × (last makes.entered.clock ≡ start) =
      start_is_last start makes.before makes.entered makes.starts in
      let starts_after : last makes.before.clock ≤ start = starts.0 in
      let entered : last makes.entered.clock ≡ start = starts.1 in
      let works : last makes.entered.clock ≤ last makes.left.clock =
      makes_later inner makes.entered makes.left makes.works in
      let ends : (last makes.left.clock ≤ end) × (last makes.after.clock ≡ end) =
      end_is_last end makes.left makes.after makes.ends in
      let ends_after : last makes.left.clock ≤ end = ends.0 in
      let after : last makes.after.clock ≡ end = ends.1 in
      let goes_on : last makes.after.clock ≤ last new.clock = makes_later more makes.after new makes.goes_on in
      omega (arith, waits, starts_after, entered, works, ends_after, after, goes_on)

  pub makes_within : (spans : SpansMade) (old new : Tracing P S G C T)
      → Makes calls sampler ids tells last spans old new → LieWithin (last old.clock) (last new.clock) spans
  makes_within none old new makes = tt
  makes_within (made start end inner more) old new makes =
      let waits : last old.clock ≤ last makes.before.clock = makes.waits in
      let starts : (last makes.before.clock ≤ start) × (last makes.entered.clock ≡ start) =
      start_is_last start makes.before makes.entered makes.starts in
      let starts_after : last makes.before.clock ≤ start = starts.0 in
      let entered : last makes.entered.clock ≡ start = starts.1 in
      let works : last makes.entered.clock ≤ last makes.left.clock =
      makes_later inner makes.entered makes.left makes.works in
      let ends : (last makes.left.clock ≤ end) × (last makes.after.clock ≡ end) =
      end_is_last end makes.left makes.after makes.ends in
      let ends_after : last makes.left.clock ≤ end = ends.0 in
      let after : last makes.after.clock ≡ end = ends.1 in
      let goes_on : last makes.after.clock ≤ last new.clock = makes_later more makes.after new makes.goes_on in
      let inside : LieWithin start end inner =
      lie_wider inner (last makes.entered.clock) (last makes.left.clock) start end
      (omega (arith, entered)) ends_after (makes_within inner makes.entered makes.left makes.works) in
      let others : LieWithin (last old.clock) (last new.clock) more =
      lie_wider more (last makes.after.clock) (last new.clock) (last old.clock) (last new.clock)
      (omega (arith, waits, starts_after, entered, works, ends_after, after)) (omega arith)
      (makes_within more makes.after new makes.goes_on) in (
        omega (arith, waits, starts_after),
        omega (arith, entered, works, ends_after),
        omega (arith, after, goes_on),
        inside,
        others,
      )

  -- work that begins earlier makes the same spans
  begin_earlier : (spans : SpansMade) (old entered left : Tracing P S G C T) → last old.clock ≤ last entered.clock
      → Makes calls sampler ids tells last spans entered left → Makes calls sampler ids tells last spans old left
  begin_earlier none old entered left early makes =
      let goes_on : last entered.clock ≤ last left.clock = makes in omega (arith, early, goes_on)
  begin_earlier (made start end inner more) old entered left early makes =
      let waits : last entered.clock ≤ last makes.before.clock = makes.waits in
      record {
        before = makes.before;
        waits = omega (arith, early, waits);
        entered = makes.entered;
        starts = makes.starts;
        left = makes.left;
        works = makes.works;
        after = makes.after;
        ends = makes.ends;
        goes_on = makes.goes_on;
      }

  -- so does work that ends later
  end_later : (spans : SpansMade) (old left new : Tracing P S G C T) → last left.clock ≤ last new.clock
      → Makes calls sampler ids tells last spans old left → Makes calls sampler ids tells last spans old new
  end_later none old left new late makes =
      let goes_on : last old.clock ≤ last left.clock = makes in omega (arith, late, goes_on)
  end_later (made start end inner more) old left new late makes = record {
    before = makes.before;
    waits = makes.waits;
    entered = makes.entered;
    starts = makes.starts;
    left = makes.left;
    works = makes.works;
    after = makes.after;
    ends = makes.ends;
    goes_on = end_later more makes.after left new late makes.goes_on;
  }

  -- the end of what is current leaves no earlier moment
  leave_later : (span : Option PlainSpan) (left : Tracing P S G C T) (outer : Current) (failed : Bool)
      (new : Tracing P S G C T) → LeavesFor calls tells span left outer failed new → last left.clock ≤ last new.clock
  leave_later None left outer failed new leaves =
      let same : last new.clock ≡ last left.clock = ap (λ (scope : Tracing P S G C T). last scope.clock) leaves in
      omega (arith, same)
  leave_later (Some span) left outer failed new leaves =
      let goes : (last left.clock ≤ leaves.end) × (last new.clock ≡ leaves.end) =
      forward.goes left.clock leaves.end new.clock leaves.told in
      let first : last left.clock ≤ leaves.end = goes.0 in
      let second : last new.clock ≡ leaves.end = goes.1 in
      omega (arith, first, second)

  -- a start leaves no earlier moment, whatever comes of it
  enter_later : (asked : Option PlainSpanBuilder) (old entered : Tracing P S G C T)
      → Enters calls sampler ids tells old asked entered → last old.clock ≤ last entered.clock
  enter_later None old entered loses =
      let same : last entered.clock ≡ last old.clock =
      ap (λ (scope : Tracing P S G C T). last scope.clock) loses.rest in
      omega (arith, same)
  enter_later (Some begun) old entered (inl starts) =
      let goes : (last old.clock ≤ starts.answers.0) × (last entered.clock ≡ starts.answers.0) =
      forward.goes old.clock starts.answers.0 entered.clock starts.answers.1 in
      let first : last old.clock ≤ starts.answers.0 = goes.0 in
      let second : last entered.clock ≡ starts.answers.0 = goes.1 in
      omega (arith, first, second)
  enter_later (Some begun) old entered (inr loses) =
      let goes : (last old.clock ≤ loses.draws.0) × (last entered.clock ≡ loses.draws.0) =
      forward.goes old.clock loses.draws.0 entered.clock loses.draws.1 in
      let first : last old.clock ≤ loses.draws.0 = goes.0 in
      let second : last entered.clock ≡ loses.draws.0 = goes.1 in
      omega (arith, first, second)

  -- the spans that work made between a start and an end, whatever came of these
  made_between : (within : SpansMade) (asked : Option PlainSpanBuilder) (old entered left : Tracing P S G C T)
      (span : Option PlainSpan) (outer : Current) (failed : Bool) (new : Tracing P S G C T)
      → Enters calls sampler ids tells old asked entered → Makes calls sampler ids tells last within entered left
      → LeavesFor calls tells span left outer failed new → Makes calls sampler ids tells last within old new
  made_between within asked old entered left span outer failed new enters makes leaves =
      end_later within old left new (leave_later span left outer failed new leaves)
      (begin_earlier within old entered left (enter_later asked old entered enters) makes)

  -- a span and the spans within, where one started and was current when the work had ended
  pub made_by_work : (within : SpansMade) (asked : Option PlainSpanBuilder) (old entered left : Tracing P S G C T)
      (span : Option PlainSpan) (outer : Current) (failed : Bool) (new : Tracing P S G C T)
      → ((builder : PlainSpanBuilder) → asked ≡ Some builder → builder.start_time ≡ None)
      → Enters calls sampler ids tells old asked entered → Makes calls sampler ids tells last within entered left
      → left.current.span ≡ span → LeavesFor calls tells span left outer failed new
      → ((start end : ℕ) × Makes calls sampler ids tells last (made start end within none) old new)
      ⊎ Makes calls sampler ids tells last within old new
  made_by_work within (Some begun) old entered left (Some span) outer failed new is_now (inl starts) makes is leaves =
      inl (
        starts.answers.0,
        leaves.end,
        record {
          before = old;
          waits = omega arith;
          entered = entered;
          starts = record { begun = begun; is_now = is_now begun refl; starts = starts; told = refl };
          left = left;
          works = makes;
          after = new;
          ends = record { span = span; is_current = is; outer = outer; failed = failed; ends = leaves; told = refl };
          goes_on = omega arith;
        },
      )
  made_by_work within asked old entered left span outer failed new is_now enters makes is leaves =
      inr (made_between within asked old entered left span outer failed new enters makes leaves)

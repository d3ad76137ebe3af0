-- Work in a span of a scope, and edits of the current span, whatever the scope is.
use Rattle.std.specs.Prelude.{◌≡◌, ◌⊎◌, ℕ, List, Bool, Option, Some, None, Result, Ok, IfSome, MatchBool, MatchResult, is_err}
use denote.Ref.{MutBor}
use Rattle.std.specs.Fn.{Once, FnOnceReturnsAtMut}
use Rattle.std.specs.declared.alloc.AllocError.{AllocError}
use Rattle.opentelemetry.specs.Plain.{PlainContext}
use Rattle.opentelemetry.specs.PlainSpanBuilder.{PlainSpanBuilder}
use Rattle.otel_pipeline.specs.Exceptions.{exception_event, exception_of}
use Rattle.otel_pipeline.specs.SpanHistory.{Edit, add_event}
use Rattle.otel_scope.specs.Currents.{edited_here, records_here}
use Rattle.otel_scope.specs.declared.current.Current.{Current}

-- a span of this beginning is asked for, or none, since there was no memory for what it begins with
abbrev pub AsksFor : PlainSpanBuilder → Option PlainSpanBuilder → Type 0
AsksFor begun None = Unit {0}
AsksFor begun (Some builder) = builder ≡ begun

module _ {S : Type 0} (current : S → Current) (with_current : S → Current → S) where
  -- this became current, and nothing else changed
  pub record Becomes (here : Current) (old new : S) : Type 0 where
    pub rest : new ≡ with_current old here
    pub is : current new ≡ here

  -- an edit reached the current span, or there was no memory for it and nothing happened; nothing does where the current
  -- span does not record
  abbrev pub EditsHere : Edit → S → Result (Unit {0}) AllocError → S → Type 0
  EditsHere edit old answer new = MatchBool (records_here (current old))
      (MatchResult answer (λ _. Becomes (edited_here edit (current old)) old new) (λ _. new ≡ old))
      ((answer ≡ Ok tt) × (new ≡ old))

  module _ (tells : S → ℕ → S → Type 0) where
    -- the clock was read, and an edit of that moment reached the current span
    pub record EditsAt (edit_at : ℕ → Edit) (old new : S) : Type 0 where
      pub moment : ℕ
      pub read : S
      pub told : tells old moment read
      pub edits : Becomes (edited_here (edit_at moment) (current old)) read new

    -- the same, or there was no memory for it and the clock was read at most
    abbrev pub EditsNow : (ℕ → Edit) → S → Result (Unit {0}) AllocError → S → Type 0
    EditsNow edit_at old answer new = MatchBool (records_here (current old))
        (MatchResult answer (λ _. EditsAt edit_at old new)
        (λ _. (new ≡ old) ⊎ ((moment : ℕ) × tells old moment new)))
        ((answer ≡ Ok tt) × (new ≡ old))

    -- an error was recorded at such a moment, whose message is what it shows, where that is known
    pub record RecordsAt (shown : Option (List ℕ)) (old new : S) : Type 0 where
      pub message : List ℕ
      pub is_shown : IfSome shown (λ bytes. message ≡ bytes)
      pub edits : EditsAt (λ moment. add_event (exception_event (exception_of message) moment)) old new

    -- the same, or there was no memory for it and the clock was read at most
    abbrev pub RecordsHere : Option (List ℕ) → S → Result (Unit {0}) AllocError → S → Type 0
    RecordsHere shown old answer new = MatchBool (records_here (current old))
        (MatchResult answer (λ _. RecordsAt shown old new)
        (λ _. (new ≡ old) ⊎ ((moment : ℕ) × tells old moment new)))
        ((answer ≡ Ok tt) × (new ≡ old))

module _ {S F T E : Type 0} (current : S → Current) (enters : S → Option PlainSpanBuilder → S → Type 0)
    (leaves : S → Current → Bool → S → Type 0)
    (g : Once F (MutBor S × Unit {0}) (Result T E × (MutBor S × Unit {0}))) where
  -- a start of a span was asked for, the work was done once with what came of that, and what was then current ended
  pub record Works (old : S) (asked : Option PlainSpanBuilder) (work : F) (answer : Result T E) (new : S)
      : Type 0 where
    pub entered : S
    pub left : S
    pub starts : enters old asked entered
    pub works : FnOnceReturnsAtMut g work entered answer left
    pub ends : leaves left (current old) (is_err answer) new

  -- work in a span of this beginning, which may be known to need no memory
  pub record WorksInSpan (begun : PlainSpanBuilder) (is_ready : Type 0) (old : S) (work : F) (answer : Result T E)
      (new : S) : Type 0 where
    pub asked : Option PlainSpanBuilder
    pub asks : AsksFor begun asked
    pub free : is_ready → asked ≡ Some begun
    pub works : Works old asked work answer new

  module _ (with_current : S → Current → S) where
    -- the same in another context; afterwards the current one is what it was
    pub record WorksIn (cx : PlainContext) (old : S) (asked : Option PlainSpanBuilder) (work : F)
        (answer : Result T E) (new : S) : Type 0 where
      pub placed : S
      pub places : Becomes current with_current (record (current old) { cx = cx }) old placed
      pub done : S
      pub works : Works placed asked work answer done
      pub back : new ≡ with_current done (current old)

    -- work in a span of this beginning, in the context that headers give, read in the current one
    pub record Continues (reads : PlainContext → PlainContext → Type 0) (begun : PlainSpanBuilder) (old : S)
        (work : F) (answer : Result T E) (new : S) : Type 0 where
      pub caller : PlainContext
      pub is_read : reads (current old).cx caller
      pub asked : Option PlainSpanBuilder
      pub asks : AsksFor begun asked
      pub works : WorksIn caller old asked work answer new

    -- the same, or, where there was no memory to read the headers, work for which no span is asked
    abbrev pub WorksBelow : (PlainContext → PlainContext → Type 0) → PlainSpanBuilder → S → F → Result T E → S
        → Type 0
    WorksBelow reads begun old work answer new =
        Continues reads begun old work answer new ⊎ Works old None work answer new

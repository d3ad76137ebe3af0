-- Errors that are recorded as exceptions.
use Rattle.std.proofs.Common.{◌≡◌, ◌⊎◌, ℕ, Bool, true, false, List, Option, Result, Ok, Err, IfSome, MatchBool, MatchResult}
use Rattle.std.specs.declared.alloc.AllocError.{AllocError}
use Rattle.otel_pipeline.specs.Exceptions.{exception_event, exception_of}
use Rattle.otel_pipeline.specs.SpanHistory.{add_event}
use Rattle.otel_scope.specs.Currents.{records_here}
use Rattle.otel_scope.specs.Working.{EditsAt, EditsNow, RecordsAt, RecordsHere}
use Rattle.otel_scope.specs.declared.current.Current.{Current}

module _ {S : Type 0} (current : S → Current) (with_current : S → Current → S) (tells : S → ℕ → S → Type 0)
    (shown : Option (List ℕ)) (message : List ℕ) (is_shown : IfSome shown (λ bytes. message ≡ bytes)) (old new : S)
  where
    records_if : (records : Bool) (answer : Result (Unit {0}) AllocError)
        → MatchBool records (MatchResult answer
        (λ _. EditsAt current with_current tells (λ moment. add_event (exception_event (exception_of message) moment)) old
        new) (λ _. (new ≡ old) ⊎ ((moment : ℕ) × tells old moment new))) ((answer ≡ Ok tt) × (new ≡ old))
        → MatchBool records (MatchResult answer (λ _. RecordsAt current with_current tells shown old new)
        (λ _. (new ≡ old) ⊎ ((moment : ℕ) × tells old moment new))) ((answer ≡ Ok tt) × (new ≡ old))
    records_if true (Ok _) edits = record { message = message; is_shown = is_shown; edits = edits }
    records_if true (Err _) edits = edits
    records_if false answer edits = edits

    -- an exception that has the text of an error records it
    pub records_error : (answer : Result (Unit {0}) AllocError)
        → EditsNow current with_current tells (λ moment. add_event (exception_event (exception_of message) moment)) old
        answer new
        → RecordsHere current with_current tells shown old answer new
    records_error answer edits = records_if (records_here (current old)) answer edits

-- The event by which a span records an error (OpenTelemetry semantic conventions, "Exceptions in spans").
use Rattle.std.specs.Prelude.{◌≡◌, ℕ, List, [], ◌∷◌, ◌++◌, Option, None, Some, IfSome, codes}
use Rattle.opentelemetry.specs.Plain.{PlainEvent, PlainKeyValue, text}
use Rattle.otel_pipeline.specs.SpanHistory.{PlainSpan, add_event, edited}
use Rattle.otel_pipeline.specs.SpanEdits.{new_event}

-- an error as it is recorded: what it says, and where they were handed in its type and its stack trace
pub record PlainException : Type 0 where
  pub message : List ℕ
  pub exception_type : Option (List ℕ)
  pub stacktrace : Option (List ℕ)

-- an error of which the message alone is known
abbrev pub exception_of : List ℕ → PlainException
exception_of message = record { message = message; exception_type = None; stacktrace = None }

-- the attribute of a text, where there is one
abbrev pub text_attribute : List ℕ → Option (List ℕ) → List PlainKeyValue
text_attribute key None = []
text_attribute key (Some bytes) = record { key = key; value = text bytes } ∷ []

-- the event of an error that was met at a moment
abbrev pub exception_event : PlainException → ℕ → PlainEvent
exception_event exception moment = new_event (codes "exception") moment
    (record { key = codes "exception.message"; value = text exception.message }
    ∷ (text_attribute (codes "exception.type") exception.exception_type
    ++ text_attribute (codes "exception.stacktrace") exception.stacktrace))

-- a span records an error: its message is what the error shows, where that is known
pub record RecordsError (shown : Option (List ℕ)) (moment : ℕ) (old new : PlainSpan) : Type 0 where
  pub message : List ℕ
  pub is_shown : IfSome shown (λ bytes. message ≡ bytes)
  pub recorded : new ≡ edited (add_event (exception_event (exception_of message) moment)) old

-- What becomes of a batch that was not taken, by the failure, and what an export answers.
use Rattle.std.specs.Prelude.{◌≡◌, ◌⊎◌, ◌==◌, ℕ, Bool, true, false, List, [], ◌++◌, Option, Some, None, Result, Ok, Err}
use Rattle.std.specs.Prelude.{codes, if◌then◌else◌, length, string_bytes}
use Rattle.otel_export.specs.declared.error.OTelSdkError.{OTelSdkError}
use Rattle.otel_export.specs.declared.error.OTelSdkError.TheVariants as errors
use Rattle.otel_otlp_http.specs.declared.failure.ExportFailure.{ExportFailure}
use Rattle.otel_otlp_http.specs.declared.failure.ExportFailure.TheVariants as failures

-- the batch is kept: it was not taken for now, or was never answered
abbrev pub is_kept_after : ExportFailure → Bool
is_kept_after (failures.Retryable status retry_after) = true
is_kept_after (failures.Refused status) = false
is_kept_after (failures.PartlyRejected spans) = false
is_kept_after (failures.UnreadableSuccess status) = false
is_kept_after (failures.UnreadSuccess status) = false
is_kept_after (failures.Unanswered error) = true
is_kept_after (failures.Unwritten kind) = true
is_kept_after failures.Closed = true
is_kept_after (failures.Unmade error) = true
is_kept_after failures.NoResource = true
is_kept_after failures.Lost = false

abbrev pub is_kept : Option ExportFailure → Bool
is_kept None = false
is_kept (Some failure) = is_kept_after failure

-- what stands after the text of a failure: what the other side said of it, where it said something
abbrev pub reason_text : List ℕ → List ℕ
reason_text reason = if length reason == 0 then [] else codes ": " ++ reason

-- a text ends with a reason
abbrev pub EndsWithReason : List ℕ → List ℕ → Type 0
EndsWithReason reason text = (failure : List ℕ) × (text ≡ failure ++ reason_text reason)

-- an error that names what failed, and why; where there was no memory for its text, that is empty
abbrev pub SaysReason : List ℕ → OTelSdkError → Type 0
SaysReason reason (errors.InternalFailure text) =
    (string_bytes text ≡ []) ⊎ EndsWithReason reason (string_bytes text)
SaysReason reason errors.OutOfMemory = ⊥
SaysReason reason errors.AlreadyShutdown = ⊥
SaysReason reason (errors.Timeout duration) = ⊥

-- what an export answers: a batch that is lost is named by its answer
abbrev pub IsFailureOf : ExportFailure → List ℕ → OTelSdkError → Type 0
IsFailureOf failures.Lost reason error = error ≡ errors.OutOfMemory
IsFailureOf failure reason error = SaysReason reason error

abbrev pub AnswersFor : Option ExportFailure → List ℕ → Result (Unit {0}) OTelSdkError → Type 0
AnswersFor None reason answer = answer ≡ Ok tt
AnswersFor (Some failure) reason (Ok done) = ⊥
AnswersFor (Some failure) reason (Err error) = IsFailureOf failure reason error

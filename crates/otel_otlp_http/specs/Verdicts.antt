-- What an answer says of the batch that was sent.
use Rattle.std.specs.Prelude.{◌≡◌, ◌⊎◌, ℕ, ◌/◌, ◌^◌, ◌==◌, ◌||◌, nat_lt, Bool, List, Option, Some, None}
use Rattle.std.specs.Prelude.{Result, Ok, Err, if◌then◌else◌}
use Rattle.std.specs.Bool.{MatchBool}
use Rattle.otel_http_post.specs.declared.error.AnswerError.{AnswerError}
use Rattle.otel_otlp_protobuf.specs.declared.encoding.Encoding.{Encoding}
use Rattle.otel_otlp_http.specs.declared.failure.ExportFailure.{ExportFailure}
use Rattle.otel_otlp_http.specs.declared.failure.ExportFailure.TheVariants as failures
use Rattle.otel_otlp_http.specs.Success.{NeedsMemory, Rejects}

abbrev pub is_success : ℕ → Bool
is_success status = status / 100 == 2

-- the status asks to try again later (OTLP 1.7, "Retryable Response Codes")
abbrev pub is_retryable : ℕ → Bool
is_retryable status = (status == 429) || ((status == 502) || ((status == 503) || (status == 504)))

abbrev pub unless_success : ℕ → Option ℕ → ExportFailure
unless_success status retry_after =
    if is_retryable status then failures.Retryable status retry_after else failures.Refused status

-- what a count of rejected spans says: nothing where it is 0
abbrev pub by_count : ℕ → ℕ → Option ExportFailure
by_count status spans = if spans == 0 then None else Some (failures.PartlyRejected spans)

-- the count is a signed one of 64 bits: what has more than 63 is none of a success
abbrev pub by_rejected : ℕ → Option ℕ → Option ExportFailure
by_rejected status None = Some (failures.UnreadableSuccess status)
by_rejected status (Some spans) =
    if nat_lt spans (2 ^ 63) then by_count status spans else Some (failures.UnreadableSuccess status)

-- what a success says: what its body says, or that this was not read: it was left in the stream, or it is of those that
-- take memory
abbrev pub JudgesSuccess : Encoding → ℕ → Result (List ℕ) AnswerError → Option ExportFailure → Type 0
JudgesSuccess encoding status (Ok body) failure =
    ((count : Option ℕ) × Rejects encoding body count × (failure ≡ by_rejected status count))
    ⊎ ((failure ≡ Some (failures.UnreadSuccess status)) × NeedsMemory encoding body)
JudgesSuccess encoding status (Err error) failure = failure ≡ Some (failures.UnreadSuccess status)

-- what an answer says: nothing where the batch was taken whole
abbrev pub Judges : Encoding → ℕ → Option ℕ → Result (List ℕ) AnswerError → Option ExportFailure → Type 0
Judges encoding status retry_after body failure =
    MatchBool (is_success status) (JudgesSuccess encoding status body failure)
    (failure ≡ Some (unless_success status retry_after))

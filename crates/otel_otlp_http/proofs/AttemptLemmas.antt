-- What an answer says is none of the failures to get an answer.
use Rattle.std.proofs.Common.{◌≡◌, ℕ, ◌==◌, ◌∙◌, Bool, true, false, cond, List, Option, Some, None, refl, ap, inl, inr}
use Rattle.std.specs.Prelude.{Result, Ok, Err, ◌^◌, nat_lt}
use Rattle.std.specs.Bool.{MatchBool}
use Rattle.otel_http_post.specs.declared.error.AnswerError.{AnswerError}
use Rattle.otel_otlp_protobuf.specs.declared.encoding.Encoding.{Encoding}
use Rattle.otel_otlp_http.specs.declared.failure.ExportFailure.{ExportFailure}
use Rattle.otel_otlp_http.specs.declared.failure.ExportFailure.TheVariants as failures
use Rattle.otel_otlp_http.specs.Attempts.{Connection, Exchanges, IsAnswered, Made}
use Rattle.otel_otlp_http.specs.Verdicts.{JudgesSuccess, by_rejected, is_retryable, is_success, unless_success}

-- an answer was read
abbrev is_answered : Option ExportFailure → Bool
is_answered (Some (failures.Unanswered error)) = false
is_answered (Some (failures.Unwritten kind)) = false
is_answered failure = true

unless_answered : (status : ℕ) (retry_after : Option ℕ) (again : Bool)
    → is_answered (Some (cond again (failures.Retryable status retry_after) (failures.Refused status))) ≡ true
unless_answered status retry_after true = refl
unless_answered status retry_after false = refl

count_answered : (status spans : ℕ) (is_count none : Bool)
    → is_answered (cond is_count (cond none None (Some (failures.PartlyRejected spans)))
    (Some (failures.UnreadableSuccess status))) ≡ true
count_answered status spans true true = refl
count_answered status spans true false = refl
count_answered status spans false none = refl

rejected_answered : (status : ℕ) (count : Option ℕ) → is_answered (by_rejected status count) ≡ true
rejected_answered status None = refl
rejected_answered status (Some spans) = count_answered status spans (nat_lt spans (2 ^ 63)) (spans == 0)

success_answered : (encoding : Encoding) (status : ℕ) (body : Result (List ℕ) AnswerError)
    (failure : Option ExportFailure)
    → JudgesSuccess encoding status body failure → is_answered failure ≡ true
success_answered encoding status (Ok body) failure (inl (count, says, is)) =
    ap is_answered is ∙ rejected_answered status count
success_answered encoding status (Ok body) failure (inr (is, needs)) = ap is_answered is
success_answered encoding status (Err error) failure is = ap is_answered is

by_status : (encoding : Encoding) (status : ℕ) (retry_after : Option ℕ) (body : Result (List ℕ) AnswerError)
    (failure : Option ExportFailure) (success : Bool)
    → MatchBool success (JudgesSuccess encoding status body failure)
    (failure ≡ Some (unless_success status retry_after))
    → is_answered failure ≡ true
by_status encoding status retry_after body failure true judges =
    success_answered encoding status body failure judges
by_status encoding status retry_after body failure false is =
    ap is_answered is ∙ unless_answered status retry_after (is_retryable status)

module _ {S : Type 0} (contents remaining : S → Option (List ℕ)) (made : Made) (old : S) (reason : List ℕ)
    (new : Connection S) where
  by_failure : (failure : Option ExportFailure) → is_answered failure ≡ true
      → IsAnswered contents remaining made old failure reason new
      → Exchanges contents remaining made old failure reason new
  by_failure None answered h = h
  by_failure (Some (failures.Retryable status retry_after)) answered h = h
  by_failure (Some (failures.Refused status)) answered h = h
  by_failure (Some (failures.PartlyRejected spans)) answered h = h
  by_failure (Some (failures.UnreadableSuccess status)) answered h = h
  by_failure (Some (failures.UnreadSuccess status)) answered h = h
  by_failure (Some (failures.Unanswered error)) answered h = cc
  by_failure (Some (failures.Unwritten kind)) answered h = cc
  by_failure (Some failures.Closed) answered h = h
  by_failure (Some (failures.Unmade error)) answered h = h
  by_failure (Some failures.NoResource) answered h = h
  by_failure (Some failures.Lost) answered h = h

  -- an answer that was read is an exchange
  pub answered_exchange : (failure : Option ExportFailure)
      → IsAnswered contents remaining made old failure reason new
      → Exchanges contents remaining made old failure reason new
  answered_exchange failure h =
      by_failure failure
      (by_status made.encoding h.status h.retry_after h.body failure (is_success h.status) h.judges) h

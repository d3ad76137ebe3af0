-- What the worker of a batch queue keeps of the exporter's answers in one drain.
use Rattle.std.specs.Prelude.{◌≡◌, Option, Some, None, Result, Ok, Err, [], string_bytes}
use Rattle.otel_export.specs.declared.error.OTelSdkError.{OTelSdkError}
use Rattle.otel_export.specs.declared.error.OTelSdkError.TheVariants.{AlreadyShutdown, Timeout, InternalFailure}
use Rattle.otel_export.specs.declared.error.OTelSdkError.TheVariants.{OutOfMemory}

-- a drain's result after one more answer: the first error stays
abbrev pub first_failure : (before answer : Result (Unit {0}) OTelSdkError) → Result (Unit {0}) OTelSdkError
first_failure (Ok u) answer = answer
first_failure (Err e) answer = Err e

-- the error of an answer; that of a failure is without its text
abbrev pub IsErrorOf : Result (Unit {0}) OTelSdkError → Option OTelSdkError → Type 0
IsErrorOf (Ok u) None = Unit {0}
IsErrorOf (Err AlreadyShutdown) (Some AlreadyShutdown) = Unit {0}
IsErrorOf (Err (Timeout d)) (Some (Timeout e)) = e ≡ d
IsErrorOf (Err (InternalFailure reason)) (Some (InternalFailure text)) = string_bytes text ≡ []
IsErrorOf (Err OutOfMemory) (Some OutOfMemory) = Unit {0}
IsErrorOf _ _ = ⊥

-- the drain's result after an export whose answer had this error: an error that was there before, else that answer
pub record KeepsFailure (before : Result (Unit {0}) OTelSdkError) (error : Option OTelSdkError)
    (after : Result (Unit {0}) OTelSdkError) : Type 0 where
  pub answer : Result (Unit {0}) OTelSdkError
  pub says : IsErrorOf answer error
  pub kept : after ≡ first_failure before answer

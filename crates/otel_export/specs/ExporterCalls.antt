-- What calls of several exporters have in common.
use Rattle.std.specs.Prelude.{◌≡◌, ◌⊎◌, Bool, Option, Some, None, Result, Ok, Err, if◌then◌else◌}
use Rattle.otel_resource.specs.Resource.{PlainResource}
use Rattle.otel_export.specs.declared.error.OTelSdkError.{OTelSdkError}
use Rattle.otel_export.specs.declared.error.OTelSdkError.TheVariants as errors

-- an error that names what failed
abbrev pub IsInternalFailure : OTelSdkError → Type 0
IsInternalFailure (errors.InternalFailure reason) = Unit {0}
IsInternalFailure errors.OutOfMemory = ⊥
IsInternalFailure errors.AlreadyShutdown = ⊥
IsInternalFailure (errors.Timeout duration) = ⊥

-- what a shutdown answers, by whether there was one before
abbrev pub shutdown_answer : Bool → Result (Unit {0}) OTelSdkError
shutdown_answer is_shut = if is_shut then Err errors.AlreadyShutdown else Ok tt

-- what an exporter does with a resource, where `under` is the exporter under each: the spans to come are of that
-- resource, or of none where there is no memory for it
abbrev pub TakesResource : {E : Type 0} → (Option PlainResource → E) → PlainResource → E → Type 0
TakesResource under resource new = (new ≡ under (Some resource)) ⊎ (new ≡ under None)

-- What the detectors answer, from the strings that configuration hands in (OpenTelemetry specification,
-- "SDK-provided resource attributes", and semantic conventions, "Telemetry SDK").
use Rattle.std.specs.Prelude.{◌≡◌, ℕ, List, [], ◌∷◌, ◌++◌, Option, Some, None, unwrap_or, option_and_then, codes}
use Rattle.std.specs.Option.{option_map, option_or}
use Rattle.std.specs.FinMap.{empty, get}
use Rattle.opentelemetry.specs.Plain.{PlainValue, text, PlainKeyValue}
use Rattle.otel_resource.specs.declared.resource.detector.ResourceDetector.{Ghosts}
use Rattle.otel_resource.specs.AttributesString.{IsAttributesString}
use Rattle.otel_resource.specs.Resource.{PlainResource, non_empty, attribute_of, service_named, service_name_key}
use Rattle.otel_resource.specs.Resource.{of_attributes, attributes_of, all_attributes}

-- the strings that may be handed in
pub record PlainResourceStrings : Type 0 where
  pub attributes : Option (List ℕ)
  pub service_name : Option (List ℕ)
  pub program_name : Option (List ℕ)

-- nothing is handed in
abbrev pub no_strings : PlainResourceStrings
no_strings = record { attributes = None; service_name = None; program_name = None }

-- a string that may be handed in reads as these pairs; an absent one reads as the empty text
abbrev pub ReadsAs : Option (List ℕ) → List PlainKeyValue → Type 0
ReadsAs given pairs = IsAttributesString (unwrap_or given []) pairs

-- the attributes that the string reads as
abbrev pub IsEnvResource : Option (List ℕ) → PlainResource → Type 0
IsEnvResource given resource =
    (pairs : List PlainKeyValue) × ReadsAs given pairs × (resource ≡ of_attributes (attributes_of pairs))

-- the string gives no attribute
abbrev pub GivesNoAttribute : Option (List ℕ) → Type 0
GivesNoAttribute given = ReadsAs given []

-- a detector that needs no memory, and sees no attribute
pub record SeesNothing {D : Type 0} (calls : Ghosts D) (detector : D) : Type 0 where
  pub infallible : calls.is_infallible detector
  pub nothing : (seen : PlainResource) → calls.detects detector seen → seen.attributes ≡ empty

-- the name of a service that nobody named, by its program where that is known
abbrev pub unknown_service : Option (List ℕ) → PlainValue
unknown_service None = text (codes "unknown_service")
unknown_service (Some program) = text (codes "unknown_service:" ++ program)

-- the service's own string where it is not empty; else the name that the attributes have; else an unknown service
abbrev pub name_of_service : Option (List ℕ) → Option PlainValue → Option (List ℕ) → PlainValue
name_of_service own found program =
    unwrap_or (option_or (option_map text (option_and_then non_empty own)) found) (unknown_service program)

-- the name of the service, where the attributes are those of another resource
abbrev pub name_over : PlainResourceStrings → PlainResource → PlainValue
name_over strings env =
    name_of_service strings.service_name (get env.attributes service_name_key) strings.program_name

-- the name of the service, looked for in the strings
abbrev pub IsSdkResource : PlainResourceStrings → PlainResource → Type 0
IsSdkResource strings resource =
    (env : PlainResource) × IsEnvResource strings.attributes env × (resource ≡ service_named (name_over strings env))

-- this SDK's name, language and version
abbrev pub telemetry_pairs : List PlainKeyValue
telemetry_pairs = attribute_of (codes "telemetry.sdk.name") (text (codes "opentelemetry"))
    ∷ attribute_of (codes "telemetry.sdk.language") (text (codes "rust"))
    ∷ attribute_of (codes "telemetry.sdk.version") (text (codes "0.33.0")) ∷ []

-- who made the telemetry: this SDK
abbrev pub telemetry_resource : PlainResource
telemetry_resource = of_attributes (attributes_of telemetry_pairs)

-- the service's name, this SDK, and the attributes of the string, later ones winning
abbrev pub IsDetected : PlainResourceStrings → PlainResource → Type 0
IsDetected strings resource =
    (sdk : PlainResource) × (env : PlainResource)
    × IsSdkResource strings sdk × IsEnvResource strings.attributes env
    × (resource ≡ of_attributes (all_attributes (sdk ∷ telemetry_resource ∷ env ∷ [])))

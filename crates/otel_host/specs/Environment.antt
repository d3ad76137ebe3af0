-- Which variable each string of a configuration is of (OpenTelemetry specification, "Environment Variable
-- Specification").
use Rattle.std.specs.Prelude.{◌≡◌, ℕ, List, Option, Some, String, codes, string_bytes}
use Rattle.std.specs.Option.{option_map}
use Rattle.otel_resource.specs.DetectedResource.{PlainResourceStrings}
use Rattle.otel_sampling.specs.ConfigFaults.{setting_name, string_of}
use Rattle.otel_sampling.specs.ConfigStrings.{PlainConfigStrings}
use Rattle.otel_sampling.specs.declared.trace.config.faults.Setting.{Setting}
use Rattle.otel_host.specs.declared.variables.EnvError.{EnvError}
use Rattle.otel_host.specs.declared.variables.EnvError.TheVariants as faults

-- a fault of the variable of this name, or no memory
abbrev pub IsFaultOf : List ℕ → EnvError → Type 0
IsFaultOf name (faults.NotUnicode named) = named.now ≡ name
IsFaultOf name faults.OutOfMemory = Unit {0}

module _ (Holds : List ℕ → Option (List ℕ) → Type 0) where
  -- the strings of a resource are what the variables of their names hold; the program's name is handed in
  pub record ReadsResource (program : List ℕ) (strings : PlainResourceStrings) : Type 0 where
    pub attributes : Holds (codes "OTEL_RESOURCE_ATTRIBUTES") strings.attributes
    pub service_name : Holds (codes "OTEL_SERVICE_NAME") strings.service_name
    pub program_name : strings.program_name ≡ Some program

  -- a text is what the variable of a setting's name holds
  abbrev pub IsString : Setting → {Y : Type 0} → Option (String Y) → Type 0
  IsString setting text = Holds (setting_name setting) (option_map string_bytes text)

  -- the string of each setting is what the variable of its name holds
  abbrev pub ReadsSettings : PlainConfigStrings → Type 0
  ReadsSettings strings = (setting : Setting) → Holds (setting_name setting) (string_of strings setting)

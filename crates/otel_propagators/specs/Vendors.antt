-- The propagators of vendors: what each says is what the one that it holds says, and its name in OTEL_PROPAGATORS
-- (OpenTelemetry specification, "General SDK Configuration").
use Rattle.std.specs.Prelude.{ℕ, List, [], ◌∷◌, codes, Option, None, Some, if◌then◌else◌}
use Rattle.std.specs.Str.{bytes_eq}
use Rattle.opentelemetry.specs.Carrier.{Injection}
use Rattle.otel_propagation.specs.Composite.{Extraction, Infallible}
use Rattle.otel_propagators.specs.B3Headers as b3
use Rattle.otel_propagators.specs.declared.b3.encoding.B3Encoding.TheVariants.{MultipleHeader, SingleHeader}
use Rattle.otel_propagators.specs.UberTraceId as jaeger
use Rattle.otel_propagators.specs.declared.VendorPropagator.{VendorPropagator}
use Rattle.otel_propagators.specs.declared.VendorPropagator.TheVariants as vendors

-- what it injects
abbrev pub InjectsAsVendor : VendorPropagator → Injection
InjectsAsVendor (vendors.B3 p) = b3.InjectsB3 p.encoding
InjectsAsVendor (vendors.Jaeger _) = jaeger.InjectsJaeger

-- what it extracts
abbrev pub ExtractsAsVendor : VendorPropagator → Extraction
ExtractsAsVendor (vendors.B3 _) = b3.ExtractsB3
ExtractsAsVendor (vendors.Jaeger _) = jaeger.ExtractsJaeger

-- where it needs no memory to extract
abbrev pub VendorIsInfallible : VendorPropagator → Infallible
VendorIsInfallible (vendors.B3 _) = b3.B3IsInfallible
VendorIsInfallible (vendors.Jaeger _) = jaeger.JaegerIsInfallible

-- the names of its fields
abbrev pub fields_of_vendor : VendorPropagator → List (List ℕ)
fields_of_vendor (vendors.B3 p) = b3.fields_of p.encoding
fields_of_vendor (vendors.Jaeger _) = jaeger.uber_trace_id_field ∷ []

-- the propagator of a name
abbrev pub vendor_named : List ℕ → Option VendorPropagator
vendor_named name =
    if bytes_eq name (codes "b3") then Some (vendors.B3 (record { encoding = SingleHeader }))
    else if bytes_eq name (codes "b3multi") then Some (vendors.B3 (record { encoding = MultipleHeader }))
    else if bytes_eq name (codes "jaeger") then Some (vendors.Jaeger (record {}))
    else None

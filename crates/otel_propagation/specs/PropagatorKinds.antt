-- A propagator of one of the kinds that a list may have: what it says is what the one that it holds says.
use Rattle.std.specs.Prelude.{◌≡◌, ◌⊎◌, ℕ, List, [], ◌∷◌}
use Rattle.opentelemetry.specs.Carrier.{Injection}
use Rattle.otel_propagation.specs.BaggageHeader.{baggage_field, InjectsBaggage, ExtractsBaggage, BaggageIsInfallible}
use Rattle.otel_propagation.specs.Composite.{Extraction, Infallible}
use Rattle.otel_propagation.specs.StrictBaggage.{InjectsStrictBaggage, ExtractsStrictBaggage}
use Rattle.otel_propagation.specs.Traceparent.{traceparent_field, tracestate_field}
use Rattle.otel_propagation.specs.Traceparent.{InjectsTraceContext, ExtractsTraceContext, TraceContextIsInfallible}
use Rattle.otel_propagation.specs.declared.propagation.propagator_kinds.PropagatorOf.{PropagatorOf}
use Rattle.otel_propagation.specs.declared.propagation.propagator_kinds.PropagatorOf.TheVariants as kinds

-- what it injects, where a custom one injects so
abbrev pub InjectsByKind : {C : Type 0} → (C → Injection) → PropagatorOf C → Injection
InjectsByKind custom (kinds.TraceContext _) = InjectsTraceContext
InjectsByKind custom (kinds.Baggage _) = InjectsBaggage
InjectsByKind custom (kinds.StrictBaggage _) = InjectsStrictBaggage
InjectsByKind custom (kinds.Custom c) = custom c

-- what it extracts, where a custom one extracts so
abbrev pub ExtractsByKind : {C : Type 0} → (C → Extraction) → PropagatorOf C → Extraction
ExtractsByKind custom (kinds.TraceContext _) = ExtractsTraceContext
ExtractsByKind custom (kinds.Baggage _) = ExtractsBaggage
ExtractsByKind custom (kinds.StrictBaggage _) = ExtractsStrictBaggage
ExtractsByKind custom (kinds.Custom c) = custom c

-- where it wants no memory to extract, where a custom one wants none there
abbrev pub InfallibleByKind : {C : Type 0} → (C → Infallible) → PropagatorOf C → Infallible
InfallibleByKind custom (kinds.TraceContext _) = TraceContextIsInfallible
InfallibleByKind custom (kinds.Baggage _) = BaggageIsInfallible
InfallibleByKind custom (kinds.StrictBaggage _) = BaggageIsInfallible
InfallibleByKind custom (kinds.Custom c) = custom c

-- the names of its fields, where those of a custom one are these
abbrev pub fields_by_kind : {C : Type 0} → (C → List (List ℕ)) → PropagatorOf C → List (List ℕ)
fields_by_kind custom (kinds.TraceContext _) = traceparent_field ∷ tracestate_field ∷ []
fields_by_kind custom (kinds.Baggage _) = baggage_field ∷ []
fields_by_kind custom (kinds.StrictBaggage _) = baggage_field ∷ []
fields_by_kind custom (kinds.Custom c) = custom c

-- a list has W3C's two propagators, in either order
abbrev pub AreBoth : {C : Type 0} → List (PropagatorOf C) → Type 0
AreBoth list =
    (list ≡ kinds.TraceContext (record {}) ∷ kinds.Baggage (record {}) ∷ [])
    ⊎ (list ≡ kinds.Baggage (record {}) ∷ kinds.TraceContext (record {}) ∷ [])

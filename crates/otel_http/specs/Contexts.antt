-- The context of headers as W3C has it: a span context (W3C Trace Context) and a baggage (W3C Baggage).
use Rattle.std.specs.Prelude.{Result}
use Rattle.std.specs.declared.alloc.AllocError.{AllocError}
use Rattle.opentelemetry.specs.Carrier.{Texts}
use Rattle.opentelemetry.specs.Plain.{PlainContext}
use Rattle.opentelemetry.specs.PlainContexts.{root_cx}
use Rattle.otel_propagation.specs.Composite.{ExtractsBoth, InjectsBoth}
use Rattle.otel_propagation.specs.StrictBaggage.{ExtractsStrictBaggage, InjectsStrictBaggage}
use Rattle.otel_propagation.specs.Traceparent.{ExtractsTraceContext, InjectsTraceContext}
use Rattle.otel_http.specs.Headers.{Headers, header_texts}

-- what texts say in place of a root's context
abbrev pub ExtractsContext : Texts → PlainContext → Type 0
ExtractsContext texts cx = ExtractsBoth ExtractsTraceContext ExtractsStrictBaggage root_cx texts cx

-- the context that headers carry
abbrev pub IsContextOf : Headers → PlainContext → Type 0
IsContextOf headers cx = ExtractsContext (header_texts headers) cx

-- what is written of a context into headers
abbrev pub InjectsContext : PlainContext → Headers → Result (Unit {0}) AllocError → Headers → Type 0
InjectsContext cx old result new =
    InjectsBoth InjectsTraceContext InjectsStrictBaggage cx (header_texts old) result (header_texts new)

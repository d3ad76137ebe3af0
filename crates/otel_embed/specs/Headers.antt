-- The headers that hand a span on between processes: those of its trace context, and that of the baggage.
use Rattle.std.specs.Prelude.{◌≡◌, ◌≢◌, ◌⊎◌, ◌++◌, ℕ, List, [], ◌∷◌, IsUtf8, None, Ok, Option, Some, codes}
use Rattle.opentelemetry.specs.Carrier.{IsOtherName, Texts}
use Rattle.opentelemetry.specs.Plain.{PlainContext}
use Rattle.opentelemetry.specs.PlainContexts.{root_cx}
use Rattle.otel_propagation.specs.StrictBaggage.{ExtractsStrictBaggage, InjectsStrictBaggage}
use Rattle.otel_propagation.specs.Traceparent.{ExtractsTraceContext, InjectsTraceContext}
use Rattle.otel_embed.specs.declared.host_headers.HostHeaders.{HostHeaders}

-- the context that headers say: its span context, and then its baggage, by the grammar alone
pub record ReadsContext (texts : Texts) (cx : PlainContext) : Type 0 where
  pub between : PlainContext
  pub trace : ExtractsTraceContext root_cx texts between
  pub baggage : ExtractsStrictBaggage between texts cx

-- the headers of a context are set: those of its span context, and then that of its baggage
pub record SetsContext (cx : PlainContext) (old new : Texts) : Type 0 where
  pub between : Texts
  pub trace : InjectsTraceContext cx old (Ok tt) between
  pub baggage : InjectsStrictBaggage cx between (Ok tt) new

-- what bytes say as a header: their text; nothing where they are none, or are not UTF-8
pub record SaysHeader (bytes : List ℕ) (said : Option (List ℕ)) : Type 0 where
  pub text : IsUtf8 bytes → bytes ≢ [] → said ≡ Some bytes
  pub nothing : (IsUtf8 bytes → ⊥) ⊎ (bytes ≡ []) → said ≡ None

-- a header that was not there says what its bytes say, and each other one what it said
pub record AddsHeader (name bytes : List ℕ) (old new : Texts) : Type 0 where
  pub says : old name ≡ None → SaysHeader bytes (new name)
  pub others : (other : List ℕ) → IsOtherName other name → new other ≡ old other

-- the headers that a host hands in, as bytes
pub record PlainHeaders : Type 0 where
  pub traceparent : List ℕ
  pub tracestate : List ℕ
  pub baggage : List ℕ

abbrev pub plain_headers : HostHeaders → PlainHeaders
plain_headers headers = record {
  traceparent = headers.traceparent.now;
  tracestate = headers.tracestate.now;
  baggage = headers.baggage.now;
}

-- the texts of such headers
pub record AreHeaders (headers : PlainHeaders) (texts : Texts) : Type 0 where
  pub traceparent : SaysHeader headers.traceparent (texts (codes "traceparent"))
  pub tracestate : SaysHeader headers.tracestate (texts (codes "tracestate"))
  pub baggage : SaysHeader headers.baggage (texts (codes "baggage"))

-- a context that they say
pub record IsContextOf (headers : PlainHeaders) (cx : PlainContext) : Type 0 where
  pub texts : Texts
  pub are : AreHeaders headers texts
  pub reads : ReadsContext texts cx

-- a header as a line: its name, its value, a carriage return and a line feed; nothing where it has no value
abbrev pub header_line : List ℕ → Option (List ℕ) → List ℕ
header_line name None = []
header_line name (Some []) = []
header_line name (Some (byte ∷ bytes)) = name ++ codes ": " ++ (byte ∷ bytes) ++ 13 ∷ 10 ∷ []

-- the lines of the headers that hand a span on
abbrev pub header_lines : Texts → List ℕ
header_lines texts = header_line (codes "traceparent") (texts (codes "traceparent"))
    ++ header_line (codes "tracestate") (texts (codes "tracestate"))
    ++ header_line (codes "baggage") (texts (codes "baggage"))

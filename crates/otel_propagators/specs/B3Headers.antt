-- What a B3 propagator injects and extracts (OpenTelemetry specification, "B3 Requirements").
use Rattle.std.specs.Prelude.{◌≡◌, ◌⊎◌, ℕ, true, List, [], ◌∷◌, ◌++◌, codes}
use Rattle.std.specs.Prelude.{None, Result, OnOk, OnErr, IsOk, map, string_bytes}
use Rattle.std.specs.Prelude.{String}
use Rattle.std.specs.declared.alloc.AllocError.{AllocError}
use Rattle.opentelemetry.specs.Carrier.{Texts, SetsText, SameTexts}
use Rattle.opentelemetry.specs.Headers.{ExtractsSaid, GivesSpan, IsValid, SharesNothingUnsaid, header_text}
use Rattle.opentelemetry.specs.Hex.{hex_text}
use Rattle.opentelemetry.specs.Plain.{PlainContext, PlainSpanContext}
use Rattle.opentelemetry.specs.PlainContexts.{current_span_context}
use Rattle.otel_propagators.specs.B3.{single_field, trace_id_field, span_id_field, sampled_field, flags_field, hyphen}
use Rattle.otel_propagators.specs.B3.{flags_of, state_of, state_mark, joined, IsSingle, IsMany}
use Rattle.otel_propagators.specs.declared.b3.encoding.B3Encoding.{B3Encoding}
use Rattle.otel_propagators.specs.declared.b3.encoding.B3Encoding.TheVariants.{MultipleHeader, SingleHeader, SingleAndMultiHeader}
use Rattle.otel_propagators.specs.declared.b3.field.Field.{Field}
use Rattle.otel_propagators.specs.declared.b3.field.Field.TheVariants.{Single, TraceId, SpanId, Sampled, Flags}
use Rattle.otel_propagators.specs.declared.b3.sampling_state.SamplingState.{SamplingState}
use Rattle.otel_propagators.specs.declared.b3.sampling_state.SamplingState.TheVariants.{Accept, Deny, Defer, Debug}

-- the headers that say a sampling state beside others
abbrev pub state_headers : SamplingState → List (List ℕ × List ℕ)
state_headers Accept = (sampled_field, codes "1") ∷ []
state_headers Deny = (sampled_field, codes "0") ∷ []
state_headers Defer = []
state_headers Debug = (flags_field, codes "1") ∷ []

-- the text of the single header
abbrev pub single_text : PlainSpanContext → List ℕ
single_text c =
    hex_text 32 c.trace_id ++ hyphen ∷ joined (hex_text 16 c.span_id) (state_mark (state_of c.trace_flags))

-- a span context as the single header, and as the many
abbrev pub single_headers : PlainSpanContext → List (List ℕ × List ℕ)
single_headers c = (single_field, single_text c) ∷ []

abbrev pub many_headers : PlainSpanContext → List (List ℕ × List ℕ)
many_headers c =
    (trace_id_field, hex_text 32 c.trace_id) ∷ (span_id_field, hex_text 16 c.span_id)
    ∷ state_headers (state_of c.trace_flags)

-- the headers of a span context in an encoding
abbrev pub headers_of : B3Encoding → PlainSpanContext → List (List ℕ × List ℕ)
headers_of MultipleHeader c = many_headers c
headers_of SingleHeader c = single_headers c
headers_of SingleAndMultiHeader c = single_headers c ++ many_headers c

-- the names of the headers of an encoding
abbrev pub fields_of : B3Encoding → List (List ℕ)
fields_of MultipleHeader = trace_id_field ∷ span_id_field ∷ sampled_field ∷ flags_field ∷ []
fields_of SingleHeader = single_field ∷ []
fields_of SingleAndMultiHeader =
    single_field ∷ trace_id_field ∷ span_id_field ∷ sampled_field ∷ flags_field ∷ []

-- the name of a header
abbrev pub name_of : Field → List ℕ
name_of Single = single_field
name_of TraceId = trace_id_field
name_of SpanId = span_id_field
name_of Sampled = sampled_field
name_of Flags = flags_field

-- names and texts of headers as a program has them
abbrev pub plain_headers : {D : Type 0} → List (Field × String D) → List (List ℕ × List ℕ)
plain_headers headers = map (λ header. (name_of header.0, string_bytes header.1)) headers

-- headers were set, one after the other
abbrev pub SetsInTurn : Texts → List (List ℕ × List ℕ) → Texts → Type 0
SetsInTurn old [] new = SameTexts old new
SetsInTurn old (header ∷ more) new =
    (between : Texts) × SetsText old between header.0 header.1 × SetsInTurn between more new

-- the first ones of these headers were set, and not all of them
abbrev pub SetsSome : Texts → List (List ℕ × List ℕ) → Texts → Type 0
SetsSome old [] new = ⊥
SetsSome old (header ∷ more) new =
    SameTexts old new ⊎ ((between : Texts) × SetsText old between header.0 header.1 × SetsSome between more new)

-- what a B3 propagator injects: the headers of a valid span context; for another nothing, which needs no memory. What
-- cannot be set leaves the headers in front of it
pub record InjectsB3 (encoding : B3Encoding) (cx : PlainContext) (old : Texts) (result : Result (Unit {0}) AllocError)
    (new : Texts) : Type 0 where
  pub set : IsValid (current_span_context cx)
      → OnOk result (SetsInTurn old (headers_of encoding (current_span_context cx)) new)
  pub nothing : ¬ (IsValid (current_span_context cx)) → IsOk result × SameTexts old new
  pub err : OnErr result (SetsSome old (headers_of encoding (current_span_context cx)) new)

-- texts say the span context of the single header; where that says none, that of the many, whose decision a single
-- header without ids may say
abbrev pub SaysSpan : Texts → PlainSpanContext → Type 0
SaysSpan texts c =
    IsSingle (header_text (texts single_field)) c
    ⊎ (((other : PlainSpanContext) → ¬ (IsSingle (header_text (texts single_field)) other)) × IsMany texts c)

-- what it extracts: the span context that the texts say; where they say none, the context as it was
abbrev pub ExtractsB3 : PlainContext → Texts → PlainContext → Type 0
ExtractsB3 cx texts found = ExtractsSaid (SaysSpan texts) cx found

-- where reading wants no memory
abbrev pub B3IsInfallible : PlainContext → Texts → Type 0
B3IsInfallible cx texts = SharesNothingUnsaid (SaysSpan texts) cx

-- a span context as another process has it: remote, without a trace state, and of the flags the sampling state
abbrev pub remote_copy : PlainSpanContext → PlainSpanContext
remote_copy c = record c { trace_flags = flags_of (state_of c.trace_flags); is_remote = true; trace_state = [] }

-- whatever is extracted from the texts has this span context, as another process has it
abbrev pub CarriesSpan : Texts → PlainSpanContext → Type 0
CarriesSpan texts c = GivesSpan (λ cx found. ExtractsB3 cx texts found) (remote_copy c)

-- what was there says nothing in place of what is injected: the many headers write neither the single one, which is
-- read first, nor each of those that say a sampling state
abbrev pub LeavesRoom : B3Encoding → Texts → Type 0
LeavesRoom MultipleHeader old =
    (old single_field ≡ None) × (old flags_field ≡ None) × (old sampled_field ≡ None)
LeavesRoom SingleHeader old = Unit {0}
LeavesRoom SingleAndMultiHeader old = Unit {0}

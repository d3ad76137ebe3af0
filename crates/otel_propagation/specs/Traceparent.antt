-- The context of a span as headers (W3C Trace Context): which texts of `traceparent` say a span context (section 3.2),
-- what a `tracestate` adds to it (section 3.3), and what is injected and extracted. Of the flags the sampled one
-- travels.
use Rattle.std.specs.Prelude.{◌≡◌, ◌⊎◌, ℕ, ◌<◌, ◌%◌, ◌^◌, true, List, [], ◌∷◌, ◌++◌, codes, Option, None, Some}
use Rattle.std.specs.Prelude.{Result, OnOk, OnErr, IsOk}
use Rattle.std.specs.Str.{trim}
use Rattle.std.specs.declared.alloc.AllocError.{AllocError}
use Rattle.opentelemetry.specs.Carrier.{Texts, IsOtherName, SetsText, SameTexts}
use Rattle.opentelemetry.specs.Headers.{GivesSpan}
pub use Rattle.opentelemetry.specs.Headers.{IsValid, header_text}
use Rattle.opentelemetry.specs.Hex.{hex_text}
use Rattle.opentelemetry.specs.Plain.{PlainContext, PlainSpanContext}
use Rattle.opentelemetry.specs.PlainContexts.{current_span_context}
use Rattle.opentelemetry.specs.Tracestate.{ArePairs, IsTracestate, tracestate_text}

-- the names under which the headers travel
abbrev pub traceparent_field : List ℕ
traceparent_field = codes "traceparent"

abbrev pub tracestate_field : List ℕ
tracestate_field = codes "tracestate"

-- a hyphen parts the fields
abbrev pub hyphen : ℕ
hyphen = 45

-- a version and ids in lower-case digits, and after the last hyphen what else there is
abbrev pub traceparent_text : ℕ → ℕ → ℕ → List ℕ → List ℕ
traceparent_text version trace_id span_id tail =
    hex_text 2 version ++ hyphen ∷ (hex_text 32 trace_id ++ hyphen ∷ (hex_text 16 span_id ++ hyphen ∷ tail))

-- what may stand after the flags: in version 0 a hyphen at most, in a later one a hyphen and anything
abbrev pub MayFollow : ℕ → List ℕ → Type 0
MayFollow version rest = (rest ≡ []) ⊎ ((more : List ℕ) × (rest ≡ hyphen ∷ more) × (version ≡ 0 → more ≡ []))

-- a text says a span context that came from another process: both ids and, of the flags, the sampled one. Zeros alone
-- are no id, and ff is no version. The trace state has a header of its own.
pub record IsTraceparent (text : List ℕ) (c : PlainSpanContext) : Type 0 where
  pub version : ℕ
  pub flags : ℕ
  pub rest : List ℕ
  pub spelled : trim text ≡ traceparent_text version c.trace_id c.span_id (hex_text 2 flags ++ rest)
  pub is_version : version < 255
  pub is_trace_id : (0 < c.trace_id) × (c.trace_id < 16 ^ 32)
  pub is_span_id : (0 < c.span_id) × (c.span_id < 16 ^ 16)
  pub are_flags : flags < 16 ^ 2
  pub follows : MayFollow version rest
  pub sampled : c.trace_flags ≡ flags % 2
  pub remote : c.is_remote ≡ true
  pub stateless : c.trace_state ≡ []

-- the trace state that a header says: what its text spells; where it spells none, and without a header, the empty one
abbrev pub SaysState : Option (List ℕ) → List (List ℕ × List ℕ) → Type 0
SaysState None state = state ≡ []
SaysState (Some text) state =
    IsTracestate text state ⊎ (((pairs : List (List ℕ × List ℕ)) → ¬ (IsTracestate text pairs)) × (state ≡ []))

-- ids and flags as version 0 has them
abbrev pub context_text : ℕ → ℕ → ℕ → List ℕ
context_text trace_id span_id trace_flags =
    codes "00-" ++ (hex_text 32 trace_id ++ hyphen ∷ (hex_text 16 span_id ++ hyphen ∷ hex_text 2 trace_flags))

-- the header of a span context
abbrev pub traceparent_of : PlainSpanContext → List ℕ
traceparent_of c = context_text c.trace_id c.span_id (c.trace_flags % 2)

-- both headers were set, and what has another name is as before
pub record SetsHeaders (old new : Texts) (c : PlainSpanContext) : Type 0 where
  pub parent : new traceparent_field ≡ Some (traceparent_of c)
  pub state : new tracestate_field ≡ Some (tracestate_text c.trace_state)
  pub others : (other : List ℕ) → IsOtherName other traceparent_field → IsOtherName other tracestate_field
      → new other ≡ old other

-- what a trace context propagator injects: the headers of a valid span context; for another nothing, which needs no
-- memory
pub record InjectsTraceContext (cx : PlainContext) (old : Texts) (result : Result (Unit {0}) AllocError)
    (new : Texts) : Type 0 where
  pub set : IsValid (current_span_context cx) → OnOk result (SetsHeaders old new (current_span_context cx))
  pub nothing : ¬ (IsValid (current_span_context cx)) → IsOk result × SameTexts old new
  pub err : OnErr result (SameTexts old new
      ⊎ SetsText old new traceparent_field (traceparent_of (current_span_context cx)))

-- what it extracts: the span context that the header says, with the trace state beside it; where the header says none,
-- the context as it was
pub record ExtractsTraceContext (cx : PlainContext) (texts : Texts) (found : PlainContext) : Type 0 where
  pub read : (c : PlainSpanContext) → IsTraceparent (header_text (texts traceparent_field)) c
      → (state : List (List ℕ × List ℕ)) × SaysState (texts tracestate_field) state
      × (found ≡ record cx { span_context = Some (record c { trace_state = state }) })
  pub as_it_was : ((c : PlainSpanContext) → ¬ (IsTraceparent (header_text (texts traceparent_field)) c)) → found ≡ cx

-- reading wants no memory: there is no baggage to share; texts that say a span context say the empty trace state with
-- it, and where they say none, there is no trace state to share
pub record TraceContextIsInfallible (cx : PlainContext) (texts : Texts) : Type 0 where
  pub shares_no_baggage : cx.baggage ≡ []
  pub reads_no_state : (c : PlainSpanContext) → IsTraceparent (header_text (texts traceparent_field)) c
      → SaysState (texts tracestate_field) []
  pub shares_no_state : ((c : PlainSpanContext) → ¬ (IsTraceparent (header_text (texts traceparent_field)) c))
      → (current_span_context cx).trace_state ≡ []

-- a span context as another process has it: remote, and of its flags the sampled one
abbrev pub remote_copy : PlainSpanContext → PlainSpanContext
remote_copy c = record c { trace_flags = c.trace_flags % 2; is_remote = true }

-- whatever is extracted from the texts has this span context, as another process has it
abbrev pub CarriesSpan : Texts → PlainSpanContext → Type 0
CarriesSpan texts c = GivesSpan (λ cx found. ExtractsTraceContext cx texts found) (remote_copy c)

-- a span context as a program has it: ids of 128 and 64 bits, and a trace state of pairs of a key and a value
pub record IsSpanContext (c : PlainSpanContext) : Type 0 where
  pub trace_id : c.trace_id < 2 ^ 128
  pub span_id : c.span_id < 2 ^ 64
  pub trace_state : ArePairs c.trace_state

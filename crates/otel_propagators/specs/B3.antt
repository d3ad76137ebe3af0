-- Which texts say a span context in B3 (OpenZipkin, "B3 Propagation"): the single header, and the many. Of a sampling
-- state the flags of a trace keep two bits beside the sampled one, as in the Rust crates: 2 for a decision that is
-- deferred, and 4 for debug.
use Rattle.std.specs.Prelude.{◌≡◌, ◌≢◌, ◌⊎◌, ℕ, ◌<◌, ◌/◌, ◌%◌, ◌^◌, ◌==◌, if◌then◌else◌, true, List, [], ◌∷◌, ◌++◌, codes}
use Rattle.std.specs.Prelude.{Option, None, Some, IfSome}
use Rattle.opentelemetry.specs.Carrier.{Texts}
use Rattle.opentelemetry.specs.Hex.{hex_text, IsHexText}
use Rattle.opentelemetry.specs.Plain.{PlainSpanContext}
pub use Rattle.otel_propagation.specs.Traceparent.{hyphen}
use Rattle.otel_propagators.specs.declared.b3.sampling_state.SamplingState.{SamplingState}
use Rattle.otel_propagators.specs.declared.b3.sampling_state.SamplingState.TheVariants.{Accept, Deny, Defer, Debug}

-- the names under which the headers travel
abbrev pub single_field : List ℕ
single_field = codes "b3"

abbrev pub trace_id_field : List ℕ
trace_id_field = codes "x-b3-traceid"

abbrev pub span_id_field : List ℕ
span_id_field = codes "x-b3-spanid"

abbrev pub sampled_field : List ℕ
sampled_field = codes "x-b3-sampled"

abbrev pub flags_field : List ℕ
flags_field = codes "x-b3-flags"

-- the trace flags that have this sampling state: debug implies that the span is sampled
abbrev pub flags_of : SamplingState → ℕ
flags_of Accept = 1
flags_of Deny = 0
flags_of Defer = 2
flags_of Debug = 5

-- the sampling state of trace flags: debug comes first, and a span that is sampled is no longer deferred
abbrev pub state_of : ℕ → SamplingState
state_of flags =
    if flags / 4 % 2 == 1 then Debug else if flags % 2 == 1 then Accept else if flags / 2 % 2 == 1 then Defer else Deny

-- the sampling state in the single header, which leaves a deferred decision out
abbrev pub state_mark : SamplingState → Option (List ℕ)
state_mark Accept = Some (codes "1")
state_mark Deny = Some (codes "0")
state_mark Defer = None
state_mark Debug = Some (codes "d")

-- a field, and after a hyphen what follows it
abbrev pub joined : List ℕ → Option (List ℕ) → List ℕ
joined field None = field
joined field (Some rest) = field ++ hyphen ∷ rest

-- a field that may be left out, and what follows it
abbrev pub optional : Option (List ℕ) → Option (List ℕ) → Option (List ℕ)
optional None rest = rest
optional (Some field) rest = Some (joined field rest)

-- a text says a trace id: 32 lower-case digits, or 16, whose upper half is zero. Zeros alone are no id
abbrev pub IsTraceId : List ℕ → ℕ → Type 0
IsTraceId text id =
    (0 < id) × (((id < 16 ^ 32) × (text ≡ hex_text 32 id)) ⊎ ((id < 16 ^ 16) × (text ≡ hex_text 16 id)))

-- a text says a span id: 16 lower-case digits, not all zero
abbrev pub IsSpanId : List ℕ → ℕ → Type 0
IsSpanId text id = (0 < id) × (id < 16 ^ 16) × (text ≡ hex_text 16 id)

-- the span id of a parent, which may be left out and is read over
abbrev pub IsParent : Option (List ℕ) → Type 0
IsParent parent = IfSome parent (IsHexText 16)

-- what stands after the span id says this sampling state: the state, and after it the parent's id, each of which may
-- be left out
pub record SaysState (rest : Option (List ℕ)) (state : SamplingState) : Type 0 where
  pub parent : Option (List ℕ)
  pub is_parent : IsParent parent
  pub spelled : rest ≡ optional (state_mark state) parent

-- a text of the single header says a span context that came from another process. A state alone says none, as it has
-- no ids
pub record IsSingle (text : List ℕ) (c : PlainSpanContext) : Type 0 where
  pub trace_text : List ℕ
  pub span_text : List ℕ
  pub rest : Option (List ℕ)
  pub state : SamplingState
  pub spelled : text ≡ trace_text ++ hyphen ∷ joined span_text rest
  pub is_trace_id : IsTraceId trace_text c.trace_id
  pub is_span_id : IsSpanId span_text c.span_id
  pub says : SaysState rest state
  pub flags : c.trace_flags ≡ flags_of state
  pub remote : c.is_remote ≡ true
  pub stateless : c.trace_state ≡ []

-- the headers of flags and of the decision say this sampling state: debug leaves no decision to look for, and the
-- words of a decision are older than the standard
abbrev pub SaysMany : Option (List ℕ) → Option (List ℕ) → SamplingState → Type 0
SaysMany flags sampled Debug = flags ≡ Some (codes "1")
SaysMany flags sampled Accept =
    (flags ≢ Some (codes "1")) × ((sampled ≡ Some (codes "1")) ⊎ (sampled ≡ Some (codes "true")))
SaysMany flags sampled Deny =
    (flags ≢ Some (codes "1")) × ((sampled ≡ Some (codes "0")) ⊎ (sampled ≡ Some (codes "false")))
SaysMany flags sampled Defer = (flags ≢ Some (codes "1")) × (sampled ≡ None)

-- the single header says this sampling state alone, without ids
abbrev pub IsLone : Option (List ℕ) → SamplingState → Type 0
IsLone None state = ⊥
IsLone (Some text) state = state_mark state ≡ Some text

-- the sampling state beside the ids of the many headers: that of a single header which says one alone stands in front
-- of theirs
abbrev pub SaysDecision : Option (List ℕ) → Option (List ℕ) → Option (List ℕ) → SamplingState → Type 0
SaysDecision single flags sampled state =
    IsLone single state ⊎ (((other : SamplingState) → ¬ (IsLone single other)) × SaysMany flags sampled state)

-- the many headers say a span context that came from another process. That of the parent's id is read over
pub record IsMany (texts : Texts) (c : PlainSpanContext) : Type 0 where
  pub trace_text : List ℕ
  pub span_text : List ℕ
  pub state : SamplingState
  pub trace_given : texts trace_id_field ≡ Some trace_text
  pub span_given : texts span_id_field ≡ Some span_text
  pub is_trace_id : IsTraceId trace_text c.trace_id
  pub is_span_id : IsSpanId span_text c.span_id
  pub says : SaysDecision (texts single_field) (texts flags_field) (texts sampled_field) state
  pub flags : c.trace_flags ≡ flags_of state
  pub remote : c.is_remote ≡ true
  pub stateless : c.trace_state ≡ []

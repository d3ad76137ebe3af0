-- The context of a span as the header `uber-trace-id` (Jaeger, "Client Libraries", "Propagation Format"): which texts
-- say one, and what is injected and extracted. Of the flags of a trace the sampled bit and 4, for debug, travel.
use Rattle.std.specs.Prelude.{◌≡◌, ℕ, ◌<◌, ◌≤◌, ◌/◌, ◌%◌, ◌^◌, ◌==◌, if◌then◌else◌, Bool, true, false, List, [], ◌++◌}
use Rattle.std.specs.Prelude.{codes, length, Result, OnOk, OnErr, IsOk}
use Rattle.std.specs.declared.alloc.AllocError.{AllocError}
use Rattle.opentelemetry.specs.Carrier.{Texts, SetsText, SameTexts}
use Rattle.opentelemetry.specs.Headers.{ExtractsSaid, GivesSpan, IsValid, SharesNothingUnsaid, header_text}
use Rattle.opentelemetry.specs.Hex.{hex_text}
use Rattle.opentelemetry.specs.Plain.{PlainContext, PlainSpanContext}
use Rattle.opentelemetry.specs.PlainContexts.{current_span_context}

-- the name under which the header travels
abbrev pub uber_trace_id_field : List ℕ
uber_trace_id_field = codes "uber-trace-id"

-- a colon parts the fields; in a text that is escaped as URLs are, it is written by its number
abbrev pub colon_text : Bool → List ℕ
colon_text false = codes ":"
colon_text true = codes "%3A"

-- a text says a number in so many lower-case digits at most. Leading zeros may be left out, all digits may not
abbrev pub IsNumber : ℕ → List ℕ → ℕ → Type 0
IsNumber most text number =
    (0 < length text) × (length text ≤ most) × (number < 16 ^ length text) × (text ≡ hex_text (length text) number)

-- a text begins with a field that says a number, and after its colon stands the rest
pub record SaysField (escaped : Bool) (most : ℕ) (text : List ℕ) (number : ℕ) (rest : List ℕ) : Type 0 where
  pub field : List ℕ
  pub says : IsNumber most field number
  pub spelled : text ≡ field ++ (colon_text escaped ++ rest)

-- the trace flags of the header's flags: debug counts with sampled alone, and the other bits say nothing
abbrev pub flags_read : ℕ → ℕ
flags_read flags = if flags % 2 == 0 then 0 else if flags / 2 % 2 == 0 then 1 else 5

-- the header's flags of trace flags
abbrev pub flags_written : ℕ → ℕ
flags_written flags = if flags % 2 == 0 then 0 else if flags / 4 % 2 == 0 then 1 else 3

-- a text says a span context that came from another process: its ids, that of a parent, which is read over, and flags.
-- Zero is no id
pub record SaysContext (escaped : Bool) (text : List ℕ) (c : PlainSpanContext) : Type 0 where
  pub after_trace : List ℕ
  pub after_span : List ℕ
  pub parent : ℕ
  pub flags_text : List ℕ
  pub flags : ℕ
  pub trace_id : SaysField escaped 32 text c.trace_id after_trace
  pub span_id : SaysField escaped 16 after_trace c.span_id after_span
  pub parent_id : SaysField escaped 16 after_span parent flags_text
  pub says_flags : IsNumber 2 flags_text flags
  pub not_zero : (0 < c.trace_id) × (0 < c.span_id)
  pub trace_flags : c.trace_flags ≡ flags_read flags
  pub remote : c.is_remote ≡ true
  pub stateless : c.trace_state ≡ []

-- the same, escaped or not
abbrev pub IsUberTraceId : List ℕ → PlainSpanContext → Type 0
IsUberTraceId text c = (escaped : Bool) × SaysContext escaped text c

-- those as a digit
abbrev pub flags_digit : ℕ → List ℕ
flags_digit flags = if flags % 2 == 0 then codes "0" else if flags / 4 % 2 == 0 then codes "1" else codes "3"

-- the header of a span context, without a parent's id
abbrev pub uber_trace_id_of : PlainSpanContext → List ℕ
uber_trace_id_of c =
    hex_text 32 c.trace_id ++ (codes ":" ++ (hex_text 16 c.span_id
    ++ (codes ":0:" ++ flags_digit c.trace_flags)))

-- what a Jaeger propagator injects: the header of a valid span context; for another nothing, which needs no memory
pub record InjectsJaeger (cx : PlainContext) (old : Texts) (result : Result (Unit {0}) AllocError) (new : Texts)
    : Type 0 where
  pub set : IsValid (current_span_context cx)
      → OnOk result (SetsText old new uber_trace_id_field (uber_trace_id_of (current_span_context cx)))
  pub nothing : ¬ (IsValid (current_span_context cx)) → IsOk result × SameTexts old new
  pub err : OnErr result (SameTexts old new)

-- texts say a span context by the header
abbrev pub SaysSpan : Texts → PlainSpanContext → Type 0
SaysSpan texts c = IsUberTraceId (header_text (texts uber_trace_id_field)) c

-- what it extracts: the span context that the header says; where it says none, the context as it was
abbrev pub ExtractsJaeger : PlainContext → Texts → PlainContext → Type 0
ExtractsJaeger cx texts found = ExtractsSaid (SaysSpan texts) cx found

-- where reading wants no memory
abbrev pub JaegerIsInfallible : PlainContext → Texts → Type 0
JaegerIsInfallible cx texts = SharesNothingUnsaid (SaysSpan texts) cx

-- a span context as another process has it: remote, without a trace state, and of its flags those that travel
abbrev pub remote_copy : PlainSpanContext → PlainSpanContext
remote_copy c = record c {
  trace_flags = flags_read (flags_written c.trace_flags);
  is_remote = true;
  trace_state = [];
}

-- whatever is extracted from the texts has this span context, as another process has it
abbrev pub CarriesSpan : Texts → PlainSpanContext → Type 0
CarriesSpan texts c = GivesSpan (λ cx found. ExtractsJaeger cx texts found) (remote_copy c)

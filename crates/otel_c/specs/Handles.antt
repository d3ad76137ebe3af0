-- What a handle holds, and what a call does to that.
use base.Stored.{Coded}
use Rattle.std.specs.Coded.{coded_option}
use Rattle.std.specs.Prelude.{◌≡◌, ◌≢◌, ◌⊎◌, IfSome, ◌++◌, ◌∷◌, ◌+◌, ◌*◌, ◌^◌, ◌<◌, ◌≤◌, [], ℕ, List, Option, Some, None, Result, Ok, Err}
use Rattle.std.specs.Prelude.{drop, length}
use Rattle.std.specs.Prelude.{if◌then◌else◌}
use Rattle.otel_c.specs.declared.flow.Counts.{Counts}
use Rattle.otel_c.specs.declared.spans.Identity.{Identity}
use Rattle.opentelemetry.specs.Plain.{PlainValue}
use Rattle.otel_pipeline.specs.SpanHistory.{set_attribute}
use Rattle.otel_embed.specs.Pipelines.{EditsSpan}
use Rattle.otel_embed.specs.contracts.pipeline.Pipeline.{the_row}
use Rattle.otel_embed.specs.declared.error.PipelineError.{PipelineError}
use Rattle.otel_embed.specs.declared.error.PipelineError.TheVariants as errors
use Rattle.otel_embed.specs.declared.numbers.Numbers.{Numbers}
use Rattle.otel_embed.specs.declared.pipeline.Pipeline.{Pipeline}
use Rattle.otel_embed.specs.declared.span_calls.SpanIdentity.{SpanIdentity}

-- how a pipeline that may be there is stored
abbrev pub pipeline_code : Coded (Option the_row.Denot)
pipeline_code = coded_option the_row.coded

-- a handle held a pipeline, and holds one to which this was done
abbrev pub Turns : (Pipeline → Pipeline → Type 0) → Option Pipeline → Option Pipeline → Type 0
Turns Does None now = ⊥
Turns Does (Some was) None = ⊥
Turns Does (Some was) (Some now) = Does was now

-- a handle was not open and is not, or held a pipeline, and holds one to which this was done
abbrev pub TurnsIfOpen : (Pipeline → Pipeline → Type 0) → Option Pipeline → Option Pipeline → Type 0
TurnsIfOpen Does None None = Unit {0}
TurnsIfOpen Does None (Some now) = ⊥
TurnsIfOpen Does (Some was) None = ⊥
TurnsIfOpen Does (Some was) (Some now) = Does was now

-- a call's status is 0 after this was done to the pipeline that the handle holds; after any other status that was done,
-- if there is a pipeline
pub record Answers (status : ℕ) (Does Fails : Pipeline → Pipeline → Type 0) (was now : Option Pipeline) : Type 0 where
  pub ok : status ≡ 0 → Turns Does was now
  pub failed : status ≢ 0 → TurnsIfOpen Fails was now

-- a call to the pipeline's processors, which may fail, was carried out if there is a pipeline: 0 where it did not fail,
-- 9 where it did, and 1 where there is none
pub record FlowsIfOpen (status : ℕ) (Flows : Type 0 → Pipeline → Pipeline → Type 0) (was now : Option Pipeline)
    : Type 0 where
  pub flows : TurnsIfOpen (Flows (status ≡ 0)) was now
  pub closed : was ≡ None → status ≡ 1
  pub failed : IfSome was (λ _. (status ≡ 0) ⊎ (status ≡ 9))

-- a handle holds a pipeline of which this is so
abbrev pub Holds : (Pipeline → Type 0) → Option Pipeline → Type 0
Holds Is None = ⊥
Holds Is (Some pipeline) = Is pipeline

-- the status of an error, and of an answer
abbrev pub error_status : PipelineError → ℕ
error_status errors.OutOfMemory = 3
error_status errors.NoSuchSpan = 4
error_status errors.NoSuchTracer = 5
error_status errors.NotUtf8 = 6
error_status errors.BadArgument = 7
error_status errors.NotExported = 9

abbrev pub answer_status : Result (Unit {0}) PipelineError → ℕ
answer_status (Ok _) = 0
answer_status (Err error) = error_status error

-- who a span is, in numbers for C
pub record ShowsIdentity (who : SpanIdentity) (identity : Identity) : Type 0 where
  pub trace_id : identity.trace_id_high * 2 ^ 64 + identity.trace_id_low ≡ who.trace_id
  pub span_id : identity.span_id ≡ who.span_id
  pub trace_flags : identity.trace_flags ≡ who.trace_flags
  pub is_recording : identity.is_recording ≡ (if who.is_recording then 1 else 0)

-- how many spans are where, for C
pub record ShowsNumbers (numbers : Numbers) (counts : Counts) : Type 0 where
  pub open_spans : counts.open_spans ≡ numbers.open_spans
  pub waiting_spans : counts.waiting_spans ≡ numbers.waiting_spans
  pub dropped_spans : counts.dropped_spans ≡ numbers.dropped_spans
  pub refused_spans : counts.refused_spans ≡ numbers.refused_spans
  pub lost_batches : counts.lost_batches ≡ numbers.lost_batches
  pub lost_spans : counts.lost_spans ≡ numbers.lost_spans
  pub undrained_spans : counts.undrained_spans ≡ numbers.undrained_spans
  pub undrained_bytes : counts.undrained_bytes ≡ numbers.undrained_bytes

-- a call that hands out bytes says by its status whether the buffer had room for them
pub record SaysWhetherFits (status room count : ℕ) : Type 0 where
  pub fits : status ≡ 0 → count ≤ room
  pub too_small : status ≡ 8 → room < count

-- a text was copied to the beginning of a buffer where that has room for it, and else nothing; its length was answered
pub record CopiesText (text : List ℕ) (buffer : List ℕ) (status text_length : ℕ) (filled : List ℕ) : Type 0 where
  pub length_is : text_length ≡ length text
  pub fits : length text ≤ length buffer → (status ≡ 0) × (filled ≡ text ++ drop (length text) buffer)
  pub too_long : length buffer < length text → (status ≡ 8) × (filled ≡ buffer)

-- an attribute of a key, and of a value of which this is so, was gathered for what comes next
abbrev pub Gathers : List ℕ → (PlainValue → Type 0) → Pipeline → Pipeline → Type 0
Gathers key IsMeant was now = (made : PlainValue) × IsMeant made
    × (now.inside ≡ record was.inside { gathered = was.inside.gathered ++ record { key = key; value = made } ∷ [] })

-- a span was given an attribute of a key, and of a value of which this is so
abbrev pub SetsOn : ℕ → List ℕ → (PlainValue → Type 0) → Pipeline → Pipeline → Type 0
SetsOn span key IsMeant was now = (made : PlainValue) × IsMeant made
    × EditsSpan was.inside span (set_attribute (record { key = key; value = made }) ∷ []) now.inside

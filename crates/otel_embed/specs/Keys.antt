-- The open spans of a pipeline by their keys: numbers from 1 on, each of which names one span for ever.
use Rattle.std.specs.Prelude.{◌≡◌, ◌≤◌, ◌<◌, ◌+◌, ◌==◌, ◌||◌, ℕ, List, [], ◌∷◌, Option, Some, None, IsSome}
use Rattle.std.specs.Prelude.{if◌then◌else◌}
use Rattle.std.specs.Ordering.{nat_cmp}
use Rattle.std.specs.BTreeMap.{is_at}
use Rattle.std.specs.Map.{lookup}
use Rattle.opentelemetry.specs.Plain.{PlainContext}
use Rattle.opentelemetry.specs.PlainContexts.{empty_span_context, root_cx}
use Rattle.otel_sampling.specs.Limits.{default_limits}
use Rattle.otel_pipeline.specs.InSpan.{active_in}
use Rattle.otel_pipeline.specs.SpanHistory.{Edit, PlainSpan, after}
use Rattle.otel_embed.specs.declared.error.PipelineError.{PipelineError}
use Rattle.otel_embed.specs.declared.error.PipelineError.TheVariants as errors

-- an open span, and the context that it was started in
pub record OpenedSpan : Type 0 where
  pub span : PlainSpan
  pub cx : PlainContext

-- a span that nobody knows
abbrev pub unknown_span : PlainSpan
unknown_span = record {
  span_context = empty_span_context;
  limits = default_limits;
  recorded = None;
}

-- the only open span in a list of one
abbrev pub only_opened : List OpenedSpan → OpenedSpan
only_opened [] = record { span = unknown_span; cx = root_cx }
only_opened (opened ∷ _) = opened

-- the context in which an open span is active; where it has no ids, as after a shutdown, the context that it was
-- started in, which passes its parent on
abbrev pub context_of : OpenedSpan → PlainContext
context_of opened =
    if (opened.span.span_context.trace_id == 0) || (opened.span.span_context.span_id == 0) then opened.cx
    else active_in opened.cx opened.span

-- the spans that are open, and the key that the next one gets
pub record OpenedSpans : Type 0 where
  pub entries : List (ℕ × OpenedSpan)
  pub next_key : ℕ

-- the span of a key, if one is open
abbrev pub span_at : OpenedSpans → ℕ → Option OpenedSpan
span_at spans key = lookup (is_at (nat_cmp key)) spans.entries

-- why a call at the span of a key was refused: none is open under it, or one is, and there was no memory
abbrev pub IsRefusedAt : OpenedSpans → ℕ → PipelineError → Type 0
IsRefusedAt spans key errors.NoSuchSpan = span_at spans key ≡ None
IsRefusedAt spans key errors.OutOfMemory = IsSome (span_at spans key)
IsRefusedAt spans key _ = ⊥

-- each key has what it had
abbrev pub SameSpans : OpenedSpans → OpenedSpans → Type 0
SameSpans old new = ((q : ℕ) → span_at new q ≡ span_at old q) × (new.next_key ≡ old.next_key)

-- a key has this span from now on, or none; each other key has what it had
abbrev pub Puts : OpenedSpans → ℕ → Option OpenedSpan → OpenedSpans → Type 0
Puts old key now new = (q : ℕ) → span_at new q ≡ (if is_at (nat_cmp key) q then now else span_at old q)

-- no key from the next one on has a span, and 0 never has one
pub record KeysAreNew (spans : OpenedSpans) : Type 0 where
  pub from_one : 0 < spans.next_key
  pub above : (q : ℕ) → spans.next_key ≤ q → span_at spans q ≡ None

-- a span is open under the next key, which never had one
pub record Opens (old : OpenedSpans) (key : ℕ) (opened : OpenedSpan) (new : OpenedSpans) : Type 0 where
  pub key_is : key ≡ old.next_key
  pub is_key : 0 < key
  pub was_free : span_at old key ≡ None
  pub puts : Puts old key (Some opened) new
  pub next : new.next_key ≡ key + 1

-- the span of a key was edited, and no other
pub record EditsAt (old : OpenedSpans) (key : ℕ) (edits : List Edit) (new : OpenedSpans) : Type 0 where
  pub found : OpenedSpan
  pub was_there : span_at old key ≡ Some found
  pub puts : Puts old key (Some (record found { span = after edits found.span })) new
  pub next : new.next_key ≡ old.next_key

-- the span of a key is no longer open, and each other one is
pub record Closes (old : OpenedSpans) (key : ℕ) (found : OpenedSpan) (new : OpenedSpans) : Type 0 where
  pub was_there : span_at old key ≡ Some found
  pub puts : Puts old key None new
  pub next : new.next_key ≡ old.next_key

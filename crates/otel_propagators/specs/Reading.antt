-- What reads headers finds in them, and the span context that it makes of that.
use Rattle.std.specs.Prelude.{ℕ, [], Option, MatchOption, true}
use Rattle.opentelemetry.specs.Plain.{PlainSpanContext}

-- what was found is so, or nothing is
abbrev pub IsFound : {X : Type 0} → (X → Type 0) → Option X → Type 0
IsFound {X} Says found = MatchOption found ((x : X) → ¬ (Says x)) Says

-- the span context of another process, by its ids and flags
abbrev pub remote_span : ℕ → ℕ → ℕ → PlainSpanContext
remote_span trace_id span_id trace_flags = record {
  trace_id = trace_id;
  span_id = span_id;
  trace_flags = trace_flags;
  is_remote = true;
  trace_state = [];
}

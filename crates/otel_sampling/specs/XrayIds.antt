-- The trace ids of AWS X-Ray ("Tracing header", the format 1-SSSSSSSS-RRRRRRRRRRRRRRRRRRRRRRRR): 8 hex digits of the
-- seconds since 1970, then 24 random ones.
use Rattle.std.specs.Prelude.{ℕ, ◌+◌, ◌*◌, ◌/◌, ◌%◌, ◌^◌, List}
use Rattle.otel_sampling.specs.Ids.{next_trace_id}

-- the whole seconds of a moment; of those beyond the year 2106 the low 32 bits
abbrev pub xray_seconds : ℕ → ℕ
xray_seconds start = (start / 1_000_000_000) % 2 ^ 32

-- a random trace id whose first 32 bits are these seconds
abbrev pub xray_trace_id : ℕ → ℕ → ℕ
xray_trace_id seconds random = random % 2 ^ 96 + seconds * 2 ^ 96

-- the trace id of a span that starts at a moment, by the next random one, and the state afterwards
abbrev pub next_xray_trace_id : ℕ → List ℕ → ℕ × List ℕ
next_xray_trace_id start state =
    let drawn = next_trace_id state in
    (xray_trace_id (xray_seconds start) drawn.0, drawn.1)

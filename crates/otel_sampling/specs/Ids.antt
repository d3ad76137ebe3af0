-- The ids that a state of xoshiro256++ gives, and the state afterwards.
use Rattle.std.specs.Prelude.{ℕ, ◌+◌, ◌*◌, ◌^◌, List}
use Rattle.rand_xoshiro.specs.Xoshiro256.{plus_plus}

-- a span id is the next word
unfoldable pub next_span_id : List ℕ → ℕ × List ℕ
next_span_id state = plus_plus state

-- a trace id is the next two words, the first its low half
unfoldable pub next_trace_id : List ℕ → ℕ × List ℕ
next_trace_id state =
    let low = plus_plus state in
    let high = plus_plus low.1 in
    (low.0 + high.0 * 2 ^ 64, high.1)

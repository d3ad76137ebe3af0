-- Which share of all traces is sampled (OpenTelemetry specification, "TraceIdRatioBased"), and the texts that write
-- such a share.
use Rattle.std.specs.Prelude.{◌≡◌, ◌⊎◌, ℕ, ◌+◌, ◌*◌, ◌/◌, ◌%◌, ◌^◌, ◌<◌, ◌≤◌, Bool, nat_le, List, [], ◌∷◌, ◌++◌, length}
use Rattle.std.specs.Str.Parse.{AllDigits, digits_value}

-- a share of all traces: so many of so many
pub record PlainRatio : Type 0 where
  pub numerator : ℕ
  pub denominator : ℕ

-- the half of a trace id that decides: its last 8 bytes
abbrev pub low_half : ℕ → ℕ
low_half trace_id = trace_id % 2 ^ 64

-- a ratio samples a trace where the low half, without its last bit and counted from one, is at most that share of 2^63
abbrev pub samples : PlainRatio → ℕ → Bool
samples ratio trace_id = nat_le ((low_half trace_id / 2 + 1) * ratio.denominator) (ratio.numerator * 2 ^ 63)

-- every trace, and none
abbrev pub all_traces : PlainRatio
all_traces = record { numerator = 1; denominator = 1 }

abbrev pub no_traces : PlainRatio
no_traces = record { numerator = 0; denominator = 1 }

-- the digits in front of a point and after it, 1 to 19 in all, write a ratio: the number of all digits over as many
-- tens as digits stand after the point
pub record WritesRatio (whole fraction : List ℕ) (ratio : PlainRatio) : Type 0 where
  pub digits : AllDigits 10 (whole ++ fraction)
  pub some : 0 < length (whole ++ fraction)
  pub few : length (whole ++ fraction) ≤ 19
  pub value : ratio ≡ record { numerator = digits_value 10 (whole ++ fraction); denominator = 10 ^ length fraction }

-- a text is cut at its one point, or has none
abbrev pub IsCutAtPoint : List ℕ → List ℕ → List ℕ → Type 0
IsCutAtPoint text whole fraction = (text ≡ whole ++ 46 ∷ fraction) ⊎ ((text ≡ whole) × (fraction ≡ []))

-- a text is a decimal: digits with at most one point in front of them, among them or after them
abbrev pub IsDecimal : List ℕ → PlainRatio → Type 0
IsDecimal text ratio =
    (whole : List ℕ) × (fraction : List ℕ) × IsCutAtPoint text whole fraction × WritesRatio whole fraction ratio

-- a text writes a ratio: a decimal, with a plus sign in front of it or not; after a minus sign it stands for no traces
abbrev pub IsRatioText : List ℕ → PlainRatio → Type 0
IsRatioText text ratio =
    IsDecimal text ratio
    ⊎ ((rest : List ℕ) × (text ≡ 43 ∷ rest) × IsDecimal rest ratio)
    ⊎ ((rest : List ℕ) × (text ≡ 45 ∷ rest) × ((size : PlainRatio) × IsDecimal rest size) × (ratio ≡ no_traces))

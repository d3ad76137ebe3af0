-- Thresholds and randomness, numbers of 56 bits, and their texts (OpenTelemetry specification, "TraceState:
-- Probability Sampling", "Rejection threshold" and "Explicit randomness").
use Rattle.std.specs.Prelude.{◌≡◌, ℕ, zero, suc, ◌+◌, ◌-◌, ◌*◌, ◌/◌, ◌%◌, ◌^◌, ◌<◌, ◌≤◌, min, Bool, ◌&&◌, ◌||◌}
use Rattle.std.specs.Prelude.{nat_le, nat_lt, ◌==◌, if◌then◌else◌, List, [], ◌∷◌, length, Option, Some, None}
use Rattle.std.specs.Prelude.{option_map}
use Rattle.opentelemetry.specs.Hex.{hex_text}
use Rattle.otel_sampling.specs.Ratio.{PlainRatio}

-- how many numbers 56 bits write: the threshold of no span
abbrev pub every_number : ℕ
every_number = 2 ^ 56

-- a span is kept where its randomness is at least the threshold
abbrev pub keeps : ℕ → ℕ → Bool
keeps threshold randomness = nat_le threshold randomness

-- the randomness of a trace: the last 56 bits of its id
abbrev pub randomness_of_id : ℕ → ℕ
randomness_of_id trace_id = trace_id % 2 ^ 56

-- how many of the 2^56 numbers a share keeps: the nearest whole number, and the greater one half way between two
abbrev pub kept_of : PlainRatio → ℕ
kept_of share = (2 * share.numerator * 2 ^ 56 + share.denominator) / (2 * share.denominator)

-- the threshold of a share: it rejects the numbers that are not kept
abbrev pub threshold_of_share : PlainRatio → ℕ
threshold_of_share share = 2 ^ 56 - min (kept_of share) (2 ^ 56)

-- a text writes a randomness: its 14 digits, the leading zeros too
pub record WritesRandomness (text : List ℕ) (randomness : ℕ) : Type 0 where
  pub small : randomness < 2 ^ 56
  pub written : text ≡ hex_text 14 randomness

-- a text writes a threshold: the first digits of its 14, 1 at least, and those left out are zeros
pub record WritesThreshold (text : List ℕ) (threshold : ℕ) : Type 0 where
  pub some : 1 ≤ length text
  pub few : length text ≤ 14
  pub front : ℕ
  pub fits : front < 16 ^ length text
  pub written : text ≡ hex_text (length text) front
  pub value : threshold ≡ front * 16 ^ (14 - length text)

-- a digit 0 to 9 or a to f
abbrev pub is_digit : ℕ → Bool
is_digit b = (nat_le 48 b && nat_le b 57) || (nat_le 97 b && nat_le b 102)

-- what a digit stands for
abbrev pub digit_value : ℕ → ℕ
digit_value b = if nat_lt b 58 then b - 48 else b - 87

-- the number that digits write after those of another number; none where one is no digit
abbrev pub number_after : ℕ → List ℕ → Option ℕ
number_after n [] = Some n
number_after n (b ∷ bs) = if is_digit b then number_after (n * 16 + digit_value b) bs else None

-- the randomness that a text writes
abbrev pub randomness_of_text : List ℕ → Option ℕ
randomness_of_text text = if length text == 14 then number_after 0 text else None

-- the threshold that a text writes
abbrev pub threshold_of_text : List ℕ → Option ℕ
threshold_of_text text =
    if nat_le 1 (length text) && nat_le (length text) 14
    then option_map (λ front. front * 16 ^ (14 - length text)) (number_after 0 text)
    else None

-- so many digits of a number, without the zeros at the end, the first digit always
unfoldable pub short_hex : ℕ → ℕ → List ℕ
short_hex zero n = []
short_hex (suc zero) n = hex_text 1 n
short_hex (suc (suc count)) n =
    if n % 16 == 0 then short_hex (suc count) (n / 16) else hex_text (suc (suc count)) n

-- the text of a threshold
abbrev pub threshold_text : ℕ → List ℕ
threshold_text threshold = short_hex 14 threshold

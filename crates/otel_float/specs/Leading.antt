-- What is worked out of a float's decimal: its first 18 digits, and whether there are more.
use Rattle.std.specs.Prelude.{◌≡◌, ℕ, ◌*◌, ◌/◌, ◌%◌, ◌^◌, ◌<◌, ◌≤◌, Bool, ◌==◌}
use Rattle.otel_float.specs.FloatText.{whole, digit_count, point}
use Rattle.otel_float.specs.declared.decimal.Leading.{Leading}

-- the first 18 digits of n, with zeros after them where it has fewer
unfoldable pub first_digits : ℕ → ℕ
first_digits n = n * 10 ^ 18 / 10 ^ digit_count n

-- n has no digits but these and zeros
unfoldable pub is_exact : ℕ → Bool
is_exact n = n * 10 ^ 18 % 10 ^ digit_count n == 0

-- those of the float with these bits
pub record IsLeading (bits : ℕ) (leading : Leading) : Type 0 where
  pub digits : leading.digits ≡ first_digits (whole bits)
  pub exact : leading.is_exact ≡ is_exact (whole bits)
  pub point : leading.point ≡ point bits
  pub small : leading.digits < 10 ^ 18
  pub near : leading.point ≤ 1534

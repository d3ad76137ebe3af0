-- One step of the count of digits, and of the zeros at their end.
use Rattle.std.proofs.Common.{◌≡◌, ℕ, suc, ◌+◌, ◌-◌, ◌/◌, ◌%◌, true, false, refl, eq-eqb, ne_eqb}
use Rattle.otel_float.specs.FloatText.{whole, point, count_from, reads_back, rounded, without_zeros}

pub count_here : (more bits n : ℕ) → reads_back bits (rounded (whole bits) n) (point bits - n) ≡ true → count_from (suc more) bits n ≡ n
unfolding count_from
count_here more bits n h = rw h refl

pub count_on : (more bits n : ℕ) → reads_back bits (rounded (whole bits) n) (point bits - n) ≡ false → count_from (suc more) bits n ≡ count_from more bits (suc n)
unfolding count_from
count_on more bits n h = rw h refl

pub count_none : (bits n : ℕ) → count_from 0 bits n ≡ n
unfolding count_from
count_none bits n = refl

pub zero_off : (most digits power : ℕ) → digits % 10 ≡ 0 → without_zeros (suc most) digits power ≡ without_zeros most (digits / 10) (power + 1)
unfolding without_zeros
zero_off most digits power h = rw (eq-eqb (digits % 10) 0 h) refl

pub no_zero : (most digits power : ℕ) → ¬ (digits % 10 ≡ 0) → without_zeros (suc most) digits power ≡ (digits, power)
unfolding without_zeros
no_zero most digits power h = rw (ne_eqb (digits % 10) 0 h) refl

pub no_more : (digits power : ℕ) → without_zeros 0 digits power ≡ (digits, power)
unfolding without_zeros
no_more digits power = refl

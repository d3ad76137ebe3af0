-- What is shown of durations: cut to a unit that grows with them, at limits that are multiples of it.
use Rattle.std.proofs.Common.{◌≡◌, ◌<◌, ◌≤◌, ◌-◌, ◌+◌, ◌/◌, ◌%◌, inl, inr, ℕ, Bool, true, false, arith}
use Rattle.std.proofs.Common.{if◌then◌else◌, nat_lt, refl}
use Rattle.std.proofs.lemmas.Bool.{cases_lt, le-ltb, lt-ltb}
use Rattle.std.proofs.lemmas.Nat.{div-add-mod', mod_below, mul-le}
use Rattle.otel_picture.specs.Durations.{shown_duration, step_of}
use Rattle.otel_picture.proofs.Columns.{div_follows}

some_step : (held : Bool) (step other : ℕ) → 0 < step → 0 < other → 0 < (if held then step else other)
some_step true step other p q = p
some_step false step other p q = q

step_positive : (n : ℕ) → 0 < step_of n
step_positive n =
    some_step (nat_lt n 10000) 1 _ (omega arith)
    (some_step (nat_lt n 100000) 10 _ (omega arith)
    (some_step (nat_lt n 1000000) 100 _ (omega arith)
    (some_step (nat_lt n 10000000) 1000 _ (omega arith)
    (some_step (nat_lt n 100000000) 10000 _ (omega arith)
    (some_step (nat_lt n 1000000000) 100000 _ (omega arith)
    (some_step (nat_lt n 10000000000) 1000000 _ (omega arith)
    (some_step (nat_lt n 60000000000) 10000000 _ (omega arith)
    (some_step (nat_lt n 3600000000000) 1000000000 _ (omega arith)
    (some_step (nat_lt n 86400000000000) 60000000000 _ (omega arith)
    (some_step (nat_lt n 8640000000000000) 3600000000000 _ (omega arith)
    (some_step (nat_lt n 851472000000000000) 86400000000000 _ (omega arith)
    (omega arith))))))))))))

cut_follows : (step m n : ℕ) → 0 < step → m ≤ n → m - m % step ≤ n - n % step
cut_follows step m n p h = omega (
  arith,
  div-add-mod' m step,
  div-add-mod' n step,
  mul-le (m / step) step (n / step) step (div_follows m n step p h) (omega arith),
)

-- from a limit on, numbers are shown in order, and not below it
record IsTier (limit : ℕ) (step : ℕ → ℕ) : Type 0 where
  follows : (m n : ℕ) → limit ≤ m → m ≤ n → m - m % step m ≤ n - n % step n
  above : (n : ℕ) → limit ≤ n → limit ≤ n - n % step n

last_tier : (limit step : ℕ) → 0 < step → limit % step ≡ 0 → IsTier limit (λ n. step)
last_tier limit step p whole = record {
  follows = λ m n l h. cut_follows step m n p h;
  above = λ n l. omega (arith, cut_follows step limit n p l, whole);
}

next_tier : (low limit step : ℕ) (more : ℕ → ℕ) → 0 < step → low ≤ limit → low % step ≡ 0 → IsTier limit more
    → IsTier low (λ n. if nat_lt n limit then step else more n)
next_tier low limit step more p under whole tier = record {
  follows = λ m n l h. elim (cases_lt n limit) [
    | inl below ↦ rw (lt-ltb n limit below, lt-ltb m limit (omega (arith, below, h))) (cut_follows step m n p h)
    | inr over ↦ elim (cases_lt m limit) [
      | inl below ↦ rw (le-ltb n limit over, lt-ltb m limit below) (omega (arith, below, tier.above n over))
      | inr both ↦ rw (le-ltb n limit over, le-ltb m limit both) (tier.follows m n both h)
    ]
  ];
  above = λ n l. elim (cases_lt n limit) [
    | inl below ↦ rw (lt-ltb n limit below) (omega (arith, cut_follows step low n p l, whole))
    | inr over ↦ rw (le-ltb n limit over) (omega (arith, under, tier.above n over))
  ];
}

all_tiers : IsTier 0 step_of
all_tiers =
    next_tier 0 10000 1 _ (omega arith) (omega arith) refl
    (next_tier 10000 100000 10 _ (omega arith) (omega arith) refl
    (next_tier 100000 1000000 100 _ (omega arith) (omega arith) refl
    (next_tier 1000000 10000000 1000 _ (omega arith) (omega arith) refl
    (next_tier 10000000 100000000 10000 _ (omega arith) (omega arith) refl
    (next_tier 100000000 1000000000 100000 _ (omega arith) (omega arith) refl
    (next_tier 1000000000 10000000000 1000000 _ (omega arith) (omega arith) refl
    (next_tier 10000000000 60000000000 10000000 _ (omega arith) (omega arith) refl
    (next_tier 60000000000 3600000000000 1000000000 _ (omega arith) (omega arith) refl
    (next_tier 3600000000000 86400000000000 60000000000 _ (omega arith) (omega arith) refl
    (next_tier 86400000000000 8640000000000000 3600000000000 _ (omega arith) (omega arith) refl
    (next_tier 8640000000000000 851472000000000000 86400000000000 _ (omega arith) (omega arith) refl
    (last_tier 851472000000000000 31536000000000000 (omega arith) refl))))))))))))

pub shown_close : (n : ℕ) → (shown_duration n ≤ n) × (n < shown_duration n + step_of n)
shown_close n =
    let left = mod_below n (step_of n) (step_positive n) in
    (omega arith, omega (arith, left))

pub shown_follows : (shorter longer : ℕ) → shorter ≤ longer → shown_duration shorter ≤ shown_duration longer
shown_follows shorter longer h = all_tiers.follows shorter longer (omega arith) h

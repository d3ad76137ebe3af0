-- Texts without a line feed: decimals, and those of floats.
use Rattle.std.proofs.Common.{◌≡◌, ◌≢◌, ◌/◌, ◌%◌, ◌==◌, ◌-◌, ◌+◌, ◌*◌, ◌^◌, ◌||◌, ℕ, zero, suc, Bool, true, false, cond}
use Rattle.std.proofs.Common.{List, [], ◌∷◌, ◌++◌, length, take, drop, replicate, arith, codes, decimal, nat_lt, refl}
use Rattle.std.proofs.lemmas.Bool.Decides.{nat_tests}
use Rattle.std.specs.Float.{Float, binary64}
use Rattle.std.specs.Fmt.{digit_glyph, digits, digits_onto, sign_text}
use Rattle.std.specs.List.{AllByRecursion}
use Rattle.std.specs.Prelude.{to_bits, nat_le}
use Rattle.otel_float.specs.FloatText.{exponent_text, finite_text, float_text, layout, short_text, size_text}
use Rattle.otel_float.specs.FloatText.{with_exponent}
use Rattle.otel_otlp.proofs.Fitting.{all_joined}

-- no byte ends a line
abbrev pub NotFeed : ℕ → Type 0
NotFeed b = b ≢ 10

abbrev pub NoFeed : List ℕ → Type 0
NoFeed bytes = AllByRecursion NotFeed bytes

pub either : (test : Bool) (xs ys : List ℕ) → (test ≡ true → NoFeed xs) → (test ≡ false → NoFeed ys)
    → NoFeed (cond test xs ys)
either true xs ys h k = h refl
either false xs ys h k = k refl

glyph : (d : ℕ) → digit_glyph false d ≢ 10
glyph d = grind (arith, nat_tests)

-- digits
digits_no_feed : (k n : ℕ) (acc : List ℕ) → NoFeed acc → NoFeed (digits_onto k 10 false n acc)
digits_no_feed zero n acc h = h
digits_no_feed (suc k) n acc h =
    either (n / 10 == 0) _ _ (λ e. (glyph (n % 10), h)) (λ e. digits_no_feed k (n / 10) _ (glyph (n % 10), h))

pub decimal_no_feed : (n : ℕ) → NoFeed (decimal n)
unfolding digits
decimal_no_feed n = digits_no_feed 64 n [] tt

-- parts of a text, and zeros
some_no_feed : (n : ℕ) (bytes : List ℕ) → NoFeed bytes → NoFeed (take n bytes)
some_no_feed zero bytes h = tt
some_no_feed (suc n) [] h = tt
some_no_feed (suc n) (b ∷ bytes) h = (h.0, some_no_feed n bytes h.1)

rest_no_feed : (n : ℕ) (bytes : List ℕ) → NoFeed bytes → NoFeed (drop n bytes)
rest_no_feed zero bytes h = h
rest_no_feed (suc n) [] h = tt
rest_no_feed (suc n) (b ∷ bytes) h = rest_no_feed n bytes h.1

zeros_no_feed : (n : ℕ) → NoFeed (replicate n 48)
zeros_no_feed zero = tt
zeros_no_feed (suc n) = ((λ z. omega arith), zeros_no_feed n)

-- the text of a float
sign_no_feed : (negative : Bool) → NoFeed (sign_text negative)
sign_no_feed true = ((λ z. omega arith), tt)
sign_no_feed false = tt

exponent_no_feed : (end : ℕ) → NoFeed (exponent_text end)
unfolding exponent_text
exponent_no_feed end = (
  (λ z. omega arith),
  all_joined NotFeed (sign_text (nat_lt end 401)) _ (sign_no_feed (nat_lt end 401)) (decimal_no_feed _),
)

-- a byte in front of a text
in_front : (b : ℕ) (bytes : List ℕ) → b ≢ 10 → NoFeed bytes → NoFeed (b ∷ bytes)
in_front b bytes h k = (h, k)

with_exponent_no_feed : (bytes : List ℕ) (end : ℕ) → NoFeed bytes → NoFeed (with_exponent bytes end)
unfolding with_exponent
with_exponent_no_feed bytes end h =
    all_joined NotFeed _ (exponent_text end)
    (all_joined NotFeed (take 1 bytes) _ (some_no_feed 1 bytes h)
    (either (nat_lt 1 (length bytes)) (46 ∷ drop 1 bytes) []
    (λ e. in_front 46 (drop 1 bytes) (λ z. omega arith) (rest_no_feed 1 bytes h)) (λ e. tt)))
    (exponent_no_feed end)

layout_no_feed : (bytes : List ℕ) (power : ℕ) → NoFeed bytes → NoFeed (layout bytes power)
unfolding layout
layout_no_feed bytes power h =
    let end = power + length bytes in
    either (nat_lt end 396 || nat_lt 416 end) _ _ (λ e. with_exponent_no_feed bytes end h)
    (λ e. either (nat_lt end 401) _ _
    (λ f. in_front 48 (46 ∷ (replicate (400 - end) 48 ++ bytes)) (λ z. omega arith) (in_front 46 _ (λ z. omega arith)
    (all_joined NotFeed (replicate (400 - end) 48) bytes (zeros_no_feed (400 - end)) h)))
    (λ f. either (nat_lt power 400) _ _
    (λ g. all_joined NotFeed (take (end - 400) bytes) _ (some_no_feed (end - 400) bytes h)
    (in_front 46 _ (λ z. omega arith) (rest_no_feed (end - 400) bytes h)))
    (λ g. all_joined NotFeed (bytes ++ replicate (power - 400) 48) (46 ∷ 48 ∷ [])
    (all_joined NotFeed bytes (replicate (power - 400) 48) h (zeros_no_feed (power - 400)))
    ((λ z. omega arith), ((λ z. omega arith), tt)))))

size_no_feed : (bits : ℕ) → NoFeed (size_text bits)
unfolding size_text finite_text short_text
size_no_feed bits =
    either (bits == 0) (codes "0.0") _ (λ e. ((λ z. omega arith), ((λ z. omega arith), ((λ z. omega arith), tt))))
    (λ e. either (nat_lt bits (2047 * 2 ^ 52)) _ (codes "inf") (λ f. layout_no_feed _ _ (decimal_no_feed _))
    (λ f. ((λ z. omega arith), ((λ z. omega arith), ((λ z. omega arith), tt)))))

pub float_no_feed : (x : Float) → NoFeed (float_text x)
unfolding float_text
float_no_feed x =
    let bits = to_bits binary64 x in
    either (nat_lt (2047 * 2 ^ 52) (bits % 2 ^ 63)) (codes "NaN") _
    (λ e. ((λ z. omega arith), ((λ z. omega arith), ((λ z. omega arith), tt))))
    (λ e. all_joined NotFeed (sign_text (nat_le (2 ^ 63) bits)) _ (sign_no_feed _) (size_no_feed (bits % 2 ^ 63)))

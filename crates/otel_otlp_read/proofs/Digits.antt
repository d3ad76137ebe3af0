-- A digit more.
use Rattle.std.proofs.Common.{◌≡◌, ◌+◌, ◌*◌, ◌^◌, ◌<◌, ◌≤◌, ◌∙◌, ℕ, suc, List, Option, None, cond, ltb, ap, sym, arith, add-one}
use Rattle.std.proofs.Common.{drop, get_or, length}
use Rattle.std.proofs.lemmas.Bool.{lt-ltb}
use Rattle.std.proofs.lemmas.List.{drop_more}
use Rattle.std.specs.Char.{digit_value}
use Rattle.otel_otlp_read.specs.Numbers.{digits_after}
use Rattle.std.proofs.Math.Nat.{pow-suc, pow-le-pow_right, mul-le-mul_left}

-- a digit more still fits 128 bits
pub digit_room : (i n radix d : ℕ) → n < 16 ^ i → i < 32 → radix ≤ 16 → d < radix → n * radix + d < 2 ^ 128
digit_room i n radix d small below least digit =
    let positive : 0 < 16 = omega arith in
    let next : suc i ≤ 32 = omega arith in
    let grown : 16 ^ suc i ≡ 16 ^ i * 16 = pow-suc 16 i in
    let bound : 16 ^ suc i ≤ 16 ^ 32 = pow-le-pow_right positive next in
    let product : n * radix ≤ n * 16 = mul-le-mul_left n least in
    omega arith

-- with a digit more, the number stays below the next power
pub digit_fits : (i n radix d : ℕ) → n < 16 ^ i → radix ≤ 16 → d < radix → n * radix + d < 16 ^ (i + 1)
digit_fits i n radix d small least digit =
    let product : n * radix ≤ n * 16 = mul-le-mul_left n least in
    rw add-one (omega (arith, pow-suc 16 i))

-- the first of the digits that are left goes into the number
pub digit_step : (radix n d : ℕ) (digits : List ℕ) (i : ℕ) → i < length digits → d ≡ digit_value (get_or digits i 0)
    → d < radix
    → digits_after radix n (drop i digits) ≡ digits_after radix (n * radix + d) (drop (i + 1) digits)
digit_step radix n d digits i within is small =
    let next : ℕ → Option ℕ = λ (v : ℕ). cond (ltb v radix) (digits_after radix (n * radix + v) (drop (i + 1) digits)) None in
    ap (digits_after radix n) (drop_more digits i 0 within) ∙ ap next (sym is)
    ∙ ap (λ t. cond t (digits_after radix (n * radix + d) (drop (i + 1) digits)) None) (lt-ltb d radix small)

-- The text of a float: the fewest digits that read back as that float, of 15, 16 and 17. A float below the normal ones
-- has fewer digits, so there each number of digits from 1 on is tried.
use Rattle.std.specs.Prelude.{ℕ, zero, suc, ◌+◌, ◌-◌, ◌*◌, ◌/◌, ◌%◌, ◌^◌, pos, ◌-ℤ◌, Bool, false, ◌||◌, if◌then◌else◌, ◌==◌, nat_lt, nat_le, List, [], ◌∷◌, ◌++◌, length, take, drop, replicate, codes, to_bits}
use Rattle.std.specs.Fmt.{decimal, sign_text}
use Rattle.std.specs.Float.{Float, binary64}
use Rattle.fast_float.specs.Rounding.{nearest_to_decimal}

-- ---- the decimal that is the float. Its bits are taken without the sign, and are not those of an infinity or a NaN.

-- the float is significand * 2 ^ exponent / 2 ^ 1074
unfoldable pub significand : ℕ → ℕ
significand bits = if nat_lt bits (2 ^ 52) then bits else bits % 2 ^ 52 + 2 ^ 52

unfoldable pub exponent : ℕ → ℕ
exponent bits = bits / 2 ^ 52 - 1

-- which is whole / 10 ^ places
abbrev pub places : ℕ → ℕ
places bits = 1074 - exponent bits

unfoldable pub whole : ℕ → ℕ
whole bits = significand bits * 2 ^ (exponent bits - 1074) * 5 ^ places bits

-- ---- where its point stands

-- how many digits n has, where it has no more than `most`
unfoldable pub count_up_to : ℕ → ℕ → ℕ
count_up_to zero n = 0
count_up_to (suc most) n = if n == 0 then 0 else suc (count_up_to most (n / 10))

-- how many digits n has, none for 0
unfoldable pub digit_count : ℕ → ℕ
digit_count n = count_up_to n n

-- The float is 0.DDD * 10 ^ (point - 400), where DDD are its digits.
unfoldable pub point : ℕ → ℕ
point bits = 400 + digit_count (whole bits) - places bits

-- ---- some of its digits

-- the whole number nearest to a / b, and of two the even one
unfoldable pub nearest_even : ℕ → ℕ → ℕ
nearest_even a b =
    if nat_lt (2 * (a % b)) b then a / b
    else (if nat_lt b (2 * (a % b)) then a / b + 1
    else a / b + a / b % 2)

-- w with its first n digits alone, rounded, and with zeros after them where it has fewer
abbrev pub rounded : ℕ → ℕ → ℕ
rounded w n = nearest_even (w * 10 ^ n) (10 ^ digit_count w)

-- the float nearest to digits * 10 ^ (power - 400) has these bits
unfoldable pub reads_back : ℕ → ℕ → ℕ → Bool
reads_back bits digits power =
    to_bits binary64 (nearest_to_decimal binary64 false digits (pos power -ℤ pos 400)) == bits

-- the first count from n on at which the digits read back, and n + more where none before it does
unfoldable pub count_from : ℕ → ℕ → ℕ → ℕ
count_from zero bits n = n
count_from (suc more) bits n =
    if reads_back bits (rounded (whole bits) n) (point bits - n) then n else count_from more bits (suc n)

-- fewer digits may do only below the normal floats
abbrev pub least_count : ℕ → ℕ
least_count bits = if nat_lt bits (2 ^ 52) then 1 else 15

unfoldable pub kept_count : ℕ → ℕ
kept_count bits = count_from (17 - least_count bits) bits (least_count bits)

-- The digits without the zeros at their end, of which each is one more for the power.
unfoldable pub without_zeros : ℕ → ℕ → ℕ → ℕ × ℕ
without_zeros zero digits power = (digits, power)
without_zeros (suc most) digits power =
    if digits % 10 == 0 then without_zeros most (digits / 10) (power + 1) else (digits, power)

-- ---- the layout of digits * 10 ^ (power - 400)

-- `e30`, `e-7`: the first digit stands at `end - 401` tens
unfoldable pub exponent_text : ℕ → List ℕ
exponent_text end = 101 ∷ (sign_text (nat_lt end 401) ++ decimal (end - 401 + (401 - end)))

-- `1e30`, `1.5e-7`
unfoldable pub with_exponent : List ℕ → ℕ → List ℕ
with_exponent digits end =
    take 1 digits ++ (if nat_lt 1 (length digits) then 46 ∷ drop 1 digits else []) ++ exponent_text end

-- From 0.00001 on and below 10 ^ 16 there is no exponent: `0.001`, `120.0`, `12.5`. Of the digits `end - 400` stand
-- before the point.
unfoldable pub layout : List ℕ → ℕ → List ℕ
layout digits power =
    let end = power + length digits in
    if nat_lt end 396 || nat_lt 416 end then with_exponent digits end
    else (if nat_lt end 401 then 48 ∷ 46 ∷ (replicate (400 - end) 48 ++ digits)
    else (if nat_lt power 400 then take (end - 400) digits ++ 46 ∷ drop (end - 400) digits
    else (digits ++ replicate (power - 400) 48) ++ 46 ∷ 48 ∷ []))

-- ---- the text

unfoldable pub short_text : ℕ → ℕ → List ℕ
short_text digits power = layout (decimal (without_zeros 17 digits power).0) (without_zeros 17 digits power).1

unfoldable pub finite_text : ℕ → List ℕ
finite_text bits = short_text (rounded (whole bits) (kept_count bits)) (point bits - kept_count bits)

-- of the bits without the sign
unfoldable pub size_text : ℕ → List ℕ
size_text bits =
    if bits == 0 then codes "0.0"
    else (if nat_lt bits (2047 * 2 ^ 52) then finite_text bits else codes "inf")

-- NaN, the infinities and the zeros are `NaN`, `inf`, `-inf`, `0.0` and `-0.0`.
unfoldable pub float_text : Float → List ℕ
float_text x =
    let bits = to_bits binary64 x in
    if nat_lt (2047 * 2 ^ 52) (bits % 2 ^ 63) then codes "NaN"
    else sign_text (nat_le (2 ^ 63) bits) ++ size_text (bits % 2 ^ 63)

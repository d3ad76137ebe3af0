-- The digits that are kept read back, and so does their text.
use Rattle.std.proofs.Common.{◌≡◌, ℕ, zero, suc, ◌+◌, ◌-◌, ◌*◌, ◌/◌, ◌%◌, ◌^◌, ◌<◌, ◌≤◌, ◌⊎◌, pos, negsuc, Bool, true, false, cond, List, [], ◌∷◌, ◌++◌, length, get_or, take, drop, replicate, slice_range, refl, sym, ap, ◌∙◌, subst, inl, inr, arith, mul-one, pow-suc, pow-add, mul-le-mul_left, lt-ltb, le-ltb, eqb-true, length-append, length-take, length-drop, ltb, ltb-true, ltb-false, mul_assoc, take_at}
use native.Mathlib.Nat.{pow-le-pow_right}
use Rattle.std.specs.Prelude.{◌-ℤ◌}
use Rattle.std.proofs.lemmas.Bool.{cases_lt, cases_Bool}
use Rattle.std.proofs.lemmas.Fmt.{decimal_is_IsNumeral, decimal_nonempty, first_decimal, decimal_digit, decimal_step, length-decimal-le}
use Rattle.std.proofs.lemmas.List.{get_or_at, length-replicate}
use Rattle.std.specs.Fmt.{decimal, sign_text}
use Rattle.std.specs.Str.Parse.{digits_value, AllDigits}
use lib.Ieee.{binary64, fits, round, of_bits, to_bits}
use lib.Ieee.Bits.{of_bits-to_bits}
use lib.Ieee.Fits.{round-fits}
use Rattle.fast_float.specs.Rounding.{nearest_to_decimal, IsNearestBits}
use Rattle.fast_float.proofs.ExactLemmas.{ten_to_pos}
use Rattle.fast_float.proofs.Extremes.{round_tens}
use Rattle.ryu.specs.Plain.{IsTextOf, HasDigits, EndsAboveZero}
use Rattle.ryu.proofs.Texts.{whole_form, split_form, small_form, scientific_form}
use Rattle.otel_float.specs.FloatText.{whole, places, point, rounded, reads_back, count_from, kept_count, without_zeros, exponent_text, with_exponent, layout, short_text, finite_text}
use Rattle.otel_float.proofs.Counting.{has_count}
use Rattle.otel_float.proofs.Keeping.{count_here, count_on, count_none, zero_off, no_zero, no_more}
use Rattle.otel_float.proofs.Near.{has_room, whole_some, seventeen, point_is}
use Rattle.otel_float.proofs.Rounding.{rounded_size}

-- ---- what the test of the digits says
nearest_is : (d q : ℕ) → nearest_to_decimal binary64 false d (pos q -ℤ pos 400) ≡ round binary64 false (d * 10 ^ (q - 400)) (10 ^ (400 - q))
nearest_is d q =
    elim (cases_lt q 400) [
      | inl l ↦
          let e : 400 - q ≡ suc (400 - suc q) = omega arith in
          let none : q - 400 ≡ 0 = omega arith in
          ap (λ b. nearest_to_decimal binary64 false d (cond b (negsuc (400 - suc q)) (pos (q - 400)))) (lt-ltb q 400 l)
          ∙ ap (λ n. round binary64 false n (10 ^ suc (400 - suc q))) (sym (mul-one d) ∙ ap (λ n. d * 10 ^ n) (sym none))
          ∙ ap (λ n. round binary64 false (d * 10 ^ (q - 400)) (10 ^ n)) (sym e)
      | inr g ↦
          let none : 400 - q ≡ 0 = omega arith in
          ap (λ b. nearest_to_decimal binary64 false d (cond b (negsuc (400 - suc q)) (pos (q - 400)))) (le-ltb q 400 g)
          ∙ ap (λ n. round binary64 false (d * 10 ^ (q - 400)) (10 ^ n)) (sym none)
    ]

reads_nearest : (bits d q : ℕ) → bits < 2047 * 2 ^ 52 → reads_back bits d q ≡ true → IsNearestBits binary64 (d * 10 ^ (q - 400)) (10 ^ (400 - q)) bits
unfolding reads_back
reads_nearest bits d q finite h =
    let y = round binary64 false (d * 10 ^ (q - 400)) (10 ^ (400 - q)) in
    let e : to_bits binary64 y ≡ bits = ap (to_bits binary64) (sym (nearest_is d q)) ∙ eqb-true _ bits h in
    (ap (of_bits binary64) (sym e) ∙ of_bits-to_bits binary64 y (round-fits binary64 false _ _), omega arith)

-- ---- how many digits are kept
record IsCounted (bits n limit r : ℕ) : Type 0 where
  pub least : n ≤ r
  pub most : r ≤ limit
  pub says : (r ≡ limit) ⊎ (reads_back bits (rounded (whole bits) r) (point bits - r) ≡ true)

is_counted : (more bits n most : ℕ) → n + more ≡ most → IsCounted bits n most (count_from more bits n)
is_counted zero bits n most e = rw (count_none bits n) (record { least = omega arith; most = omega arith; says = inl (omega arith) })
is_counted (suc more) bits n most e =
    elim (cases_Bool (reads_back bits (rounded (whole bits) n) (point bits - n))) [
      | inl back ↦ rw (count_here more bits n back) (record { least = omega arith; most = omega arith; says = inr back })
      | inr away ↦ let r = is_counted more bits (suc n) most (omega arith) in rw (count_on more bits n away) (record { least = omega arith; most = r.most; says = r.says })
    ]

pub record IsKept (bits r : ℕ) : Type 0 where
  pub some : 1 ≤ r
  pub few : r ≤ 17
  pub says : (r ≡ 17) ⊎ (reads_back bits (rounded (whole bits) r) (point bits - r) ≡ true)

is_kept : (bits : ℕ) → IsKept bits (kept_count bits)
unfolding kept_count
is_kept bits =
    elim (cases_lt bits (2 ^ 52)) [
      | inl small ↦ let r = is_counted 16 bits 1 17 refl in rw (lt-ltb bits (2 ^ 52) small) (record { some = r.least; few = r.most; says = r.says })
      | inr large ↦ let r = is_counted 2 bits 15 17 refl in rw (le-ltb bits (2 ^ 52) large) (record { some = omega (arith, r.least); few = r.most; says = r.says })
    ]

-- ---- the zeros at their end
record IsTrimmed (digits power short at : ℕ) : Type 0 where
  pub zeros : ℕ
  pub same : short * 10 ^ zeros ≡ digits
  pub moved : at ≡ power + zeros
  pub last : 0 < short % 10

is_trimmed : (most digits power : ℕ) → 0 < digits → digits < 10 ^ suc most → IsTrimmed digits power (without_zeros most digits power).0 (without_zeros most digits power).1
is_trimmed zero digits power some small = rw (no_more digits power) (record { zeros = 0; same = mul-one digits; moved = omega arith; last = omega arith })
is_trimmed (suc most) digits power some small =
    elim (cases_lt 0 (digits % 10)) [
      | inl ends ↦ rw (no_zero most digits power (λ e. omega arith)) (record { zeros = 0; same = mul-one digits; moved = omega arith; last = ends })
      | inr none ↦
          let zero_is : digits % 10 ≡ 0 = omega arith in
          let r = is_trimmed most (digits / 10) (power + 1) (omega arith) (omega (arith, pow-suc 10 (suc most))) in
          let s = (without_zeros most (digits / 10) (power + 1)).0 in
          rw (zero_off most digits power zero_is)
          (record { zeros = suc r.zeros; same = ap (λ n. s * n) (pow-suc 10 r.zeros) ∙ omega (arith, r.same); moved = omega (arith, r.moved); last = r.last })
    ]

-- a decimal without them has the same worth
shorter : (bits digits power short at : ℕ) → IsTrimmed digits power short at → IsNearestBits binary64 (digits * 10 ^ (power - 400)) (10 ^ (400 - power)) bits
    → IsNearestBits binary64 (short * 10 ^ (at - 400)) (10 ^ (400 - at)) bits
shorter bits digits power short at trimmed near =
    let t = trimmed.zeros in
    let join : digits * 10 ^ (power - 400) ≡ short * 10 ^ (t + (power - 400)) =
    ap (λ n. n * 10 ^ (power - 400)) (sym trimmed.same) ∙ mul_assoc short (10 ^ t) (10 ^ (power - 400)) ∙ ap (λ n. short * n) (sym (pow-add 10 t (power - 400))) in (
      near.0 ∙ ap (λ n. round binary64 false n (10 ^ (400 - power))) join ∙ round_tens binary64 short (t + (power - 400)) (400 - power) (at - 400) (400 - at) (omega (arith, trimmed.moved)),
      near.1,
    )

-- ---- the layout
abbrev padded : List ℕ → List ℕ
padded ds = ds ++ replicate (17 - length ds) 48

part_is : (ds : List ℕ) → slice_range (padded ds) 0 (length ds) ≡ ds
part_is ds = take_at ds (replicate (17 - length ds) 48) (length ds - 0) (omega arith)

pub record AreShort (ds : List ℕ) : Type 0 where
  pub some : 0 < length ds
  pub few : length ds ≤ 17
  pub all : AllDigits 10 ds
  pub lead : 48 < get_or ds 0 0
  pub last : 48 < get_or ds (length ds - 1) 0

has_digits : (ds : List ℕ) → AreShort ds → HasDigits (padded ds) 0 (length ds)
has_digits ds short = record {
  room = (omega arith, short.some, short.few);
  long = ap length (part_is ds) ∙ omega arith;
  all = subst (AllDigits 10) (sym (part_is ds)) short.all;
  lead = subst (λ ts. 48 < get_or ts 0 0) (sym (part_is ds)) short.lead;
  bytes = ap (λ ts. ts ++ replicate (17 - length ds) 48) (sym (part_is ds));
}

ends : (ds : List ℕ) → AreShort ds → EndsAboveZero (padded ds) 0 (length ds)
ends ds short =
    let e : length ds - 0 - 1 ≡ length ds - 1 = omega arith in
    rw (part_is ds, e) short.last

module _ (ds : List ℕ) (q : ℕ) (short : AreShort ds) where
  abbrev end : ℕ
  end = q + length ds

  abbrev size : ℕ
  size = end - 401 + (401 - end)

  long_part : length (slice_range (padded ds) 0 (length ds)) ≡ length ds
  long_part = ap length (part_is ds)

  exponent_form : (negative : Bool) → size < 1000 → cond negative 0 size + (400 - q) ≡ q - 400 + (length ds - 1 + cond negative size 0) → cond negative 6 16 ≤ size → ltb end 401 ≡ negative
      → IsTextOf false 16 4 (with_exponent ds end) (digits_value 10 ds) q
  unfolding with_exponent exponent_text
  exponent_form true small places far is =
      let more = ltb 1 (length ds) in
      rw is
      (subst (λ ts. IsTextOf false 16 4 ((take 1 ts ++ cond more (46 ∷ drop 1 ts) []) ++ 101 ∷ ((45 ∷ []) ++ decimal size)) (digits_value 10 ts) q) (part_is ds)
      (scientific_form (padded ds) 0 (length ds) (has_digits ds short) false 16 4 q size more true small (λ e. omega (arith, long_part, ltb-true 1 (length ds) e)) (λ e. omega (arith, long_part, short.some, ltb-false 1 (length ds) e))
      (omega (arith, long_part, places)) far (ends ds short)))
  exponent_form false small places far is =
      let more = ltb 1 (length ds) in
      rw is
      (subst (λ ts. IsTextOf false 16 4 ((take 1 ts ++ cond more (46 ∷ drop 1 ts) []) ++ 101 ∷ ([] ++ decimal size)) (digits_value 10 ts) q) (part_is ds)
      (scientific_form (padded ds) 0 (length ds) (has_digits ds short) false 16 4 q size more false small (λ e. omega (arith, long_part, ltb-true 1 (length ds) e)) (λ e. omega (arith, long_part, short.some, ltb-false 1 (length ds) e))
      (omega (arith, long_part, places)) far (ends ds short)))

  far_down : end < 396 → IsTextOf false 16 4 (layout ds q) (digits_value 10 ds) q
  unfolding layout
  far_down low = rw (lt-ltb end 396 low) (exponent_form true (omega arith) (omega (arith, short.some)) (omega arith) (lt-ltb end 401 (omega arith)))

  far_up : 416 < end → q ≤ 800 → IsTextOf false 16 4 (layout ds q) (digits_value 10 ds) q
  unfolding layout
  far_up high most = rw (le-ltb end 396 (omega arith), lt-ltb 416 end high) (exponent_form false (omega (arith, short.few)) (omega (arith, short.some)) (omega arith) (le-ltb end 401 (omega arith)))

  small : 396 ≤ end → end < 401 → IsTextOf false 16 4 (layout ds q) (digits_value 10 ds) q
  unfolding layout
  small low high =
      rw (le-ltb end 396 low, le-ltb 416 end (omega arith), lt-ltb end 401 high)
      (subst (λ ts. IsTextOf false 16 4 (48 ∷ 46 ∷ (replicate (400 - end) 48 ++ ts)) (digits_value 10 ts) q) (part_is ds)
      (small_form (padded ds) 0 (length ds) (has_digits ds short) false q (400 - end) 16 4 (ends ds short) (omega arith) (omega arith)))

  split : 401 ≤ end → end ≤ 416 → q < 400 → IsTextOf false 16 4 (layout ds q) (digits_value 10 ds) q
  unfolding layout
  split low high less =
      rw (le-ltb end 396 (omega arith), le-ltb 416 end high, le-ltb end 401 low, lt-ltb q 400 less)
      (subst (λ ts. IsTextOf false 16 4 (take (end - 400) ts ++ 46 ∷ drop (end - 400) ts) (digits_value 10 ts) q) (part_is ds)
      (split_form (padded ds) 0 (length ds) (has_digits ds short) false q (end - 400) 16 4 (ends ds short) less (omega arith) (omega (arith, long_part)) (omega arith)))

  plain : end ≤ 416 → 400 ≤ q → IsTextOf false 16 4 (layout ds q) (digits_value 10 ds) q
  unfolding layout
  plain high more =
      rw (le-ltb end 396 (omega arith), le-ltb 416 end high, le-ltb end 401 (omega (arith, short.some)), le-ltb q 400 more)
      (subst (λ ts. IsTextOf false 16 4 ((ts ++ replicate (q - 400) 48) ++ 46 ∷ 48 ∷ []) (digits_value 10 ts) q) (part_is ds)
      (whole_form (padded ds) 0 (length ds) (has_digits ds short) false q (q - 400) 16 4 (omega arith) (omega arith)))

  pub laid_out : q ≤ 800 → IsTextOf false 16 4 (layout ds q) (digits_value 10 ds) q
  laid_out most =
      elim (cases_lt end 396) [
        | inl low ↦ far_down low
        | inr a ↦ elim (cases_lt 416 end) [
          | inl high ↦ far_up high most
          | inr b ↦ elim (cases_lt end 401) [
            | inl l ↦ small a l
            | inr g ↦ elim (cases_lt q 400) [ inl less ↦ split g b less | inr more ↦ plain b more ]
          ]
        ]
      ]

-- ---- how long it is
pub sign_short : (b : Bool) → length (sign_text b) ≤ 1
sign_short true = omega arith
sign_short false = omega arith

point_short : (ds : List ℕ) (b : Bool) → 0 < length ds → length (cond b (46 ∷ drop 1 ds) []) ≤ length ds
point_short ds true some = omega (arith, length-drop 1 ds)
point_short ds false some = omega arith

exponent_short : (end : ℕ) → end < 1400 → length (exponent_text end) ≤ 5
unfolding exponent_text
exponent_short end small =
    let n = end - 401 + (401 - end) in
    let few = length-decimal-le 3 n (omega arith) (omega arith) (omega arith) in
    let sign = sign_text (ltb end 401) in
    omega (arith, few, sign_short (ltb end 401), length-append sign (decimal n))

with_exponent_short : (ds : List ℕ) (end : ℕ) → AreShort ds → end < 1400 → length (with_exponent ds end) ≤ 23
unfolding with_exponent
with_exponent_short ds end short small =
    let rest = cond (ltb 1 (length ds)) (46 ∷ drop 1 ds) [] in
    omega (
      arith,
      short.few,
      length-append (take 1 ds ++ rest) (exponent_text end),
      length-append (take 1 ds) rest,
      length-take 1 ds,
      point_short ds (ltb 1 (length ds)) short.some,
      exponent_short end small,
    )

pub layout_short : (ds : List ℕ) (q : ℕ) → AreShort ds → q ≤ 800 → length (layout ds q) ≤ 23
unfolding layout
layout_short ds q short most =
    let end = q + length ds in
    let small : end < 1400 = omega (arith, short.few) in
    elim (cases_lt end 396) [
      | inl low ↦ rw (lt-ltb end 396 low) (with_exponent_short ds end short small)
      | inr a ↦ elim (cases_lt 416 end) [
        | inl high ↦ rw (le-ltb end 396 a, lt-ltb 416 end high) (with_exponent_short ds end short small)
        | inr b ↦ elim (cases_lt end 401) [
          | inl l ↦ rw (le-ltb end 396 a, le-ltb 416 end b, lt-ltb end 401 l) (omega (arith, short.few, length-append (replicate (400 - end) 48) ds, length-replicate {A = ℕ} (400 - end) 48))
          | inr g ↦ elim (cases_lt q 400) [
            | inl less ↦
                let n = end - 400 in
                rw (le-ltb end 396 a, le-ltb 416 end b, le-ltb end 401 g, lt-ltb q 400 less)
                (omega (arith, short.few, length-append (take n ds) (46 ∷ drop n ds), length-take n ds, length-drop n ds))
            | inr more ↦
                rw (le-ltb end 396 a, le-ltb 416 end b, le-ltb end 401 g, le-ltb q 400 more)
                (omega (arith, short.few, length-append (ds ++ replicate (q - 400) 48) (46 ∷ 48 ∷ []), length-append ds (replicate (q - 400) 48), length-replicate {A = ℕ} (q - 400) 48))
          ]
        ]
      ]
    ]

-- ---- the digits of a number that does not end in 0
last_digit : (n : ℕ) → n < 2 ^ 64 → 0 < n % 10 → 48 < get_or (decimal n) (length (decimal n) - 1) 0
last_digit n fits some =
    elim (cases_lt n 10) [
      | inl one ↦ rw (decimal_digit n one) (omega arith)
      | inr more ↦
          let ds = decimal (n / 10) in
          let e = decimal_step n more fits in
          let at : length ds ≡ length (ds ++ (48 + n % 10) ∷ []) - 1 = omega (arith, length-append ds ((48 + n % 10) ∷ [])) in
          rw e (subst (λ (x : ℕ). 48 < x) (sym (get_or_at ds (48 + n % 10) [] 0 _ at)) (omega arith))
    ]

are_short : (n : ℕ) → n < 10 ^ 17 → 0 < n % 10 → AreShort (decimal n)
are_short n small some =
    let fits : n < 2 ^ 64 = omega arith in
    let numeral = decimal_is_IsNumeral n fits in
    record {
      some = decimal_nonempty n fits;
      few = length-decimal-le 17 n (omega arith) small fits;
      all = numeral.0.1;
      lead = first_decimal n (omega arith) fits;
      last = last_digit n fits some;
    }

short_below : (digits short t : ℕ) → short * 10 ^ t ≡ digits → digits ≤ 10 ^ 17 → 0 < short % 10 → short < 10 ^ 17
short_below digits short zero e h some = omega arith
short_below digits short (suc t) e h some =
    let one : 1 ≤ 10 ^ suc t = ten_to_pos (suc t) in
    let ten : 10 ≤ 10 ^ suc t = omega (arith, pow-suc 10 t, ten_to_pos t) in
    omega (arith, mul-le-mul_left short ten)

-- ---- all together: a text of some digits and a power that read back
pub record IsTextFor (bits : ℕ) (text : List ℕ) : Type 0 where
  pub digits : ℕ
  pub power : ℕ
  pub text_of : IsTextOf false 16 4 text digits power
  pub near : IsNearestBits binary64 (digits * 10 ^ (power - 400)) (10 ^ (400 - power)) bits
  pub short : length text ≤ 23

pub finite_is : (bits : ℕ) → 0 < bits → bits < 2047 * 2 ^ 52 → IsTextFor bits (finite_text bits)
unfolding finite_text short_text
finite_is bits some finite =
    let w = whole bits in
    let found = has_count w (whole_some bits some) in
    let c = found.0 in
    let count = found.1 in
    let room = has_room bits c some finite count in
    let at = point bits in
    let r = kept_count bits in
    let kept = is_kept bits in
    let d = rounded w r in
    let sizes = rounded_size w r c kept.some count in
    let ten : 0 < 10 = omega arith in
    let most : 10 ^ r ≤ 10 ^ 17 = pow-le-pow_right ten kept.few in
    let near : IsNearestBits binary64 (d * 10 ^ (at - r - 400)) (10 ^ (400 - (at - r))) bits =
    elim kept.says [
      | inl all ↦ subst (λ n. IsNearestBits binary64 (rounded w n * 10 ^ (at - n - 400)) (10 ^ (400 - (at - n))) bits) (sym all) (seventeen bits c some finite count)
      | inr reads ↦ reads_nearest bits d (at - r) finite reads
    ] in
    let trimmed = is_trimmed 17 d (at - r) sizes.0 (omega (arith, sizes.1, most)) in
    let short = (without_zeros 17 d (at - r)).0 in
    let power = (without_zeros 17 d (at - r)).1 in
    let below = short_below d short trimmed.zeros trimmed.same (omega (arith, sizes.1, most)) trimmed.last in
    let numeral = decimal_is_IsNumeral short (omega arith) in
    let upper : power ≤ 800 = omega (arith, trimmed.moved, point_is bits (suc c) count.is, room.up, zeros_few d short trimmed.zeros trimmed.same sizes.0 (omega (arith, sizes.1, most))) in
    record {
      digits = short;
      power = power;
      text_of = subst (λ n. IsTextOf false 16 4 (layout (decimal short) power) n power) numeral.1 (laid_out (decimal short) power (are_short short below trimmed.last) upper);
      near = shorter bits d (at - r) short power trimmed near;
      short = layout_short (decimal short) power (are_short short below trimmed.last) upper;
    }
  where
    zeros_few : (digits short t : ℕ) → short * 10 ^ t ≡ digits → 0 < digits → digits ≤ 10 ^ 17 → t ≤ 17
    zeros_few digits zero t e some h = absurd (omega arith)
    zeros_few digits (suc short) t e some h =
        elim (cases_lt t 18) [
          | inl l ↦ omega arith
          | inr g ↦
              let ten : 0 < 10 = omega arith in
              let many : 10 ^ 18 ≤ 10 ^ t = pow-le-pow_right ten g in
              absurd (omega arith)
        ]

-- Numbers and ids that are written are read back.
use Rattle.std.proofs.Common.{◌≡◌, ◌≢◌, ◌+◌, ◌-◌, ◌*◌, ◌/◌, ◌%◌, ◌^◌, ◌<◌, ◌&&◌, ℕ, ℤ, pos, negsuc, zero, suc}
use Rattle.std.proofs.Common.{Bool, true, false, cond, ltb, eqb, List, [], ◌∷◌, ◌++◌, length, get_or, drop, take}
use Rattle.std.proofs.Common.{Option, Some, None, option_and_then, FitsSigned, refl, ap, sym, ◌∙◌, arith}
use Rattle.std.proofs.Common.{append-nil, eq-eqb}
use Rattle.std.proofs.Math.Nat.{pow-suc}
use Rattle.std.proofs.lemmas.Bool.{lt-ltb, le-leb}
use Rattle.std.proofs.lemmas.Bool.Decides.{nat_tests}
use Rattle.std.proofs.lemmas.Fmt.{decimal_is_IsNumeral, decimal_nonempty}
use Rattle.std.proofs.lemmas.Float.Parse.{scan_numeral-text_of}
use Rattle.std.proofs.lemmas.List.{take_all, drop_all}
use Rattle.std.proofs.lemmas.Str.Parse.{digit_at}
use Rattle.std.specs.Char.{digit_value}
use Rattle.std.specs.Fmt.{decimal, signed_decimal}
use Rattle.std.specs.Int.{w64}
use Rattle.std.specs.Str.Parse.{AllDigits, digits_value}
use Rattle.fast_float.specs.Text.{Parts, has_digits, scan}
use Rattle.opentelemetry.specs.Hex.{hex_digit, hex_text}
use Rattle.opentelemetry.proofs.HexRead.{hex_text_IsHexText}
use Rattle.otel_otlp_read.specs.Numbers.{digits_after, id_number, is_integer, is_within, parent_number, whole_in}
use Rattle.otel_otlp_read.specs.Numbers.{whole_number}

-- digits alone, as the parts of a numeral
abbrev digits_alone : List ℕ → Parts
digits_alone ds = record {
  whole = ds;
  point = false;
  fraction = [];
  exponent_negative = false;
  exponent = [];
  len = length ds;
}

scan_digits : (ds : List ℕ) → AllDigits 10 ds → scan ds ≡ digits_alone ds
scan_digits ds h =
    ap scan (sym (append-nil ds))
    ∙ scan_numeral-text_of (digits_alone ds) (record {
      whole_digits = h;
      fraction_digits = tt;
      exponent_digits = tt;
      no_point = λ e. refl;
      no_exponent = λ e. refl;
      len_is = ap length (sym (append-nil ds));
    })

-- the whole number that digits alone write
whole_alone : (ds : List ℕ) (n : ℕ) → digits_value 10 ds ≡ n → n < 2 ^ 64 → whole_in (digits_alone ds) ≡ Some n
whole_alone ds n is small =
    let all = append-nil ds in
    let front : take (length ds + 0) (ds ++ []) ≡ ds =
    ap (take (length ds + 0)) all ∙ take_all (length ds + 0) ds (omega arith) in
    let back : drop (length ds + 0) (ds ++ []) ≡ [] =
    ap (drop (length ds + 0)) all ∙ drop_all (length ds + 0) ds (omega arith) in
    let power : length ds + 0 - length (ds ++ []) ≡ 0 = ap (λ xs. length ds + 0 - length xs) all ∙ omega arith in
    let wide : ℕ → Option ℕ = λ m. cond (ltb m (2 ^ 64)) (Some m) None in
    ap (λ xs. cond (eqb (digits_value 10 xs) 0)
    (wide (digits_value 10 (take (length ds + 0) (ds ++ [])) * 10 ^ (length ds + 0 - length (ds ++ [])))) None) back
    ∙ ap (λ xs. wide (digits_value 10 xs * 10 ^ (length ds + 0 - length (ds ++ [])))) front
    ∙ ap (λ k. wide (digits_value 10 ds * 10 ^ k)) power
    ∙ ap (λ m. wide (m * 1)) is
    ∙ ap wide (omega arith)
    ∙ ap (λ t. cond t (Some n) None) (lt-ltb n (2 ^ 64) small)

-- the decimal of a number of 64 bits is that number
pub decimal_whole : (n : ℕ) → n < 2 ^ 64 → whole_number (decimal n) ≡ Some n
unfolding whole_number
decimal_whole n small =
    let is = decimal_is_IsNumeral n small in
    let long = length (decimal n) in
    let same : eqb long long ≡ true = eq-eqb long long refl in
    let some : ltb 0 (long + 0) ≡ true = lt-ltb 0 (long + 0) (omega (arith, decimal_nonempty n small)) in
    ap (λ p. cond (has_digits p && (eqb p.len long)) (whole_in p) None) (scan_digits (decimal n) is.0.1)
    ∙ ap (λ t. cond (t && eqb long long) (whole_in (digits_alone (decimal n))) None) some
    ∙ ap (λ t. cond t (whole_in (digits_alone (decimal n))) None) same
    ∙ whole_alone (decimal n) n is.1 small

-- bytes that do not begin with a minus
plain_integer : (bs : List ℕ) → 0 < length bs → get_or bs 0 0 ≢ 45
    → is_integer bs ≡ is_within (2 ^ 63 - 1) (whole_number bs)
unfolding is_integer
plain_integer [] some plain = absurd (omega arith)
plain_integer (b ∷ bs) some plain =
    let other : eqb b 45 ≡ false = grind (arith, nat_tests) in
    ap (λ t. cond t (is_within (2 ^ 63) (whole_number bs)) (is_within (2 ^ 63 - 1) (whole_number (b ∷ bs)))) other

-- the decimal of an integer of 64 bits is one
pub signed_integer : (z : ℤ) → FitsSigned w64 z → is_integer (signed_decimal z) ≡ true
unfolding is_integer
signed_integer (pos n) h =
    let small : n < 2 ^ 63 = h.sfits in
    let some : 0 < length (decimal n) = decimal_nonempty n (omega arith) in
    let first = digit_at (decimal n) 0 (decimal_is_IsNumeral n (omega arith)).0.1 some in
    plain_integer (decimal n) some (λ e. omega (arith, first.0))
    ∙ ap (is_within (2 ^ 63 - 1)) (decimal_whole n (omega arith)) ∙ le-leb n (2 ^ 63 - 1) (omega arith)
signed_integer (negsuc n) h =
    let small : n < 2 ^ 63 = h.sfits in
    ap (is_within (2 ^ 63)) (decimal_whole (suc n) (omega arith)) ∙ le-leb (suc n) (2 ^ 63) (omega arith)

-- digits and more digits
after_test : (t : Bool) (a b : Option ℕ) (next : ℕ → Option ℕ) → a ≡ option_and_then next b
    → cond t a None ≡ option_and_then next (cond t b None)
after_test true a b next e = e
after_test false a b next e = refl

digits_after-append : (radix n : ℕ) (bs cs : List ℕ)
    → digits_after radix n (bs ++ cs) ≡ option_and_then (λ m. digits_after radix m cs) (digits_after radix n bs)
digits_after-append radix n [] cs = refl
digits_after-append radix n (b ∷ bs) cs =
    let more = n * radix + digit_value b in
    after_test (ltb (digit_value b) radix) (digits_after radix more (bs ++ cs)) (digits_after radix more bs)
    (λ m. digits_after radix m cs) (digits_after-append radix more bs cs)

-- the digit of a number below sixteen stands for it
hex_digit_value : (d : ℕ) → d < 16 → digit_value (hex_digit d) ≡ d
hex_digit_value d small = grind (arith, nat_tests)

one_digit : (n d : ℕ) → d < 16 → digits_after 16 n (hex_digit d ∷ []) ≡ Some (n * 16 + d)
one_digit n d small =
    let value = hex_digit_value d small in
    ap (λ v. cond (ltb v 16) (Some (n * 16 + v)) None) value
    ∙ ap (λ t. cond t (Some (n * 16 + d)) None) (lt-ltb d 16 small)

hex_read : (count n : ℕ) → n < 16 ^ count → digits_after 16 0 (hex_text count n) ≡ Some n
unfolding hex_text
hex_read zero n small = let none : 0 ≡ n = omega arith in ap Some none
hex_read (suc count) n small =
    let front : n / 16 < 16 ^ count = omega (arith, pow-suc 16 count) in
    let whole : n / 16 * 16 + n % 16 ≡ n = omega arith in
    digits_after-append 16 0 (hex_text count (n / 16)) (hex_digit (n % 16) ∷ [])
    ∙ ap (option_and_then (λ m. digits_after 16 m (hex_digit (n % 16) ∷ []))) (hex_read count (n / 16) front)
    ∙ one_digit (n / 16) (n % 16) (omega arith) ∙ ap Some whole

-- the text of an id is read as that id
pub hex_id : (count n : ℕ) → n < 16 ^ count → id_number count (hex_text count n) ≡ Some n
unfolding id_number
hex_id count n small =
    let long : eqb (length (hex_text count n)) count ≡ true =
    grind (arith, nat_tests, (hex_text_IsHexText count n).0) in
    ap (λ t. cond t (digits_after 16 0 (hex_text count n)) None) long ∙ hex_read count n small

-- the same of a parent's
pub hex_parent : (n : ℕ) → n < 16 ^ 16 → parent_number (hex_text 16 n) ≡ Some n
hex_parent n small =
    some_parent (hex_text 16 n) (omega (arith, (hex_text_IsHexText 16 n).0)) ∙ hex_id 16 n small
  where
    some_parent : (bs : List ℕ) → 0 < length bs → parent_number bs ≡ id_number 16 bs
    some_parent [] some = absurd (omega arith)
    some_parent (b ∷ bs) some = refl

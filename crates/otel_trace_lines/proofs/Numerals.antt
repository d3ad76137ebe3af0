-- What std's `parse` answers to digits alone is what they write.
use Rattle.std.proofs.Common.{◌≡◌, ◌≢◌, ◌+◌, ◌<◌, ◌^◌, ℕ, ℤ, pos, neg_ℤ, Bool, true, false, cond, eqb, List, [], ◌∷◌}
use Rattle.std.proofs.Common.{length, get_or, drop, eqb-true, ◌≤◌, Option, Some, None, Result, Ok, Err, refl, sym, ap, ◌∙◌, arith}
use Rattle.std.proofs.lemmas.Bool.Decides.{nat_tests}
use Rattle.std.proofs.lemmas.List.Elements.{All-from_get_or}
use Rattle.std.proofs.lemmas.Str.Parse.{IsNumeralModel, not_in_digits, numerals_by_value, parse_plain, parse_signed_minus, parse_signed_plain, tells_all_ascii_digits}
use Rattle.std.specs.Int.{w64}
use Rattle.std.specs.Option.{option_map}
use Rattle.std.specs.Result.{OkIff, result_ok}
use Rattle.std.specs.Str.{all_ascii_digits}
use Rattle.std.specs.Str.Parse.{ParsesSigned, ParsesUnsigned, digits_value}
use Rattle.otel_trace_lines.specs.Lines.{IsField}
use Rattle.otel_trace_lines.specs.Numbers.{decimal_in, integer_in, number_below}

-- one value is found at most, and none where none is
pub one_value : {X : Type 0} {found : Option X} {x y : X} → found ≡ Some x → found ≡ Some y → x ≡ y
one_value {X} {found} {x} {y} f g = let same : Some x ≡ Some y = sym f ∙ g in cc

pub none_found : {X : Type 0} {found : Option X} → None ≡ found → (x : X) → found ≡ Some x → ⊥
none_found {X} {found} none x h = let same : None ≡ Some x = none ∙ h in cc

own : IsNumeralModel (λ ds. all_ascii_digits ds ≡ true) (digits_value 10)
own = numerals_by_value (λ ds. all_ascii_digits ds ≡ true) tells_all_ascii_digits

-- what is a numeral below a bound
pub below_is : (bound : ℕ) (text : List ℕ) (n : ℕ) → number_below bound text ≡ Some n
    → (0 < length text) × (all_ascii_digits text ≡ true) × (digits_value 10 text < bound) × (n ≡ digits_value 10 text)
unfolding number_below
below_is bound text n h = grind (arith, nat_tests)

-- what is found of digits, where they are found just if there are some below a bound
found : {E : Type 0} (bound : ℕ) (text : List ℕ) (r : Result ℕ E)
    → OkIff r ((all_ascii_digits text ≡ true) × (0 < length text) × (digits_value 10 text < bound)) (digits_value 10 text)
    → result_ok r ≡ number_below bound text
unfolding number_below
found bound text (Ok n) h = grind (arith, nat_tests)
found bound text (Err e) h = grind (arith, nat_tests)

-- digits alone after no plus
pub decimal_found : {E : Type 0} (text : List ℕ) (r : Result ℕ E) → ParsesUnsigned 64 10 text r → get_or text 0 0 ≢ 43
    → result_ok r ≡ decimal_in text
decimal_found text r h plain = found (2 ^ 64) text r (parse_plain own 64 text r h plain)

-- what does not begin with a digit is no number
pub no_digit : (bound : ℕ) (text : List ℕ) → get_or text 0 0 ≡ 43 → number_below bound text ≡ None
unfolding number_below
no_digit bound [] h = cc
no_digit bound (b ∷ bs) h = let plus : b ≡ 43 = h in rw plus refl

-- and after a minus, or neither sign
negated : {E : Type 0} (bound : ℕ) (text : List ℕ) (r : Result ℤ E)
    → OkIff r ((all_ascii_digits text ≡ true) × (0 < length text) × (digits_value 10 text < bound))
    (neg_ℤ (pos (digits_value 10 text))) → result_ok r ≡ option_map (λ n. neg_ℤ (pos n)) (number_below bound text)
unfolding number_below
negated bound text (Ok n) h = grind (arith, nat_tests)
negated bound text (Err e) h = grind (arith, nat_tests)

kept : {E : Type 0} (bound : ℕ) (text : List ℕ) (r : Result ℤ E)
    → OkIff r ((all_ascii_digits text ≡ true) × (0 < length text) × (digits_value 10 text < bound))
    (pos (digits_value 10 text)) → result_ok r ≡ option_map pos (number_below bound text)
unfolding number_below
kept bound text (Ok n) h = grind (arith, nat_tests)
kept bound text (Err e) h = grind (arith, nat_tests)

up_to : {E : Type 0} (text : List ℕ) (most : ℕ) (x : ℤ) (r : Result ℤ E)
    → OkIff r ((all_ascii_digits text ≡ true) × (0 < length text) × (digits_value 10 text ≤ most)) x
    → OkIff r ((all_ascii_digits text ≡ true) × (0 < length text) × (digits_value 10 text < most + 1)) x
up_to text most x (Ok n) h = ((h.0.0, h.0.1, omega (arith, h.0.2)), h.1)
up_to text most x (Err e) h = λ p. h (p.0, p.1, omega (arith, p.2))

integer_by : {E : Type 0} (minus : Bool) (text : List ℕ) (r : Result ℤ E) → ParsesSigned w64 10 text r
    → get_or text 0 0 ≢ 43 → eqb (get_or text 0 0) 45 ≡ minus → result_ok r ≡ integer_in text
unfolding integer_in
integer_by true text r h plain is =
    let first : get_or text 0 0 ≡ 45 = eqb-true (get_or text 0 0) 45 is in
    negated (2 ^ 63 + 1) (drop 1 text) r
    (up_to (drop 1 text) (2 ^ 63) (neg_ℤ (pos (digits_value 10 (drop 1 text)))) r (parse_signed_minus own w64 text r h first))
    ∙ ap (λ t. cond t (option_map (λ n. neg_ℤ (pos n)) (number_below (2 ^ 63 + 1) (drop 1 text)))
    (option_map pos (number_below (2 ^ 63) text))) (sym is)
integer_by false text r h plain is =
    let first : get_or text 0 0 ≢ 45 = λ e. cc (e, is) in
    kept (2 ^ 63) text r (parse_signed_plain own w64 text r h plain first)
    ∙ ap (λ t. cond t (option_map (λ n. neg_ℤ (pos n)) (number_below (2 ^ 63 + 1) (drop 1 text)))
    (option_map pos (number_below (2 ^ 63) text))) (sym is)

pub integer_found : {E : Type 0} (text : List ℕ) (r : Result ℤ E) → ParsesSigned w64 10 text r → get_or text 0 0 ≢ 43
    → result_ok r ≡ integer_in text
integer_found text r h plain = integer_by (eqb (get_or text 0 0) 45) text r h plain refl

pub no_integer : (text : List ℕ) → get_or text 0 0 ≡ 43 → integer_in text ≡ None
unfolding integer_in
no_integer [] h = cc
no_integer (b ∷ bs) h = let plus : b ≡ 43 = h in rw plus (ap (option_map pos) (no_digit (2 ^ 63) (43 ∷ bs) refl))

-- a number has no space
pub number_is_field : (text : List ℕ) (n : ℕ) → decimal_in text ≡ Some n → IsField text
number_is_field text n h =
    let is = below_is (2 ^ 64) text n h in
    (is.0, All-from_get_or (λ b. b ≢ 32) text 0 (not_in_digits own text 32 is.1 (λ r. omega (arith, r.0))))

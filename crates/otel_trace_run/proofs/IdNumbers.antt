-- The text of an id is read as that id.
use Rattle.std.proofs.Common.{◌≡◌, ℕ, zero, suc, ◌+◌, ◌*◌, ◌/◌, ◌%◌, ◌^◌, ◌<◌, ◌&&◌, Bool, true, false, cond, eqb}
use Rattle.std.proofs.Common.{List, [], ◌∷◌, ◌++◌, length, Some, None, ap, refl, ◌∙◌, arith, eq-eqb, eqb-true}
use Rattle.std.proofs.lemmas.Bool.Decides.{nat_tests}
use Rattle.std.proofs.lemmas.List.Elements.{All-from_recursion, recursion_from_All}
use Rattle.std.proofs.Math.Nat.{pow-suc}
use Rattle.std.specs.Char.{digit_value}
use Rattle.std.specs.List.{AllByRecursion, list_all}
use Rattle.std.specs.Str.Parse.{digits_value, digits_value_after}
use Rattle.opentelemetry.proofs.HexRead.{hex_text_IsHexText}
use Rattle.opentelemetry.specs.Hex.{IsHexDigit, IsHexText, hex_digit, hex_text}
use Rattle.otel_trace_run.specs.Words.{is_hex_digit, trace_id_in}

-- a digit more
one_more : (n : ℕ) (bs : List ℕ) (b : ℕ)
    → digits_value_after 16 n (bs ++ b ∷ []) ≡ digits_value_after 16 n bs * 16 + digit_value b
one_more n [] b = refl
one_more n (c ∷ bs) b = one_more (n * 16 + digit_value c) bs b

value_of_digit : (d : ℕ) → d < 16 → digit_value (hex_digit d) ≡ d
value_of_digit d small = grind (arith, nat_tests)

-- the digits of a number write it
value_of_text : (count n : ℕ) → n < 16 ^ count → digits_value 16 (hex_text count n) ≡ n
unfolding hex_text
value_of_text zero n small = omega arith
value_of_text (suc count) n small =
    let front : n / 16 < 16 ^ count = omega (arith, pow-suc 16 count) in
    omega (
      arith,
      one_more 0 (hex_text count (n / 16)) (hex_digit (n % 16)),
      value_of_text count (n / 16) front,
      value_of_digit (n % 16) (omega arith),
    )

-- the test of a digit, and of digits
are_told : (bs : List ℕ) → AllByRecursion IsHexDigit bs → list_all is_hex_digit bs ≡ true
are_told [] all = refl
are_told (b ∷ bs) all = let rest = are_told bs all.1 in let here = all.0 in grind (arith, nat_tests)

are_digits : (bs : List ℕ) → list_all is_hex_digit bs ≡ true → AllByRecursion IsHexDigit bs
are_digits [] all = tt
are_digits (b ∷ bs) all =
    let rest : list_all is_hex_digit bs ≡ true = grind (arith, nat_tests) in
    (grind (arith, nat_tests), are_digits bs rest)

-- the text of an id is read as that id, and what is read is such a text
pub id_read : (id : ℕ) (text : List ℕ) → id < 16 ^ 32 → text ≡ hex_text 32 id → trace_id_in text ≡ Some id
unfolding trace_id_in
id_read id text small is =
    let hex = hex_text_IsHexText 32 id in
    let long : length text ≡ 32 = ap length is ∙ hex.0 in
    let digits : list_all is_hex_digit text ≡ true =
    ap (list_all is_hex_digit) is ∙ are_told (hex_text 32 id) (recursion_from_All IsHexDigit (hex_text 32 id) hex.1) in
    let value : digits_value 16 text ≡ id = ap (digits_value 16) is ∙ value_of_text 32 id small in
    ap (λ t. cond (t && list_all is_hex_digit text) (Some (digits_value 16 text)) None) (eq-eqb (length text) 32 long)
    ∙ ap (λ t. cond t (Some (digits_value 16 text)) None) digits ∙ ap Some value

no_id_by : (long digits : Bool) (text : List ℕ) → eqb (length text) 32 ≡ long → list_all is_hex_digit text ≡ digits
    → (IsHexText 32 text → ⊥) → cond (long && digits) (Some (digits_value 16 text)) None ≡ None
no_id_by true true text l d none =
    absurd (none (eqb-true (length text) 32 l, All-from_recursion IsHexDigit text (are_digits text d)))
no_id_by true false text l d none = refl
no_id_by false digits text l d none = refl

pub no_id : (text : List ℕ) → (IsHexText 32 text → ⊥) → trace_id_in text ≡ None
unfolding trace_id_in
no_id text none = no_id_by (eqb (length text) 32) (list_all is_hex_digit text) text refl refl none

-- The text of each float reads back.
use Rattle.std.proofs.Common.{◌≡◌, ℕ, ◌*◌, ◌%◌, ◌^◌, ◌≤◌, length, length-append, Bool, true, false, not, List, [], ◌∷◌, ◌++◌, Some, refl, sym, ap, ◌∙◌, subst, inl, inr, arith, leb, ltb, T, lt-ltb, le-ltb, eq-eqb, ne_eqb, true≢false}
use Rattle.std.proofs.lemmas.Bool.{cases_Bool, cases_lt, cases_eq}
use Rattle.std.specs.Fmt.{sign_text}
use Rattle.std.specs.Float.{float_is_finite}
use lib.Ieee.{Float, binary64, nan, inf, fits, neg, is_nan, to_bits}
use lib.Ieee.Bits.{of_bits-to_bits, to_bits-lt, nan_bits_is, nan_bits_above}
use Rattle.fast_float.specs.Parse.{read_float, parse_float}
use Rattle.fast_float.specs.Text.{scan}
use Rattle.fast_float.proofs.Extremes.{nearest_of_zero}
use Rattle.fast_float.proofs.Patterns.{infinite}
use Rattle.fast_float.proofs.Writing.{parse_float-text_of}
use Rattle.ryu.specs.Plain.{IsPlainNumber}
use Rattle.ryu.specs.Sign.{IsSignAndSize}
use Rattle.ryu.proofs.Plus.{without_plus}
use Rattle.ryu.proofs.Signs.{parts, only_nan}
use Rattle.ryu.proofs.Texts.{zero_text, nearest_is}
use Rattle.otel_float.specs.FloatText.{finite_text, size_text, float_text}
use Rattle.otel_float.proofs.Reading.{IsTextFor, finite_is, sign_short}

pub record Reads (x : Float) (text : List ℕ) : Type 0 where
  pub parses : parse_float binary64 text ≡ Some x
  pub plain : float_is_finite x ≡ true → IsPlainNumber text
  pub short : length text ≤ 24

-- a sign before a text of the size
signed : (x : Float) (negative : Bool) (bits : ℕ) (text : List ℕ) → IsSignAndSize binary64 x negative bits → IsTextFor bits text → Reads x (sign_text negative ++ text)
signed x negative bits text split has =
    let t = has.text_of in
    let p = t.0 in
    let bytes = ap (λ l. sign_text negative ++ l) (t.1 ∙ without_plus p) in
    record {
      parses = rw bytes (parse_float-text_of binary64 negative p t.2.well_formed t.2.whole ∙ ap Some (nearest_is binary64 x negative bits has.digits has.power p split has.near t.3));
      plain = λ _. (negative, p, bytes, t.2);
      short = omega (arith, length-append (sign_text negative) text, sign_short negative, has.short);
    }

zero_is : IsTextFor 0 (48 ∷ 46 ∷ 48 ∷ [])
zero_is = record { digits = 0; power = 400; text_of = zero_text false 16 4; near = nearest_of_zero binary64 0 1 (omega arith) refl; short = omega arith }

infinity_reads : (negative : Bool) → parse_float binary64 (sign_text negative ++ 105 ∷ 110 ∷ 102 ∷ []) ≡ Some (inf negative)
unfolding read_float scan
infinity_reads true = refl
infinity_reads false = refl

nan_reads : parse_float binary64 (78 ∷ 97 ∷ 78 ∷ []) ≡ Some nan
unfolding read_float scan
nan_reads = refl

not_finite : (negative : Bool) → float_is_finite (inf negative) ≡ false
unfolding float_is_finite
not_finite negative = refl

nan_not_finite : float_is_finite nan ≡ false
unfolding float_is_finite
nan_not_finite = refl

infinity_is : (x : Float) (negative : Bool) → IsSignAndSize binary64 x negative (2047 * 2 ^ 52) → inf negative ≡ x
unfolding neg
infinity_is x true split = sym (ap neg (infinite binary64)) ∙ split.same
infinity_is x false split = sym (infinite binary64) ∙ split.same

infinite_is : (x : Float) (negative : Bool) → IsSignAndSize binary64 x negative (2047 * 2 ^ 52) → Reads x (sign_text negative ++ 105 ∷ 110 ∷ 102 ∷ [])
infinite_is x negative split =
    let e = infinity_is x negative split in
    record { parses = infinity_reads negative ∙ ap Some e; plain = λ h. absurd (true≢false (sym h ∙ sym (ap float_is_finite e) ∙ not_finite negative)); short = omega (arith, length-append (sign_text negative) (105 ∷ 110 ∷ 102 ∷ []), sign_short negative) }

sized : (x : Float) (negative : Bool) (bits : ℕ) → IsSignAndSize binary64 x negative bits → Reads x (sign_text negative ++ size_text bits)
unfolding size_text
sized x negative bits split =
    elim (cases_eq bits 0) [
      | inl none ↦ rw (eq-eqb bits 0 none) (signed x negative bits _ split (subst (λ n. IsTextFor n (48 ∷ 46 ∷ 48 ∷ [])) (sym none) zero_is))
      | inr some ↦ elim (cases_lt bits (2047 * 2 ^ 52)) [
        | inl finite ↦ rw (ne_eqb bits 0 some, lt-ltb bits (2047 * 2 ^ 52) finite) (signed x negative bits (finite_text bits) split (finite_is bits (omega arith) finite))
        | inr large ↦
            let at : bits ≡ 2047 * 2 ^ 52 = omega (arith, split.bound) in
            rw (ne_eqb bits 0 some, le-ltb bits (2047 * 2 ^ 52) large) (infinite_is x negative (subst (IsSignAndSize binary64 x negative) at split))
      ]
    ]

pub nan_test : (x : Float) → T (fits binary64 x) → ltb (2047 * 2 ^ 52) (to_bits binary64 x % 2 ^ 63) ≡ is_nan x
nan_test x h = sym (nan_bits_above binary64 (to_bits binary64 x)) ∙ nan_bits_is binary64 (to_bits binary64 x) ∙ ap is_nan (of_bits-to_bits binary64 x h)

number : (b : Bool) → b ≡ false → T (not b)
number b e = subst (λ (k : Bool). T (not k)) (sym e) tt

pub reads : (x : Float) → T (fits binary64 x) → Reads x (float_text x)
unfolding float_text
reads x h =
    let bits = to_bits binary64 x in
    elim (cases_Bool (is_nan x)) [
      | inl none ↦
          let e = only_nan x (ap not none) in
          rw (nan_test x h ∙ none) (record { parses = nan_reads ∙ ap Some e; plain = λ f. absurd (true≢false (sym f ∙ sym (ap float_is_finite e) ∙ nan_not_finite)); short = omega arith })
      | inr some ↦
          rw (nan_test x h ∙ some) (sized x (leb (2 ^ 63) bits) (bits % 2 ^ 63) (parts binary64 x bits (of_bits-to_bits binary64 x h) (to_bits-lt binary64 x h) (number (is_nan x) some)))
    ]

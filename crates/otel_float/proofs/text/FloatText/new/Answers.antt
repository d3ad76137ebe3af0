use Rattle.std.proofs.Common.{◌≡◌, ℕ, ◌*◌, ◌%◌, ◌^◌, ◌<◌, ◌≤◌, true, List, length, ◌++◌, Some, T, sym, ap, ◌∙◌, subst, lt-ltb, le-ltb, le-leb}
use Rattle.std.specs.Bool.{passes}
use Rattle.std.specs.Fmt.{sign_text}
use Rattle.std.specs.Prelude.{codes}
use Rattle.std.specs.Float.{Float, binary64, float_is_finite}
use lib.Ieee.{fits, to_bits}
use Rattle.std.proofs.lemmas.Bool.{lt-leb}
use Rattle.fast_float.specs.Parse.{parse_float}
use Rattle.ryu.specs.Plain.{IsPlainNumber}
use Rattle.otel_float.specs.FloatText as spec
use Rattle.otel_float.proofs.Texts.{reads}
use Rattle.otel_float.proofs.text.FloatText.new.Goals as goal
use Rattle.otel_float.proofs.text.FloatText.new.Goals.{then-bits-ge-SIGN, else-bits-ge-SIGN}

no_number : (x : Float) (bits : ℕ) (text : List ℕ) → bits ≡ to_bits binary64 x → 2047 * 2 ^ 52 < bits % 2 ^ 63 → text ≡ codes "NaN" → text ≡ spec.float_text x
unfolding spec.float_text
no_number x bits text e large is = rw (← e, lt-ltb (2047 * 2 ^ 52) (bits % 2 ^ 63) large) is

negative : (x : Float) (bits : ℕ) (text : List ℕ) → bits ≡ to_bits binary64 x → bits % 2 ^ 63 ≤ 2047 * 2 ^ 52 → 2 ^ 63 ≤ bits → text ≡ sign_text true ++ spec.size_text (bits % 2 ^ 63) → text ≡ spec.float_text x
unfolding spec.float_text
negative x bits text e small sign is = rw (← e, le-ltb (2047 * 2 ^ 52) (bits % 2 ^ 63) small, le-leb (2 ^ 63) bits sign) is

positive : (x : Float) (bits : ℕ) (text : List ℕ) → bits ≡ to_bits binary64 x → bits % 2 ^ 63 ≤ 2047 * 2 ^ 52 → bits < 2 ^ 63 → text ≡ spec.size_text (bits % 2 ^ 63) → text ≡ spec.float_text x
unfolding spec.float_text
positive x bits text e small sign is = rw (← e, le-ltb (2047 * 2 ^ 52) (bits % 2 ^ 63) small, lt-leb (2 ^ 63) bits sign) is

parsed : (x : Float) (text : List ℕ) → T (fits binary64 x) → text ≡ spec.float_text x → parse_float binary64 text ≡ Some x
parsed x text fits e = ap (parse_float binary64) e ∙ (reads x fits).parses

numbered : (x : Float) (text : List ℕ) → T (fits binary64 x) → text ≡ spec.float_text x → float_is_finite x ≡ true → IsPlainNumber text
numbered x text fits e finite = subst IsPlainNumber (sym e) ((reads x fits).plain finite)

pub returns-then-bits-gt-INFINITY-clause-text : goal.returns-then-bits-gt-INFINITY-clause-text
returns-then-bits-gt-INFINITY-clause-text c = no_number c.args.x _ c.push.new.self c.f64_to_bits_with_nan-bits.ensures c.if-bits-gt-INFINITY.true (c.push.ensures.text ∙ ap (λ l. l ++ codes "NaN") c.empty-out.ensures)

pub returns-then-bits-gt-INFINITY-clause-parses : goal.returns-then-bits-gt-INFINITY-clause-parses
returns-then-bits-gt-INFINITY-clause-parses c = parsed c.args.x c.push.new.self (passes _ c.well_formed.0.1) (returns-then-bits-gt-INFINITY-clause-text c)

pub returns-then-bits-gt-INFINITY-clause-number : goal.returns-then-bits-gt-INFINITY-clause-number
returns-then-bits-gt-INFINITY-clause-number c = numbered c.args.x c.push.new.self (passes _ c.well_formed.0.1) (returns-then-bits-gt-INFINITY-clause-text c)

pub returns-clause-text : goal.returns-clause-text
returns-clause-text c =
    let bits = c.f64_to_bits_with_nan-bits.result in
    let p = c.push_size in
    elim c.if-bits-ge-SIGN.branch [
      | then-bits-ge-SIGN w ↦
          negative c.args.x bits p.new.out c.f64_to_bits_with_nan-bits.ensures c.if-bits-gt-INFINITY.false w.if-bits-ge-SIGN.true
          (p.ensures ∙ ap (λ l. l ++ spec.size_text (bits % 2 ^ 63)) (w.out-is ∙ w.push-then-bits-ge-SIGN.ensures.text ∙ ap (λ l. l ++ sign_text true) c.empty-out.ensures))
      | else-bits-ge-SIGN w ↦
          positive c.args.x bits p.new.out c.f64_to_bits_with_nan-bits.ensures c.if-bits-gt-INFINITY.false w.if-bits-ge-SIGN.false
          (p.ensures ∙ ap (λ l. l ++ spec.size_text (bits % 2 ^ 63)) (w.out-is ∙ c.empty-out.ensures))
    ]

pub returns-clause-parses : goal.returns-clause-parses
returns-clause-parses c = parsed c.args.x c.push_size.new.out (passes _ c.well_formed.0.1) (returns-clause-text c)

pub returns-clause-number : goal.returns-clause-number
returns-clause-number c = numbered c.args.x c.push_size.new.out (passes _ c.well_formed.0.1) (returns-clause-text c)

brief : (x : Float) (text : List ℕ) → T (fits binary64 x) → text ≡ spec.float_text x → length text ≤ 24
brief x text fits e = subst (λ (t : List ℕ). length t ≤ 24) (sym e) (reads x fits).short

pub returns-then-bits-gt-INFINITY-clause-short : goal.returns-then-bits-gt-INFINITY-clause-short
returns-then-bits-gt-INFINITY-clause-short c = brief c.args.x c.push.new.self (passes _ c.well_formed.0.1) (returns-then-bits-gt-INFINITY-clause-text c)

pub returns-clause-short : goal.returns-clause-short
returns-clause-short c = brief c.args.x c.push_size.new.out (passes _ c.well_formed.0.1) (returns-clause-text c)

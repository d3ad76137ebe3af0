-- What is written of a float, by what the code asks of it.
use Rattle.std.proofs.Common.{◌≡◌, true, false, cond, codes, refl, sym, true≢false}
use Rattle.std.specs.Float.{float_is_finite, is_sign_negative}
use Rattle.std.specs.Float.Ieee.{Float, nan, inf, fin}
use lib.Ieee.{is_nan}
use Rattle.json.specs.Json as json
use Rattle.otel_float.specs.FloatText.{float_text}
use Rattle.otel_otlp.specs.OtlpValues.{float_json}

pub nan_is : (x : Float) → is_nan x ≡ true → float_json x ≡ json.string (codes "NaN")
unfolding is_nan
nan_is nan e = refl
nan_is (inf s) e = absurd (true≢false (sym e))
nan_is (fin s m e) h = absurd (true≢false (sym h))

pub finite_is : (x : Float) → float_is_finite x ≡ true → float_json x ≡ json.number (float_text x)
unfolding float_is_finite
finite_is nan e = absurd (true≢false (sym e))
finite_is (inf s) e = absurd (true≢false (sym e))
finite_is (fin s m e) h = refl

pub infinity_is : (x : Float) → is_nan x ≡ false → float_is_finite x ≡ false
    → float_json x ≡ json.string (cond (is_sign_negative x) (codes "-Infinity") (codes "Infinity"))
unfolding is_nan float_is_finite is_sign_negative
infinity_is nan e h = absurd (true≢false e)
infinity_is (inf true) e h = refl
infinity_is (inf false) e h = refl
infinity_is (fin s m k) e h = absurd (true≢false h)

use Rattle.std.proofs.Common.{◌≡◌, ℕ, sym, ap, ◌∙◌, eqb-true, eq-eqb}
use Rattle.std.specs.Bool.{passes}
use Rattle.std.specs.Float.{binary64}
use Rattle.std.specs.Float.Ieee.{Float, of_bits, to_bits}
use Rattle.std.proofs.lemmas.Bool.Decides.{same_from_decides}
use lib.Ieee.Bits.{of_bits-to_bits}
use Rattle.opentelemetry.specs.Same.{same_float_decides}
use Rattle.opentelemetry.proofs.common.float.same_float.Goals as goal

pub returns : goal.returns
returns c =
    let this = of_bits-to_bits binary64 c.args.this (passes _ c.well_formed.0.1) in
    let that = of_bits-to_bits binary64 c.args.that (passes _ c.well_formed.1.0.1) in
    rw (c.f64_to_bits_with_nan.ensures, c.f64_to_bits_with_nan-2.ensures) (same_from_decides _ _
    (λ same. sym this ∙ ap (of_bits binary64) (eqb-true _ _ same) ∙ that, λ same. eq-eqb _ _ (ap (to_bits binary64) same))
    (same_float_decides c.args.this c.args.that))

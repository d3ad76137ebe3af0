-- One item more.
use Rattle.std.proofs.Common.{arith, get_or, pos, rules}
use Rattle.std.specs.Int.{w64}
use Rattle.std.specs.Prelude.{FitsSigned}
use Rattle.otel_otlp.proofs.Fitting.{all_done, all_more_at}
use Rattle.otel_otlp.proofs.fits.integers_fit.Goals as goal

pub loop-number-preserved : goal.loop-number-preserved
loop-number-preserved c =
    let numbers = c.args.numbers.now in
    let i = c.loop-number.number-index in
    let fits : FitsSigned w64 (get_or numbers i (pos 0)) = search rules in
    all_more_at (FitsSigned w64) numbers i (pos 0) (omega arith) c.loop-number.invariant fits

pub returns : goal.returns
returns c =
    all_done (FitsSigned w64) c.args.numbers.now c.loop-number.number-index (omega arith) c.loop-number.invariant

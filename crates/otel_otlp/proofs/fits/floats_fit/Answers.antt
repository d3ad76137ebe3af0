-- One item more.
use Rattle.std.proofs.Common.{arith}
use Rattle.std.specs.Float.Ieee.{nan}
use Rattle.otel_otlp.specs.Fits.{FloatFits}
use Rattle.otel_otlp.proofs.Fitting.{all_done, all_more_at}
use Rattle.otel_otlp.proofs.fits.floats_fit.Goals as goal

pub loop-number-preserved : goal.loop-number-preserved
loop-number-preserved c =
    all_more_at FloatFits c.args.numbers.now c.loop-number.number-index nan (omega arith) c.loop-number.invariant
    c.float_fits.ensures

pub returns : goal.returns
returns c = all_done FloatFits c.args.numbers.now c.loop-number.number-index (omega arith) c.loop-number.invariant

-- One pair more.
use Rattle.std.proofs.Common.{subst, sym}
use Rattle.std.specs.List.{AllByRecursion}
use Rattle.otel_otlp.specs.Fits.{PairFits}
use Rattle.otel_otlp.proofs.fits.resource_fits.Goals as goal

pub loop-value-preserved : goal.loop-value-preserved
loop-value-preserved c = λ left.
    c.loop-value.invariant (subst (AllByRecursion PairFits) (sym c.in-Some.ensures.steps) (c.value_fits.ensures, left))

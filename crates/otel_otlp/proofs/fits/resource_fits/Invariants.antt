-- Where the pairs that are left fit, all do.
use Rattle.std.proofs.Common.{length}
use Rattle.std.specs.FinMap.{entries}
use Rattle.std.specs.List.{AllByRecursion}
use Rattle.otel_otlp.specs.Fits.{PairFits}
use Rattle.otel_otlp.proofs.fits.resource_fits.Given as goal

abbrev pub invariant-loop-value : goal.invariant-loop-value
invariant-loop-value l =
    AllByRecursion PairFits l.value-iterator → AllByRecursion PairFits (entries l.fn.resource.attributes)

abbrev pub decreases-loop-value : goal.decreases-loop-value
decreases-loop-value l = length l.value-iterator

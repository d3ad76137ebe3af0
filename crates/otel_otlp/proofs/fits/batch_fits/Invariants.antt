-- The items so far fit.
use Rattle.std.proofs.Common.{take}
use Rattle.std.specs.List.{AllByRecursion}
use Rattle.otel_otlp.specs.Fits.{SpanFits}
use Rattle.otel_otlp.proofs.fits.batch_fits.Given as goal

abbrev pub invariant-loop-span : goal.invariant-loop-span
invariant-loop-span l = AllByRecursion SpanFits (take l.span-index l.batch)

-- The items so far fit.
use Rattle.std.proofs.Common.{take}
use Rattle.std.specs.List.{AllByRecursion}
use Rattle.otel_otlp.specs.Fits.{AttributeFits}
use Rattle.otel_otlp.proofs.fits.attributes_fit.Given as goal

abbrev pub invariant-loop-attribute : goal.invariant-loop-attribute
invariant-loop-attribute l = AllByRecursion AttributeFits (take l.attribute-index l.attributes)

-- The items so far fit.
use Rattle.std.proofs.Common.{take}
use Rattle.std.specs.List.{AllByRecursion}
use Rattle.otel_otlp.specs.Fits.{LinkFits}
use Rattle.otel_otlp.proofs.fits.links_fit.Given as goal

abbrev pub invariant-loop-link : goal.invariant-loop-link
invariant-loop-link l = AllByRecursion LinkFits (take l.link-index l.links)

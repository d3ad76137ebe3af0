-- The items so far fit.
use Rattle.std.proofs.Common.{take}
use Rattle.std.specs.List.{AllByRecursion}
use Rattle.otel_otlp.specs.Fits.{EventFits}
use Rattle.otel_otlp.proofs.fits.events_fit.Given as goal

abbrev pub invariant-loop-event : goal.invariant-loop-event
invariant-loop-event l = AllByRecursion EventFits (take l.event-index l.events)

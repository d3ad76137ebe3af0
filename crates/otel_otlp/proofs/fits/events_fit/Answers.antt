-- One item more.
use Rattle.std.proofs.Common.{arith}
use Rattle.otel_otlp.specs.Fits.{EventFits}
use Rattle.otel_otlp.proofs.Fitting.{all_done, all_more}
use Rattle.otel_otlp.proofs.fits.events_fit.Goals as goal

pub loop-event-preserved : goal.loop-event-preserved
loop-event-preserved c =
    all_more EventFits c.args.events.now c.loop-event.event-index c.event-item.result (omega arith) c.event-item.is
    c.loop-event.invariant c.event_fits.ensures

pub returns : goal.returns
returns c = all_done EventFits c.args.events.now c.loop-event.event-index (omega arith) c.loop-event.invariant

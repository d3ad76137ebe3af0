-- One item more.
use Rattle.std.proofs.Common.{arith}
use Rattle.otel_otlp.specs.Fits.{SpanFits}
use Rattle.otel_otlp.proofs.Fitting.{all_done, all_more}
use Rattle.otel_otlp.proofs.fits.batch_fits.Goals as goal

pub loop-span-preserved : goal.loop-span-preserved
loop-span-preserved c =
    all_more SpanFits c.args.batch.now c.loop-span.span-index c.span-item.result (omega arith) c.span-item.is
    c.loop-span.invariant c.span_fits.ensures

pub returns : goal.returns
returns c = all_done SpanFits c.args.batch.now c.loop-span.span-index (omega arith) c.loop-span.invariant

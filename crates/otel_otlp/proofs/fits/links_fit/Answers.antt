-- One item more.
use Rattle.std.proofs.Common.{arith}
use Rattle.otel_otlp.specs.Fits.{LinkFits}
use Rattle.otel_otlp.proofs.Fitting.{all_done, all_more}
use Rattle.otel_otlp.proofs.fits.links_fit.Goals as goal

pub loop-link-preserved : goal.loop-link-preserved
loop-link-preserved c =
    all_more LinkFits c.args.links.now c.loop-link.link-index c.link-item.result (omega arith) c.link-item.is
    c.loop-link.invariant c.link_fits.ensures

pub returns : goal.returns
returns c = all_done LinkFits c.args.links.now c.loop-link.link-index (omega arith) c.loop-link.invariant

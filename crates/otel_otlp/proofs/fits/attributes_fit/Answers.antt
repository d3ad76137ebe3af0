-- One item more.
use Rattle.std.proofs.Common.{arith}
use Rattle.otel_otlp.specs.Fits.{AttributeFits}
use Rattle.otel_otlp.proofs.Fitting.{all_done, all_more}
use Rattle.otel_otlp.proofs.fits.attributes_fit.Goals as goal

pub loop-attribute-preserved : goal.loop-attribute-preserved
loop-attribute-preserved c =
    all_more AttributeFits c.args.attributes.now c.loop-attribute.attribute-index c.attribute-item.result (omega arith)
    c.attribute-item.is c.loop-attribute.invariant c.attribute_fits.ensures

pub returns : goal.returns
returns c =
    all_done AttributeFits c.args.attributes.now c.loop-attribute.attribute-index (omega arith)
    c.loop-attribute.invariant

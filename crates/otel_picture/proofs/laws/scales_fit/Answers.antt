use Rattle.otel_picture.proofs.Scales.{scale_begins, scale_ends, scale_follows, scale_holds, scale_none}
use Rattle.otel_picture.proofs.laws.scales_fit.Goals as goal

pub returns : goal.returns
returns c = record {
  holds = scale_holds;
  follows = scale_follows;
  begins = scale_begins;
  ends = scale_ends;
  alone = scale_none;
}

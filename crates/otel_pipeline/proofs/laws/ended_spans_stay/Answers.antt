use Rattle.std.proofs.Common.{refl}
use Rattle.otel_pipeline.specs.SpanHistory.{ended}
use Rattle.otel_pipeline.proofs.SpanLaws.{over_stays}
use Rattle.otel_pipeline.proofs.laws.ended_spans_stay.Goals as goal

pub returns : goal.returns
returns c = λ span edits. over_stays edits span (ended span) refl

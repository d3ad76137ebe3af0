use Rattle.std.proofs.Common.{[], rules}
use Rattle.otel_sampling.specs.Sampling.{added_attributes}
use Rattle.otel_pipeline.specs.SpanHistory.{begun}
use Rattle.otel_pipeline.specs.StartRequest.{start_of}
use Rattle.otel_pipeline.proofs.trace.tracer.begin.Goals as goal

pub recording-requires : goal.recording-requires
recording-requires c = record {
  history = begun (start_of c.args.scope.now c.args.builder c.args.parent.now c.args.now.0 c.args.span_limits c.args.span_context (added_attributes c.args.added)) [];
  is = search rules;
}

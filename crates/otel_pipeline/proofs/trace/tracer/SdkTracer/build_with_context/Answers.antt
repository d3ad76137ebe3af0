use Rattle.otel_pipeline.specs.StartRequest.{start_request}
use Rattle.otel_pipeline.proofs.Starting.{prepared_starts}
use Rattle.otel_pipeline.proofs.trace.tracer.SdkTracer.build_with_context.Goals as goal

pub returns-clause-answers : goal.returns-clause-answers
returns-clause-answers g c =
    prepared_starts g.P.SpanProcessor g.S.ShouldSample g.G.GivesIds c.args.provider.now c.prepare.new.provider
    c.tell_prepared.new.provider (start_request c.args.self.now c.args.builder c.args.cx.now c.args.now.0)
    c.in_ok-span.span c.tell_prepared.new.span c.in_ok-span.ensures.ok c.tell_prepared.ensures

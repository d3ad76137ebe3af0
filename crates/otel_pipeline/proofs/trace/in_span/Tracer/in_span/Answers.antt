use Rattle.std.proofs.Common.{Ok, refl, subst}
use Rattle.opentelemetry.specs.Plain.{PlainContext}
use Rattle.opentelemetry.specs.PlainSpanBuilder.{PlainSpanBuilder}
use Rattle.otel_pipeline.specs.InSpan.{WorksAndEnds, clocked}
use Rattle.otel_pipeline.specs.StartRequest.{start_request}
use Rattle.otel_pipeline.specs.Starting.{AnswersStart, DrawsAtMost}
use Rattle.otel_pipeline.proofs.trace.in_span.Tracer.in_span.Goals as goal

pub returns-in-Ok-clause-ok : goal.returns-in-Ok-clause-ok
returns-in-Ok-clause-ok g c = record {
  span = c.in-Ok.span;
  started = clocked c.start_inside.new.provider c.now-now.new.self;
  starts = (
    c.now-now.result.0,
    c.now-now.ensures,
    subst
        (λ (builder : PlainSpanBuilder). AnswersStart g.P.SpanProcessor g.S.ShouldSample g.G.GivesIds c.args.provider.now
        (start_request (g.Self.Tracer.scope c.args.self.now) builder c.args.cx.now c.now-now.result.0) (Ok c.in-Ok.span)
        c.start_inside.new.provider) c.into_builder.ensures c.in-Ok.ensures.ok.0,
  );
  ends = subst
      (λ (cx : PlainContext). WorksAndEnds g.P.SpanProcessor g.C.Now.tells g.X.HoldsSpan.held_span g.F.FnOnce
      c.in-Ok.span cx (clocked c.start_inside.new.provider c.now-now.new.self) c.args.work c.work_and_end-done.result
      (clocked c.work_and_end-done.new.provider c.work_and_end-done.new.clock)) c.in-Ok.ensures.ok.1 c.work_and_end-done.ensures;
}

pub returns-in-Err-clause-err : goal.returns-in-Err-clause-err
returns-in-Err-clause-err g c = (
  refl,
  (
    c.now-now.result.0,
    c.now-now.ensures,
    subst
        (λ (builder : PlainSpanBuilder). DrawsAtMost g.G.GivesIds c.args.provider.now
        (start_request (g.Self.Tracer.scope c.args.self.now) builder c.args.cx.now c.now-now.result.0)
        c.start_inside.new.provider) c.into_builder.ensures c.in-Err.ensures.err,
  ),
)

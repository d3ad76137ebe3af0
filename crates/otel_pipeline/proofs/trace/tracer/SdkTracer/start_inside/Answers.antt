use Rattle.std.proofs.Common.{Some, ap, sym, ◌∙◌}
use Rattle.opentelemetry.specs.Plain.{PlainSpanContext}
use Rattle.otel_pipeline.specs.StartRequest.{start_request}
use Rattle.otel_pipeline.proofs.Starting.{prepared_starts, told_context}
use Rattle.otel_pipeline.proofs.trace.tracer.SdkTracer.start_inside.Goals as goal

pub returns-clause-ok : goal.returns-clause-ok
returns-clause-ok g c = (
  prepared_starts g.P.SpanProcessor g.S.ShouldSample g.G.GivesIds c.args.provider.now c.prepare.new.provider
      c.tell_prepared.new.provider (start_request c.args.self.now c.args.builder c.args.cx.now c.args.now.0)
      c.in_ok-span.span c.tell_prepared.new.span c.in_ok-span.ensures.ok c.tell_prepared.ensures,
  c.in-Ok.ensures
      ∙ ap (λ (context : PlainSpanContext). record c.args.cx.now { span_context = Some context })
      (sym (told_context g.P.SpanProcessor g.S.ShouldSample g.G.GivesIds c.args.cx.now c.in_ok-span.span
      c.tell_prepared.new.span c.prepare.new.provider c.tell_prepared.new.provider c.tell_prepared.ensures)),
)

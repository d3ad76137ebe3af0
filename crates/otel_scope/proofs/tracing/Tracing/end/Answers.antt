use Rattle.std.proofs.Common.{IsOk, refl, subst, sym}
use Rattle.otel_pipeline.specs.Ending.{EndIsInfallible}
use Rattle.otel_pipeline.specs.InSpan.{EndsOrDrops}
use Rattle.otel_pipeline.specs.SpanHistory.{PlainSpan}
use Rattle.otel_scope.specs.Currents.{settled}
use Rattle.otel_scope.specs.Tracings.{Ends}
use Rattle.otel_scope.specs.declared.tracing.Tracing.{Tracing}
use Rattle.otel_scope.proofs.tracing.Tracing.end.Goals as goal

pub returns : goal.returns
returns g c = subst
    (λ (new : Tracing g.row.P.Denot g.row.S.Denot g.row.G.Denot g.row.C.Denot g.row.T.Denot). Ends g.P.SpanProcessor
    g.C.Now.tells c.args.self.now (settled c.args.failed c.args.span) c.args.self.now.current new)
    (sym c.count.ensures)
    (record {
      end = c.now-end.result.0;
      told = c.now-end.ensures;
      answer = c.end_or_drop-ended.result;
      delivers = subst
          (λ (span : PlainSpan). EndsOrDrops g.P.SpanProcessor c.args.self.now.provider span c.now-end.result.0
          c.end_or_drop-ended.result c.end_or_drop-ended.new.provider) c.settle.ensures
          c.end_or_drop-ended.ensures.ends;
      free = subst
          (λ (span : PlainSpan). EndIsInfallible span c.args.self.now.provider → IsOk c.end_or_drop-ended.result)
          c.settle.ensures c.end_or_drop-ended.ensures.free;
      rest = refl;
    })
